-- The characters of a value, and of its text.
use Rattle.std.proofs.Common.{◌≡◌, ◌≢◌, ℕ, ◌+◌, ◌<◌, ◌≤◌, Bool, true, false, ◌&&◌, ◌⊎◌, inl, inr, Option, Some, None, MatchOption, List, [], ◌∷◌, ◌++◌, length, get_or, refl, sym, ap, ◌∙◌, arith, append_assoc, length-append, suc, lit<}
use Rattle.std.specs.List.{flat_map}
use Rattle.std.specs.Char.{encode_utf8, len_utf8}
use Rattle.std.specs.Str.{chars, encode_utf8_all, all_scalars, IsUtf8}
use Rattle.std.proofs.lemmas.Str.{encodes-append, encodes-chars, scalars-chars, chars-append, chars-encodes, length-encode}
use Rattle.std.proofs.lemmas.Str.Pattern.{split_parts, IsSplitOnceResult}
use Rattle.std.proofs.lemmas.Grind.{flat_map-append}
use Rattle.std.proofs.lemmas.List.{append-nil, flat_map_more}
use lib.Utf8.{scalar}
use denote.Ref.{Bor}
use Rattle.labels.specs.Canonical.{escape}
use Rattle.labels.proofs.Escapes.{IsPlain, escape_plain, escape_char}
use Rattle.labels.proofs.Reading.{byte_cases, after_units}
use Rattle.labels.proofs.Unique.{NoEquals}

unit_encodes : (c : ℕ) → flat_map escape (encode_utf8 c) ≡ encode_utf8_all (escape c)
unfolding encode_utf8
unit_encodes c = by (byte_cases c)
  where
    by : ((c ≡ 92) ⊎ ((c ≡ 34) ⊎ ((c ≡ 10) ⊎ IsPlain c))) → flat_map escape (encode_utf8 c) ≡ encode_utf8_all (escape c)
    by (inl e) = rw e refl
    by (inr (inl e)) = rw e refl
    by (inr (inr (inl e))) = rw e refl
    by (inr (inr (inr p))) = escape_char c p ∙ sym (append-nil (encode_utf8 c)) ∙ sym (ap encode_utf8_all (escape_plain c p))

-- the text of the characters is the text of the bytes
escapes_encode : (cs : List ℕ) → flat_map escape (encode_utf8_all cs) ≡ encode_utf8_all (flat_map escape cs)
escapes_encode [] = refl
escapes_encode (c ∷ cs) =
    flat_map-append escape (encode_utf8 c) (encode_utf8_all cs)
    ∙ (λ i. unit_encodes c i ++ escapes_encode cs i)
    ∙ sym (encodes-append (escape c) (flat_map escape cs))

both_true : (a b : Bool) → (a && b) ≡ true → (a ≡ true) × (b ≡ true)
both_true true b h = (refl, h)
both_true false b h = cc

and_true : (a b : Bool) → a ≡ true → b ≡ true → (a && b) ≡ true
and_true true b h g = g
and_true false b h g = cc

unit_written : (c : ℕ) (rest : List ℕ) → scalar c ≡ true → all_scalars rest ≡ true → all_scalars (escape c ++ rest) ≡ true
unit_written c rest h g = by (byte_cases c)
  where
    by : ((c ≡ 92) ⊎ ((c ≡ 34) ⊎ ((c ≡ 10) ⊎ IsPlain c))) → all_scalars (escape c ++ rest) ≡ true
    by (inl e) = rw e g
    by (inr (inl e)) = rw e g
    by (inr (inr (inl e))) = rw e g
    by (inr (inr (inr p))) = ap (λ text. all_scalars (text ++ rest)) (escape_plain c p) ∙ and_true (scalar c) (all_scalars rest) h g

unit_read : (c : ℕ) (rest : List ℕ) → all_scalars (escape c ++ rest) ≡ true → (scalar c ≡ true) × (all_scalars rest ≡ true)
unit_read c rest h = by (byte_cases c)
  where
    by : ((c ≡ 92) ⊎ ((c ≡ 34) ⊎ ((c ≡ 10) ⊎ IsPlain c))) → (scalar c ≡ true) × (all_scalars rest ≡ true)
    by (inl e) = (rw e refl, rw e at h)
    by (inr (inl e)) = (rw e refl, rw e at h)
    by (inr (inr (inl e))) = (rw e refl, rw e at h)
    by (inr (inr (inr p))) = both_true (scalar c) (all_scalars rest) (sym (ap (λ text. all_scalars (text ++ rest)) (escape_plain c p)) ∙ h)

scalars_written : (cs rest : List ℕ) → all_scalars cs ≡ true → all_scalars rest ≡ true → all_scalars (flat_map escape cs ++ rest) ≡ true
scalars_written [] rest h g = g
scalars_written (c ∷ cs) rest h g =
    let parts = both_true (scalar c) (all_scalars cs) h in
    ap all_scalars (append_assoc (escape c) (flat_map escape cs) rest) ∙ unit_written c (flat_map escape cs ++ rest) parts.0 (scalars_written cs rest parts.1 g)

scalars_read : (cs rest : List ℕ) → all_scalars (flat_map escape cs ++ rest) ≡ true → all_scalars cs ≡ true
scalars_read [] rest h = refl
scalars_read (c ∷ cs) rest h =
    let parts = unit_read c (flat_map escape cs ++ rest) (sym (ap all_scalars (append_assoc (escape c) (flat_map escape cs) rest)) ∙ h) in
    and_true (scalar c) (all_scalars cs) parts.0 (scalars_read cs rest parts.1)

-- the characters of a text that begins with a value
pub chars_of_value : (text value rest : List ℕ) → IsUtf8 value → text ≡ flat_map escape value ++ 34 ∷ rest → (ws : List ℕ) × (encode_utf8_all ws ≡ value) × (chars text ≡ flat_map escape ws ++ 34 ∷ chars rest)
unfolding encode_utf8
chars_of_value text value rest u e =
    let ws : List ℕ = u.0 in
    let written : List ℕ = flat_map escape ws ++ 34 ∷ [] in
    let lawful : all_scalars written ≡ true = scalars_written ws (34 ∷ []) u.1.0 refl in
    let whole : text ≡ encode_utf8_all written ++ rest =
    e ∙ ap (λ v. flat_map escape v ++ 34 ∷ rest) (sym u.1.1) ∙ ap (λ t. t ++ 34 ∷ rest) (escapes_encode ws)
    ∙ sym (append_assoc (encode_utf8_all (flat_map escape ws)) (34 ∷ []) rest)
    ∙ ap (λ t. t ++ rest) (sym (encodes-append (flat_map escape ws) (34 ∷ []))) in (
      ws,
      u.1.1,
      ap chars whole ∙ chars-append (encode_utf8_all written) rest (written, (lawful, refl))
          ∙ ap (λ t. t ++ chars rest) (chars-encodes written lawful) ∙ append_assoc (flat_map escape ws) (34 ∷ []) (chars rest),
    )

-- the value that characters read from a text make
pub value_of_chars : (text rest cs : List ℕ) → IsUtf8 text → IsUtf8 rest → chars text ≡ flat_map escape cs ++ chars rest → IsUtf8 (encode_utf8_all cs) × (text ≡ flat_map escape (encode_utf8_all cs) ++ rest)
value_of_chars text rest cs u v e = (
  (cs, (scalars_read cs (chars rest) (sym (ap all_scalars e) ∙ scalars-chars text u), refl)),
  sym (encodes-chars text u) ∙ ap encode_utf8_all e ∙ encodes-append (flat_map escape cs) (chars rest)
      ∙ (λ i. sym (escapes_encode cs) i ++ encodes-chars rest v i),
)

-- nothing of the kind stands where neither a character of a value nor a quote does
pub stuck_value : (text rest cs : List ℕ) → IsUtf8 rest → chars text ≡ flat_map escape cs ++ chars rest → ((c : ℕ) (ds : List ℕ) → chars rest ≢ escape c ++ ds) → ((ds : List ℕ) → rest ≢ 34 ∷ ds)
    → (value more : List ℕ) → IsUtf8 value → length value ≤ 2048 → text ≢ flat_map escape value ++ 34 ∷ more
unfolding encode_utf8
stuck_value text rest cs u e no_unit no_end value more w short t =
    let whole = chars_of_value text value more w t in
    let left = after_units cs whole.0 (chars rest) (chars more) (sym e ∙ whole.2) in
    by left.0 left.2
  where
    by : (us : List ℕ) → chars rest ≡ flat_map escape us ++ 34 ∷ chars more → ⊥
    by [] k = no_end (encode_utf8_all (chars more)) (sym (encodes-chars rest u) ∙ ap encode_utf8_all k)
    by (c ∷ us) k = no_unit c (flat_map escape us ++ 34 ∷ chars more) (k ∙ append_assoc (escape c) (flat_map escape us) (34 ∷ chars more))

-- what is read is already too long
pub long_value : (text rest cs : List ℕ) → chars text ≡ flat_map escape cs ++ chars rest → 2048 < length (encode_utf8_all cs)
    → (value more : List ℕ) → IsUtf8 value → length value ≤ 2048 → text ≢ flat_map escape value ++ 34 ∷ more
long_value text rest cs e l value more w s t =
    let whole = chars_of_value text value more w t in
    let left = after_units cs whole.0 (chars rest) (chars more) (sym e ∙ whole.2) in
    let long : length value ≡ length (encode_utf8_all cs) + length (encode_utf8_all left.0) =
    ap length (sym whole.1 ∙ ap encode_utf8_all left.1 ∙ encodes-append cs left.0) ∙ length-append (encode_utf8_all cs) (encode_utf8_all left.0) in
    absurd (omega (arith, long, l, s))

-- one character more
pub one_more_read : (text rest after cs : List ℕ) (n width c : ℕ) → chars text ≡ flat_map escape cs ++ chars rest → length (encode_utf8_all cs) ≡ n → chars rest ≡ escape c ++ chars after → width ≡ len_utf8 c
    → (ds : List ℕ) × (chars text ≡ flat_map escape ds ++ chars after) × (length (encode_utf8_all ds) ≡ n + width)
one_more_read text rest after cs n width c e l f w =
    let more : encode_utf8_all (cs ++ c ∷ []) ≡ encode_utf8_all cs ++ encode_utf8 c =
    encodes-append cs (c ∷ []) ∙ ap (λ t. encode_utf8_all cs ++ t) (append-nil (encode_utf8 c)) in (
      cs ++ c ∷ [],
      e ∙ ap (λ t. flat_map escape cs ++ t) f ∙ sym (append_assoc (flat_map escape cs) (escape c) (chars after)) ∙ ap (λ t. t ++ chars after) (flat_map_more escape [] cs c),
      ap length more ∙ length-append (encode_utf8_all cs) (encode_utf8 c) ∙ (λ i. l i + (length-encode c ∙ sym w) i),
    )

no_equals_from : (xs : List ℕ) → ((i : ℕ) → i < length xs → get_or xs i 0 ≢ 61) → NoEquals xs
no_equals_from [] h = tt
no_equals_from (x ∷ xs) h = (h 0 (omega arith), no_equals_from xs (λ i l. h (suc i) (omega arith)))

-- where a text is cut at its first `=`
pub cut_at_equals : (bs : List ℕ) (r : Option (Bor (List ℕ) × Bor (List ℕ))) → IsSplitOnceResult 61 bs r → MatchOption r (NoEquals bs) (λ x. (bs ≡ x.0.now ++ 61 ∷ x.1.now) × NoEquals x.0.now)
cut_at_equals bs None h = no_equals_from bs (split_parts 61 bs None h (lit< tt))
cut_at_equals bs (Some x) h = let parts = split_parts 61 bs (Some x) h (lit< tt) in (parts.0, no_equals_from x.0.now parts.1)

-- the value before a quote
pub read_before_quote : (text rest after cs : List ℕ) (n : ℕ) → IsUtf8 text → IsUtf8 rest → chars text ≡ flat_map escape cs ++ chars rest → length (encode_utf8_all cs) ≡ n → rest ≡ 34 ∷ after
    → (value : List ℕ) × IsUtf8 value × (length value ≡ n) × (text ≡ flat_map escape value ++ 34 ∷ after)
read_before_quote text rest after cs n u v e l q =
    let made = value_of_chars text rest cs u v e in
    (encode_utf8_all cs, made.0, l, made.1 ∙ ap (λ t. flat_map escape (encode_utf8_all cs) ++ t) q)
