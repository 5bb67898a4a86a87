-- What is written of a value can be told apart, byte by byte or character by character.
use Rattle.std.proofs.Common.{◌≡◌, ◌≢◌, ℕ, Bool, true, false, ◌⊎◌, inl, inr, eqb, Option, Some, None, List, [], ◌∷◌, ◌++◌, refl, sym, ap, ◌∙◌, arith, append_assoc}
use Rattle.std.specs.Prelude.{if◌then◌else◌, ◌==◌}
use Rattle.std.specs.List.{flat_map}
use Rattle.std.specs.Option.{is_some}
use Rattle.std.proofs.lemmas.Bool.{false≢true}
use Rattle.std.proofs.lemmas.Bool.Decides.{nat_tests}
use Rattle.labels.specs.Canonical.{escape}
use Rattle.labels.proofs.Escapes.{IsPlain, escape_plain}

-- what stands after a `\`
abbrev pub read_marked : List ℕ → Option (ℕ × List ℕ)
read_marked [] = None
read_marked (b ∷ bs) = if b == 92 then Some (92, bs) else (if b == 34 then Some (34, bs) else (if b == 110 then Some (10, bs) else None))

-- one byte or character of a value, and what follows its text
abbrev pub read_unit : List ℕ → Option (ℕ × List ℕ)
read_unit [] = None
read_unit (b ∷ bs) = if b == 92 then read_marked bs else (if b == 34 then None else (if b == 10 then None else Some (b, bs)))

is_or_not : (b n : ℕ) → (b ≡ n) ⊎ (b ≢ n)
is_or_not b n = by (eqb b n) refl
  where
    by : (v : Bool) → eqb b n ≡ v → (b ≡ n) ⊎ (b ≢ n)
    by true e = inl (grind (arith, nat_tests))
    by false e = inr (grind (arith, nat_tests))

pub byte_cases : (b : ℕ) → (b ≡ 92) ⊎ ((b ≡ 34) ⊎ ((b ≡ 10) ⊎ IsPlain b))
byte_cases b = by_first (is_or_not b 92)
  where
    by_third : ((b ≡ 10) ⊎ (b ≢ 10)) → (b ≢ 92) → (b ≢ 34) → (b ≡ 10) ⊎ IsPlain b
    by_third (inl e) n m = inl e
    by_third (inr k) n m = inr (n, m, k)

    by_second : ((b ≡ 34) ⊎ (b ≢ 34)) → (b ≢ 92) → (b ≡ 34) ⊎ ((b ≡ 10) ⊎ IsPlain b)
    by_second (inl e) n = inl e
    by_second (inr m) n = inr (by_third (is_or_not b 10) n m)

    by_first : ((b ≡ 92) ⊎ (b ≢ 92)) → (b ≡ 92) ⊎ ((b ≡ 34) ⊎ ((b ≡ 10) ⊎ IsPlain b))
    by_first (inl e) = inl e
    by_first (inr n) = inr (by_second (is_or_not b 34) n)

reads_plain : (b : ℕ) (rest : List ℕ) → IsPlain b → read_unit (b ∷ rest) ≡ Some (b, rest)
reads_plain b rest h = grind (arith, nat_tests)

-- what is written is read back, whatever follows
reads_unit : (b : ℕ) (rest : List ℕ) → read_unit (escape b ++ rest) ≡ Some (b, rest)
reads_unit b rest = by (byte_cases b)
  where
    by : ((b ≡ 92) ⊎ ((b ≡ 34) ⊎ ((b ≡ 10) ⊎ IsPlain b))) → read_unit (escape b ++ rest) ≡ Some (b, rest)
    by (inl e) = rw e refl
    by (inr (inl e)) = rw e refl
    by (inr (inr (inl e))) = rw e refl
    by (inr (inr (inr h))) = ap (λ text. read_unit (text ++ rest)) (escape_plain b h) ∙ reads_plain b rest h

one_unit : (b c : ℕ) (xs ys : List ℕ) → escape b ++ xs ≡ escape c ++ ys → (b ≡ c) × (xs ≡ ys)
one_unit b c xs ys e =
    let s : Some (b, xs) ≡ Some (c, ys) = sym (reads_unit b xs) ∙ ap read_unit e ∙ reads_unit c ys in
    let pair : (b, xs) ≡ (c, ys) = cc in
    (ap (λ (r : ℕ × List ℕ). r.0) pair, ap (λ (r : ℕ × List ℕ). r.1) pair)

some_none : (r : ℕ × List ℕ) → Some r ≡ None → ⊥
some_none r e = absurd (false≢true (sym (ap is_some e)))

-- no text of a value begins with a quote
no_quote : (b : ℕ) (xs rest : List ℕ) → escape b ++ xs ≢ 34 ∷ rest
no_quote b xs rest e = some_none (b, xs) (sym (reads_unit b xs) ∙ ap read_unit e)

-- a longer value begins with what was read of it
pub after_units : (vs ws xs rest : List ℕ) → flat_map escape vs ++ xs ≡ flat_map escape ws ++ 34 ∷ rest → (us : List ℕ) × (ws ≡ vs ++ us) × (xs ≡ flat_map escape us ++ 34 ∷ rest)
after_units [] ws xs rest e = (ws, refl, e)
after_units (v ∷ vs) [] xs rest e = absurd (no_quote v (flat_map escape vs ++ xs) rest (sym (append_assoc (escape v) (flat_map escape vs) xs) ∙ e))
after_units (v ∷ vs) (w ∷ ws) xs rest e =
    let first = one_unit v w (flat_map escape vs ++ xs) (flat_map escape ws ++ 34 ∷ rest) (sym (append_assoc (escape v) (flat_map escape vs) xs) ∙ e ∙ append_assoc (escape w) (flat_map escape ws) (34 ∷ rest)) in
    let more = after_units vs ws xs rest first.1 in
    (more.0, (λ i. sym first.0 i ∷ more.1 i), more.2)

-- two values before a quote
pub one_value : (v w xs ys : List ℕ) → flat_map escape v ++ 34 ∷ xs ≡ flat_map escape w ++ 34 ∷ ys → (v ≡ w) × (xs ≡ ys)
one_value [] [] xs ys e = (refl, cc)
one_value [] (c ∷ w) xs ys e = absurd (no_quote c (flat_map escape w ++ 34 ∷ ys) xs (sym (append_assoc (escape c) (flat_map escape w) (34 ∷ ys)) ∙ sym e))
one_value (b ∷ v) [] xs ys e = absurd (no_quote b (flat_map escape v ++ 34 ∷ xs) ys (sym (append_assoc (escape b) (flat_map escape v) (34 ∷ xs)) ∙ e))
one_value (b ∷ v) (c ∷ w) xs ys e =
    let first = one_unit b c (flat_map escape v ++ 34 ∷ xs) (flat_map escape w ++ 34 ∷ ys) (sym (append_assoc (escape b) (flat_map escape v) (34 ∷ xs)) ∙ e ∙ append_assoc (escape c) (flat_map escape w) (34 ∷ ys)) in
    let more = one_value v w xs ys first.1 in
    ((λ i. first.0 i ∷ more.0 i), more.1)
