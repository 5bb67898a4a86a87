-- What a character's bytes become in a value.
use Rattle.std.proofs.Common.{◌≡◌, ℕ, ◌<◌, ◌≢◌, List, [], ◌∷◌, ◌++◌, length, get_or, refl, sym, ap, ◌∙◌, arith, suc, append_assoc}
use Rattle.std.proofs.lemmas.Bool.Decides.{nat_tests}
use Rattle.std.specs.List.{flat_map}
use Rattle.std.specs.Char.{encode_utf8}
use Rattle.std.specs.Str.{encode_utf8_all}
use Rattle.std.proofs.lemmas.Str.{inside_one, encodes-append}
use Rattle.std.proofs.lemmas.Grind.{flat_map-append}
use Rattle.std.proofs.lemmas.List.{append-nil}
use Rattle.labels.specs.Canonical.{escape}

-- a byte that stands for itself
abbrev pub IsPlain : ℕ → Type 0
IsPlain b = (b ≢ 92) × (b ≢ 34) × (b ≢ 10)

pub escape_plain : (b : ℕ) → IsPlain b → escape b ≡ b ∷ []
escape_plain b h = grind (arith, nat_tests)

pub escape_all_plain : (bs : List ℕ) → ((k : ℕ) → k < length bs → IsPlain (get_or bs k 0)) → flat_map escape bs ≡ bs
escape_all_plain [] h = refl
escape_all_plain (b ∷ bs) h =
    let first : escape b ≡ b ∷ [] = escape_plain b (h 0 (omega arith)) in
    let rest : flat_map escape bs ≡ bs = escape_all_plain bs (λ k l. h (suc k) (omega arith)) in
    cc

-- the bytes of a character that stands for itself stand for themselves
pub escape_char : (c : ℕ) → IsPlain c → flat_map escape (encode_utf8 c) ≡ encode_utf8 c
escape_char c h = escape_all_plain (encode_utf8 c) (λ k l. (other c 92 k l (omega arith) h.0, other c 34 k l (omega arith) h.1, other c 10 k l (omega arith) h.2))
  where
    -- an ASCII byte inside a character is that character
    other : (c b k : ℕ) → k < length (encode_utf8 c) → b < 128 → (c ≢ b) → get_or (encode_utf8 c) k 0 ≢ b
    other c b k l small n e = n (inside_one c [] (encode_utf8 c) k (sym (append-nil (encode_utf8 c))) l (omega (arith, e)) ∙ e)

-- one character more is written
pub one_more_character : (old mid new cs : List ℕ) (c : ℕ) → mid ≡ old ++ flat_map escape (encode_utf8_all cs) → new ≡ mid ++ flat_map escape (encode_utf8 c) → new ≡ old ++ flat_map escape (encode_utf8_all (cs ++ c ∷ []))
one_more_character old mid new cs c e f =
    f ∙ ap (λ xs. xs ++ flat_map escape (encode_utf8 c)) e
    ∙ append_assoc old (flat_map escape (encode_utf8_all cs)) (flat_map escape (encode_utf8 c))
    ∙ ap (λ xs. old ++ xs) (sym (flat_map-append escape (encode_utf8_all cs) (encode_utf8 c))
    ∙ ap (flat_map escape) (ap (λ xs. encode_utf8_all cs ++ xs) (sym (append-nil (encode_utf8 c))) ∙ sym (encodes-append cs (c ∷ []))))
