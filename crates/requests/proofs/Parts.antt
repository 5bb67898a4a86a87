-- A text is its part before the first mark, and the parts of what follows that mark.
use Rattle.std.proofs.Common.{◌≡◌, ℕ, suc, ◌<◌, ◌==◌, Bool, true, false, ◌||◌, cond, List, [], ◌∷◌, length, Option, None, Some, IfSome, refl, sym, ap, ◌∙◌, arith}
use Rattle.std.specs.List.{list_any}
use Rattle.httparse.specs.Grammar.{trim_ows}
use Rattle.requests.specs.Fields.{is_same_word, before, after_mark, parts, begun_by, lists}

-- the parts of what follows a mark, none where there is no mark
abbrev pub parts_after : ℕ → Option (List ℕ) → List (List ℕ)
parts_after mark None = []
parts_after mark (Some more) = parts mark more

pub parts_first : (mark : ℕ) (bs : List ℕ) → parts mark bs ≡ before mark bs ∷ parts_after mark (after_mark mark bs)
parts_first mark [] = refl
parts_first mark (b ∷ bs) =
    elim (b == mark) as (λ t. cond t ([] ∷ parts mark bs) (begun_by b (parts mark bs)) ≡ cond t [] (b ∷ before mark bs) ∷ parts_after mark (cond t (Some bs) (after_mark mark bs))) [
      | true ↦ refl
      | false ↦ ap (begun_by b) (parts_first mark bs)
    ]

pub after_shorter : (mark : ℕ) (bs : List ℕ) → IfSome (after_mark mark bs) (λ more. length more < length bs)
after_shorter mark [] = tt
after_shorter mark (b ∷ bs) =
    let ih = after_shorter mark bs in
    elim (b == mark) as (λ t. IfSome (cond t (Some bs) (after_mark mark bs)) (λ more. length more < suc (length bs))) [
      | true ↦ omega arith
      | false ↦ longer (after_mark mark bs) ih
    ]
  where
    longer : (o : Option (List ℕ)) → IfSome o (λ more. length more < length bs) → IfSome o (λ more. length more < suc (length bs))
    longer None h = tt
    longer (Some more) h = omega arith

-- ---- a list of words, by its first one

lists_first : (word bs first : List ℕ) → first ≡ trim_ows (before 44 bs) → lists word bs ≡ (is_same_word first word || list_any (λ p. is_same_word (trim_ows p) word) (parts_after 44 (after_mark 44 bs)))
lists_first word bs first is =
    ap (list_any (λ p. is_same_word (trim_ows p) word)) (parts_first 44 bs)
    ∙ ap (λ f. is_same_word f word || list_any (λ p. is_same_word (trim_ows p) word) (parts_after 44 (after_mark 44 bs))) (sym is)

or_false : (b : Bool) → (b || false) ≡ b
or_false true = refl
or_false false = refl

pub lists_here : (word bs first : List ℕ) → first ≡ trim_ows (before 44 bs) → is_same_word first word ≡ true → lists word bs ≡ true
lists_here word bs first is same =
    lists_first word bs first is ∙ ap (λ b. b || list_any (λ p. is_same_word (trim_ows p) word) (parts_after 44 (after_mark 44 bs))) same

pub lists_next : (word bs first more : List ℕ) → first ≡ trim_ows (before 44 bs) → is_same_word first word ≡ false → after_mark 44 bs ≡ Some more → lists word bs ≡ lists word more
lists_next word bs first more is other there =
    lists_first word bs first is
    ∙ ap (λ b. b || list_any (λ p. is_same_word (trim_ows p) word) (parts_after 44 (after_mark 44 bs))) other
    ∙ ap (λ o. list_any (λ p. is_same_word (trim_ows p) word) (parts_after 44 o)) there

pub lists_last : (word bs first : List ℕ) → first ≡ trim_ows (before 44 bs) → after_mark 44 bs ≡ None → lists word bs ≡ is_same_word first word
lists_last word bs first is none =
    lists_first word bs first is
    ∙ ap (λ o. is_same_word first word || list_any (λ p. is_same_word (trim_ows p) word) (parts_after 44 o)) none
    ∙ or_false (is_same_word first word)
