-- In a legal history the numbers of each pass rise, and each step is of a call on the shard's keys.
use Rattle.std.proofs.Common.{◌≡◌, ◌≢◌, ℕ, Bool, true, false, cond, eqb, not, ◌&&◌, ◌||◌, List, [], ◌∷◌, ◌++◌, refl, sym, subst, ⊎_elim, append_assoc, append-nil, nat_lt, IsTrue}
use Rattle.std.specs.List.{list_all}
use Rattle.headline.proofs.Common.{Ask, Step, Item, Answered, Failed, About, MayFollow, is_new, IsLegalAt, terms_of, history_of, shard_in, steps_by, HaveNumbersBelow, IsRising, ltb-true, eqb-true, cases_eq, steps_mark, steps_mine, steps_else, rising_last, legal_front, and_parts}
use Rattle.accept.proofs.Legal.{legal-last}

below_one : (mine : Bool) (n : ℕ) (s : Step) (xs : List Step) (more : Bool) → ((not mine || nat_lt s.ask.number n) && more) ≡ true → (more ≡ true → HaveNumbersBelow n xs) → HaveNumbersBelow n (cond mine (s ∷ xs) xs)
below_one true n s xs more e t = let b = and_parts (nat_lt s.ask.number n) more e in (ltb-true s.ask.number n b.0, t b.1)
below_one false n s xs more e t = t e

-- a new call has a number above those of its pass
below_new : (a : Ask) (items : List Item) → IsTrue (list_all (is_new a) items) → HaveNumbersBelow a.number (steps_by a.pass items)
below_new a [] h = tt
below_new a (Answered s ∷ items) h = below_one (eqb a.pass s.ask.pass) a.number s (steps_by a.pass items) (list_all (is_new a) items) h (below_new a items)
below_new a (Failed asks ∷ items) h = below_new a items h

module _ (about : About) (k : ℕ) where
  -- each step is of a call on the shard's keys
  abbrev pub AreOn : List Step → Type 0
  AreOn [] = Unit {0}
  AreOn (s ∷ steps) = (k ≡ shard_in about s.ask) × AreOn steps

  on_last : (xs : List Step) (s : Step) → AreOn xs → k ≡ shard_in about s.ask → AreOn (xs ++ s ∷ [])
  on_last [] s h e = (e, tt)
  on_last (x ∷ xs) s h e = (h.0, on_last xs s h.1 e)

  pub on_back : (xs ys : List Step) → AreOn (xs ++ ys) → AreOn ys
  on_back [] ys h = h
  on_back (x ∷ xs) ys h = on_back xs ys h.1

  -- what a legal history says of the steps of a pass
  pub record HasOrder (p : ℕ) (items : List Item) : Type 0 where
    pub rises : IsRising (steps_by p items)
    pub here : AreOn (steps_by p items)

  one_more : (p : ℕ) (done : List Item) (i : Item) → MayFollow (terms_of about k) (history_of about k done) i → HasOrder p done → HasOrder p (done ++ i ∷ [])
  one_more p done (Failed asks) may o = record { rises = subst IsRising (sym (steps_mark p done asks)) o.rises; here = subst AreOn (sym (steps_mark p done asks)) o.here }
  one_more p done (Answered s) may o = ⊎_elim
      (λ (e : p ≡ s.ask.pass).
      let below : HaveNumbersBelow s.ask.number (steps_by p done) = subst (λ q. HaveNumbersBelow s.ask.number (steps_by q done)) (sym e) (below_new s.ask done may.1) in
      record {
        rises = subst IsRising (sym (steps_mine p done s e)) (rising_last (steps_by p done) s o.rises below);
        here = subst AreOn (sym (steps_mine p done s e)) (on_last (steps_by p done) s o.here (eqb-true k (shard_in about s.ask) may.2));
      })
      (λ (n : p ≢ s.ask.pass). record { rises = subst IsRising (sym (steps_else p done s n)) o.rises; here = subst AreOn (sym (steps_else p done s n)) o.here })
      (cases_eq p s.ask.pass)

  on_with : (p : ℕ) (done items : List Item) → IsLegalAt about k (done ++ items) → HasOrder p done → HasOrder p (done ++ items)
  on_with p done [] legal o = subst (HasOrder p) (sym (append-nil done)) o
  on_with p done (i ∷ items) legal o =
      let same : (done ++ i ∷ []) ++ items ≡ done ++ i ∷ items = append_assoc done (i ∷ []) items in
      let here : IsLegalAt about k ((done ++ i ∷ []) ++ items) = subst (IsLegalAt about k) (sym same) legal in
      let upto : IsLegalAt about k (done ++ i ∷ []) = legal_front about k (done ++ i ∷ []) ((done ++ i ∷ []) ++ items) (record { rest = items; is = refl }) here in
      subst (HasOrder p) same (on_with p (done ++ i ∷ []) items here (one_more p done i (legal-last (terms_of about k) (history_of about k done) i upto.is) o))

  pub in_order : (p : ℕ) (items : List Item) → IsLegalAt about k items → HasOrder p items
  in_order p items legal = on_with p [] items legal (record { rises = tt; here = tt })
