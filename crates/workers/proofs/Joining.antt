-- The passes in their order, while threads take them and give them back.
use Rattle.std.proofs.Common.{◌≡◌, inl, Bool, true, if◌then◌else◌, List, [], ◌∷◌, ◌++◌, map, reverse, Option, Some, None, option_to_list, Result, Ok, Err, OnOk, refl, sym, ap, ◌∙◌, subst}
use Rattle.std.proofs.lemmas.List.{append_assoc, append-nil, map-append, reverse-append}
use Rattle.workers.specs.Workers.{ArePassesLeft, IsPassLeft, with_starts}

module _ {P T : Type 0} (start : T → P) where
  last_first : (threads : List T) (t : T) → reverse (map start (threads ++ t ∷ [])) ≡ start t ∷ reverse (map start threads)
  last_first threads t = ap reverse (map-append start threads (t ∷ [])) ∙ reverse-append (map start threads) (start t ∷ [])

  -- a thread took the last pass
  pub taken : (old new : List P) (threads threads' : List T) (t : T) → old ≡ new ++ start t ∷ [] → threads' ≡ threads ++ t ∷ [] → with_starts start new threads' ≡ with_starts start old threads
  taken old new threads threads' t was is =
      ap (λ ts. new ++ reverse (map start ts)) is ∙ ap (λ l. new ++ l) (last_first threads t)
      ∙ sym (append_assoc new (start t ∷ []) (reverse (map start threads)))
      ∙ sym (ap (λ l. l ++ reverse (map start threads)) was)

  -- none was left to be popped
  pub none_left : (old left : List P) (popped : Option P) (threads : List T) → old ≡ left ++ option_to_list popped → popped ≡ None → with_starts start left threads ≡ with_starts start old threads
  none_left old left popped threads was is =
      ap (λ ps. with_starts start ps threads) (sym (was ∙ ap (λ o. left ++ option_to_list o) is ∙ append-nil left))

  -- a pass was popped, and the thread that started with it was added to the others
  pub started : (old left : List P) (popped : Option P) (pass : P) (threads threads' : List T) (is_added : Bool) (t : T) → old ≡ left ++ option_to_list popped → popped ≡ Some pass → start t ≡ pass
      → threads' ≡ (if is_added then threads ++ t ∷ [] else threads) → is_added ≡ true → with_starts start left threads' ≡ with_starts start old threads
  started old left popped pass threads threads' is_added t was is begun more added =
      taken old left threads threads' t (was ∙ ap (λ o. left ++ option_to_list o) is ∙ ap (λ p. left ++ p ∷ []) (sym begun)) (more ∙ ap (λ b. if b then threads ++ t ∷ [] else threads) added)

module _ {I S P T : Type 0} (visits : I → S → P → List (T × T) → S → P → Type 0) (service : I) where
  pub same_left : (ps : List P) → ArePassesLeft visits service ps ps
  same_left [] = tt
  same_left (p ∷ ps) = (inl refl, same_left ps)

  one_more : (ps qs : List P) (p q : P) → ArePassesLeft visits service ps qs → IsPassLeft visits service p q → ArePassesLeft visits service (ps ++ p ∷ []) (qs ++ q ∷ [])
  one_more [] [] p q all this = (this, tt)
  one_more (x ∷ xs) (y ∷ ys) p q all this = (all.0, one_more xs ys p q all.1 this)
  one_more ps qs p q all this = absurd all

  module _ {H : Type 0} (start : H → P) where
    -- of all passes these threads have theirs, and the others are back, each as it was left
    abbrev pub IsJoined : List P → List P → List H → Type 0
    IsJoined all passes threads = (ps : List P) × ArePassesLeft visits service ps passes × (with_starts start ps threads ≡ all)

    pub none_joined : (passes : List P) (threads : List H) → IsJoined (with_starts start passes threads) passes threads
    none_joined passes threads = (passes, same_left passes, refl)

    pub one_joined : (all passes passes' : List P) (threads threads' : List H) (t : H) (pass : P) → threads ≡ threads' ++ t ∷ [] → passes' ≡ passes ++ pass ∷ [] → IsPassLeft visits service (start t) pass
        → IsJoined all passes threads → IsJoined all passes' threads'
    one_joined all passes passes' threads threads' t pass was more this (ps, left, is) = (
      ps ++ start t ∷ [],
      subst (λ qs. ArePassesLeft visits service (ps ++ start t ∷ []) qs) (sym more) (one_more ps passes (start t) pass left this),
      sym (taken start (ps ++ start t ∷ []) ps threads' threads t refl was) ∙ is,
    )

    pub still_joined : {E : Type 0} (r : Result (Unit {0}) E) (all passes passes' : List P) (threads threads' : List H) (t : H) (pass : P) → threads ≡ threads' ++ t ∷ [] → passes' ≡ passes ++ pass ∷ []
        → IsPassLeft visits service (start t) pass → OnOk r (IsJoined all passes threads) → OnOk r (IsJoined all passes' threads')
    still_joined (Ok told) all passes passes' threads threads' t pass was more this so_far = one_joined all passes passes' threads threads' t pass was more this so_far
    still_joined (Err fault) all passes passes' threads threads' t pass was more this so_far = tt
