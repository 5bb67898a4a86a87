-- Of the steps of a pass in a history: by what it has seen, by its numbers, and by what it announced.
use Rattle.std.proofs.Common.{◌≡◌, ◌⊎◌, ℕ, ◌+◌, ◌≤◌, Bool, true, false, cond, eqb, List, [], ◌∷◌, ◌++◌, length, refl, sym, ap, ◌∙◌, subst, inl, inr, ⊎_elim, append_assoc, append-nil, eq-eqb, arith, length-append}
use Rattle.headline.proofs.Common.{Ask, Step, Item, About, Caller, Passed, IsBeginning, IsLegalAt, shard_in, steps_by, steps_on, asks_by, HasStep, IsAmong, AreAmong, IsRising, seen_at, AreHis, HasStepsOf, IsTold, calls_of_steps, calls_by, IsInTime, steps_append, made_left, not_made, rising_back, rising_front, cond_both}
use Rattle.headline.proofs.Rising.{AreOn, on_back, HasOrder, in_order}

-- the steps of a pass in what it has seen of shard k: those that it made, and some of its open calls
pub record HasOwn (c : Caller) (k : ℕ) : Type 0 where
  pub rest : List Step
  pub is : steps_by c.pass (seen_at c k) ≡ steps_on c.about k c.made ++ rest
  pub among : AreAmong rest c.pending

in_append : (xs ys : List Step) → calls_of_steps (xs ++ ys) ≡ calls_of_steps xs ++ calls_of_steps ys
in_append [] ys = refl
in_append (x ∷ xs) ys = ap (λ l. x.ask ∷ l) (in_append xs ys)

among_both : (xs ys : List Step) (asks : List Ask) → AreAmong xs asks → AreAmong ys asks → AreAmong (xs ++ ys) asks
among_both [] ys asks h g = g
among_both (x ∷ xs) ys asks h g = (h.0, among_both xs ys asks h.1 g)

module _ (made : List Step) (pending : List Ask) where
  his_left : (xs ys : List Ask) → AreHis made pending (xs ++ ys) → AreHis made pending xs
  his_left [] ys h = tt
  his_left (x ∷ xs) ys h = (h.0, his_left xs ys h.1)

  his_right : (xs ys : List Ask) → AreHis made pending (xs ++ ys) → AreHis made pending ys
  his_right [] ys h = h
  his_right (x ∷ xs) ys h = his_right xs ys h.1

  his_both : (xs ys : List Ask) → AreHis made pending xs → AreHis made pending ys → AreHis made pending (xs ++ ys)
  his_both [] ys h g = g
  his_both (x ∷ xs) ys h g = (h.0, his_both xs ys h.1 g)

  his_open : (steps : List Step) → AreAmong steps pending → AreHis made pending (calls_of_steps steps)
  his_open [] h = tt
  his_open (s ∷ steps) h = (inr h.0, his_open steps h.1)

  -- those that it made on a shard, it made
  his_made : (about : About) (k : ℕ) (xs : List Step) → ((a : Ask) → HasStep a xs → HasStep a made) → AreHis made pending (calls_of_steps (steps_on about k xs))
  his_made about k [] into = tt
  his_made about k (s ∷ xs) into = one (eqb k (shard_in about s.ask)) (his_made about k xs (λ a h. into a (inr h)))
    where
      one : (b : Bool) → AreHis made pending (calls_of_steps (steps_on about k xs)) → AreHis made pending (calls_of_steps (cond b (s ∷ steps_on about k xs) (steps_on about k xs)))
      one true h = (inl (into s.ask (inl refl)), h)
      one false h = h

  -- steps that stand after all that it made are of open calls
  still_open : (about : About) (k : ℕ) (front steps : List Step) → IsRising (front ++ steps) → ((a : Ask) → HasStep a made → k ≡ shard_in about a → HasStep a front) → AreOn about k steps → AreHis made pending (calls_of_steps steps) → AreAmong steps pending
  still_open about k front [] rises has on his = tt
  still_open about k front (s ∷ steps) rises has on his = (
    ⊎_elim
        (λ (m : HasStep s.ask made). absurd (not_made s.ask s.ask.number front (rising_front front s steps rises) (omega arith) (has s.ask m on.0)))
        (λ (i : IsAmong s.ask pending). i)
        his.0,
    still_open about k (front ++ s ∷ []) steps (subst IsRising (sym (append_assoc front (s ∷ []) steps)) rises) (λ a m e. made_left a front (s ∷ []) (has a m e)) on.1 his.1,
  )

-- a step on a shard is one of those there
has_on : (about : About) (k : ℕ) (a : Ask) (xs : List Step) → HasStep a xs → k ≡ shard_in about a → HasStep a (steps_on about k xs)
has_on about k a [] h e = absurd h
has_on about k a (s ∷ xs) h e = ⊎_elim
    (λ (same : s.ask ≡ a).
    let here : eqb k (shard_in about s.ask) ≡ true = eq-eqb k (shard_in about s.ask) (e ∙ ap (shard_in about) (sym same)) in
    subst (λ (b : Bool). HasStep a (cond b (s ∷ steps_on about k xs) (steps_on about k xs))) (sym here) (inl same))
    (λ (t : HasStep a xs). cond_both (eqb k (shard_in about s.ask)) (s ∷ steps_on about k xs) (steps_on about k xs) (HasStep a) (λ f. inr (has_on about k a xs t e)) (λ f. has_on about k a xs t e))
    h

-- a list that is no longer than its beginning is that
no_more : {A : Type 0} (xs ys : List A) → length (xs ++ ys) ≤ length xs → ys ≡ []
no_more xs [] le = refl
no_more xs (y ∷ ys) le = absurd (let n = length-append xs (y ∷ ys) in omega arith)

begins_all : (seen items : List Item) → IsBeginning seen items ⊎ IsBeginning items seen → length seen ≤ length items → IsBeginning seen items
begins_all seen items (inl h) le = h
begins_all seen items (inr h) le =
    let none : h.rest ≡ [] = no_more items h.rest (subst (λ l. length l ≤ length items) h.is le) in
    record { rest = []; is = sym (h.is ∙ ap (λ l. items ++ l) none ∙ append-nil items) ∙ sym (append-nil seen) }

module _ (c : Caller) (k : ℕ) (items : List Item) (legal : IsLegalAt c.about k items) (begins : IsBeginning (seen_at c k) items) (own : HasOwn c k) (his : AreHis c.made c.pending (calls_by c.pass items)) where
  abbrev there : List Step
  there = steps_on c.about k c.made

  abbrev later : List Step
  later = steps_by c.pass begins.rest

  all : steps_by c.pass items ≡ (there ++ own.rest) ++ later
  all = ap (steps_by c.pass) begins.is ∙ steps_append c.pass (seen_at c k) begins.rest ∙ ap (λ l. l ++ later) own.is

  order : HasOrder c.about k c.pass items
  order = in_order c.about k c.pass items legal

  rises : IsRising ((there ++ own.rest) ++ later)
  rises = subst IsRising all order.rises

  after : AreHis c.made c.pending (calls_of_steps later)
  after =
      let steps : AreHis c.made c.pending (calls_of_steps (steps_by c.pass items)) = his_left c.made c.pending (calls_of_steps (steps_by c.pass items)) (asks_by c.pass items) his in
      his_right c.made c.pending (calls_of_steps (there ++ own.rest)) (calls_of_steps later) (subst (AreHis c.made c.pending) (ap calls_of_steps all ∙ in_append (there ++ own.rest) later) steps)

  open_after : AreAmong later c.pending
  open_after =
      still_open c.made c.pending c.about k (there ++ own.rest) later rises
      (λ a m e. made_left a there own.rest (has_on c.about k a c.made m e))
      (on_back c.about k (there ++ own.rest) later (subst (AreOn c.about k) all order.here))
      after

  -- So a pass in time has just its steps in the history.
  has_steps : HasStepsOf c k items
  has_steps = record {
    rest = own.rest ++ later;
    is = all ∙ append_assoc there own.rest later;
    among = among_both own.rest later c.pending own.among open_after;
    rises = rising_back there (own.rest ++ later) (subst IsRising (append_assoc there own.rest later) rises);
    told = his_right c.made c.pending (calls_of_steps (steps_by c.pass items)) (asks_by c.pass items) his;
  }

-- what was in time is told
pub told_in_time : (pass : Passed) (k : ℕ) (items : List Item) → IsLegalAt pass.caller.about k items → HasOwn pass.caller k → IsInTime k items pass → IsTold k items pass
told_in_time pass k items legal own is =
    let begins : IsBeginning (seen_at pass.caller k) items = begins_all (seen_at pass.caller k) items is.one_history is.stood_when_seen in
    record { begins = begins; steps = has_steps pass.caller k items legal begins own is.announced_when_added }

-- and what was compared is in time
pub in_time_told : (pass : Passed) (k : ℕ) (items : List Item) → IsTold k items pass → IsInTime k items pass
in_time_told pass k items t =
    let c : Caller = pass.caller in
    let there : List Step = steps_on c.about k c.made in
    let made : AreHis c.made c.pending (calls_of_steps there) = his_made c.made c.pending c.about k c.made (λ a h. h) in
    let steps : AreHis c.made c.pending (calls_of_steps (steps_by c.pass items)) =
    subst (AreHis c.made c.pending) (sym (ap calls_of_steps t.steps.is ∙ in_append there t.steps.rest)) (his_both c.made c.pending (calls_of_steps there) (calls_of_steps t.steps.rest) made (his_open c.made c.pending t.steps.rest t.steps.among)) in
    record {
      one_history = inl t.begins;
      stood_when_seen = let n : length items ≡ length (seen_at c k) + length t.begins.rest = ap length t.begins.is ∙ length-append (seen_at c k) t.begins.rest in omega arith;
      announced_when_added = his_both c.made c.pending (calls_of_steps (steps_by c.pass items)) (asks_by c.pass items) steps t.steps.told;
    }
