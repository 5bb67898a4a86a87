-- The steps of one call among the steps of its pass.
use Rattle.std.proofs.Common.{◌≡◌, ◌≢◌, ◌⊎◌, ℕ, ◌<◌, ◌≤◌, Bool, true, false, cond, eqb, ◌&&◌, List, [], ◌∷◌, ◌++◌, map, filter, refl, sym, ap, ◌∙◌, subst, ⊎_elim, append-nil, eq-eqb, ne_eqb, arith}
use Rattle.std.proofs.lemmas.List.Elements.{filter-append}
use Rattle.headline.proofs.Common.{Ask, Step, Item, Answered, Failed, About, is_step_of, shard_in, steps_by, steps_on, HaveNumbersBelow, HaveNumbersAbove, IsAmong, AreAmong, before_step, cases_Bool, on_append, below_on, cond_both}

-- the steps of a call
abbrev steps_of : Ask → List Item → List Item
steps_of a items = filter (is_step_of a) items

-- whether a step has this number
abbrev has_number : ℕ → Step → Bool
has_number n s = eqb n s.ask.number

with_number : (yes : Bool) (s : Step) (xs : List Item) (ys : List Step) → xs ≡ map Answered ys → cond yes (Answered s ∷ xs) xs ≡ map Answered (cond yes (s ∷ ys) ys)
with_number true s xs ys e = λ i. Answered s ∷ e i
with_number false s xs ys e = e

of_pass : (mine : Bool) (n : ℕ) (s : Step) (xs : List Item) (ys : List Step) → xs ≡ map Answered (filter (has_number n) ys) → cond (mine && has_number n s) (Answered s ∷ xs) xs ≡ map Answered (filter (has_number n) (cond mine (s ∷ ys) ys))
of_pass true n s xs ys e = with_number (has_number n s) s xs (filter (has_number n) ys) e
of_pass false n s xs ys e = e

-- the steps of a call are those of its pass that have its number
steps_numbered : (a : Ask) (items : List Item) → steps_of a items ≡ map Answered (filter (has_number a.number) (steps_by a.pass items))
steps_numbered a [] = refl
steps_numbered a (Answered s ∷ items) = of_pass (eqb a.pass s.ask.pass) a.number s (steps_of a items) (steps_by a.pass items) (steps_numbered a items)
steps_numbered a (Failed asks ∷ items) = steps_numbered a items

skip_one : (n : ℕ) (s : Step) (xs : List Step) → n ≢ s.ask.number → filter (has_number n) (s ∷ xs) ≡ filter (has_number n) xs
skip_one n s xs ne = ap (λ b. cond b (s ∷ filter (has_number n) xs) (filter (has_number n) xs)) (ne_eqb n s.ask.number ne)

none_below : (n : ℕ) (xs : List Step) → HaveNumbersBelow n xs → filter (has_number n) xs ≡ []
none_below n [] h = refl
none_below n (s ∷ xs) h = skip_one n s xs (λ e. let l = h.0 in omega arith) ∙ none_below n xs h.1

none_above : (n : ℕ) (xs : List Step) → HaveNumbersAbove n xs → filter (has_number n) xs ≡ []
none_above n [] h = refl
none_above n (s ∷ xs) h = skip_one n s xs (λ e. let l = h.0 in omega arith) ∙ none_above n xs h.1

above_on : (about : About) (k n : ℕ) (xs : List Step) → HaveNumbersAbove n xs → HaveNumbersAbove n (steps_on about k xs)
above_on about k n [] h = tt
above_on about k n (s ∷ xs) h = cond_both (eqb k (shard_in about s.ask)) (s ∷ steps_on about k xs) (steps_on about k xs) (HaveNumbersAbove n) (λ e. (h.0, above_on about k n xs h.1)) (λ e. above_on about k n xs h.1)

-- the numbers of these calls are n or above
abbrev pub AreFrom : ℕ → List Ask → Type 0
AreFrom n [] = Unit {0}
AreFrom n (a ∷ asks) = (n ≤ a.number) × AreFrom n asks

one_from : (n : ℕ) (a : Ask) (asks : List Ask) → AreFrom n asks → IsAmong a asks → n ≤ a.number
one_from n a [] h i = absurd i
one_from n a (b ∷ asks) h i = ⊎_elim
    (λ (e : b ≡ a). subst (λ (c : Ask). n ≤ c.number) e h.0)
    (λ (t : IsAmong a asks). one_from n a asks h.1 t)
    i

pub above_open : (m n : ℕ) (steps : List Step) (asks : List Ask) → m < n → AreFrom n asks → AreAmong steps asks → HaveNumbersAbove m steps
above_open m n [] asks l h i = tt
above_open m n (s ∷ steps) asks l h i = ((let up = one_from n s.ask asks h i.0 in omega arith), above_open m n steps asks l h i.1)

found : (n : ℕ) (s : Step) (here : Bool) (xs : List Step) → n ≡ s.ask.number → HaveNumbersAbove n xs → filter (has_number n) (cond here (s ∷ xs) xs) ≡ cond here (s ∷ []) []
found n s true xs e h = ap (λ b. cond b (s ∷ filter (has_number n) xs) (filter (has_number n) xs)) (eq-eqb n s.ask.number e) ∙ ap (λ l. s ∷ l) (none_above n xs h)
found n s false xs e h = none_above n xs h

answered_cond : (b : Bool) (s : Step) → map Answered (cond b (s ∷ []) []) ≡ cond b (Answered s ∷ []) []
answered_cond true s = refl
answered_cond false s = refl

module _ (about : About) (k : ℕ) (s : Step) (front back : List Step) where
  -- of rising steps one has its number
  one_numbered : HaveNumbersBelow s.ask.number front → HaveNumbersAbove s.ask.number back → filter (has_number s.ask.number) (steps_on about k (front ++ s ∷ back)) ≡ cond (eqb k (shard_in about s.ask)) (s ∷ []) []
  one_numbered below above =
      ap (filter (has_number s.ask.number)) (on_append about k front (s ∷ back))
      ∙ filter-append (has_number s.ask.number) (steps_on about k front) (steps_on about k (s ∷ back))
      ∙ ap (λ l. l ++ filter (has_number s.ask.number) (steps_on about k (s ∷ back))) (none_below s.ask.number (steps_on about k front) (below_on about k s.ask.number front below))
      ∙ found s.ask.number s (eqb k (shard_in about s.ask)) (steps_on about k back) refl (above_on about k s.ask.number back above)

  -- a pass made rising steps, and this is one of them: it is the one step of its call, in the shard of its key
  pub one_step : (items : List Item) (rest : List Step) → HaveNumbersBelow s.ask.number front → HaveNumbersAbove s.ask.number back → HaveNumbersAbove s.ask.number rest
      → steps_by s.ask.pass items ≡ steps_on about k (front ++ s ∷ back) ++ rest → steps_of s.ask items ≡ cond (eqb k (shard_in about s.ask)) (Answered s ∷ []) []
  one_step items rest below above behind is =
      steps_numbered s.ask items
      ∙ ap (λ l. map Answered (filter (has_number s.ask.number) l)) is
      ∙ ap (map Answered) (
      filter-append (has_number s.ask.number) (steps_on about k (front ++ s ∷ back)) rest
      ∙ ap (λ l. filter (has_number s.ask.number) (steps_on about k (front ++ s ∷ back)) ++ l) (none_above s.ask.number rest behind)
      ∙ append-nil (filter (has_number s.ask.number) (steps_on about k (front ++ s ∷ back)))
      ∙ one_numbered below above
      )
      ∙ answered_cond (eqb k (shard_in about s.ask)) s

-- its own step
own_step : (s : Step) → is_step_of s.ask (Answered s) ≡ true
own_step s = ap (λ b. b && eqb s.ask.number s.ask.number) (eq-eqb s.ask.pass s.ask.pass refl) ∙ eq-eqb s.ask.number s.ask.number refl

-- no step is found before it
nothing_more : (xs ys : List Item) (x : Item) → xs ++ x ∷ ys ≡ x ∷ [] → xs ≡ []
nothing_more [] ys x e = refl
nothing_more (z ∷ xs) ys x e = absurd (never xs e)
  where
    never : (ws : List Item) → z ∷ (ws ++ x ∷ ys) ≡ x ∷ [] → ⊥
    never [] f = cc
    never (w ∷ ws) f = cc

skips : (a : Ask) (xs ys : List Item) → steps_of a xs ≡ [] → before_step a (xs ++ ys) ≡ xs ++ before_step a ys
skips a [] ys none = refl
skips a (x ∷ xs) ys none = ⊎_elim
    (λ (e : is_step_of a x ≡ true). let one = ap (λ b. cond b (x ∷ steps_of a xs) (steps_of a xs)) e in absurd (let both = sym one ∙ none in cc))
    (λ (e : is_step_of a x ≡ false).
    ap (λ b. cond b [] (x ∷ before_step a (xs ++ ys))) e
    ∙ ap (λ l. x ∷ l) (skips a xs ys (sym (ap (λ b. cond b (x ∷ steps_of a xs) (steps_of a xs)) e) ∙ none)))
    (cases_Bool (is_step_of a x))

-- what stands before the one step of a call
pub before_one : (s : Step) (xs ys : List Item) → steps_of s.ask (xs ++ Answered s ∷ ys) ≡ Answered s ∷ [] → before_step s.ask (xs ++ Answered s ∷ ys) ≡ xs
before_one s xs ys once =
    let parts : steps_of s.ask xs ++ Answered s ∷ steps_of s.ask ys ≡ Answered s ∷ [] =
    ap (λ l. steps_of s.ask xs ++ l) (sym (ap (λ b. cond b (Answered s ∷ steps_of s.ask ys) (steps_of s.ask ys)) (own_step s)))
    ∙ sym (filter-append (is_step_of s.ask) xs (Answered s ∷ ys)) ∙ once in
    skips s.ask xs (Answered s ∷ ys) (nothing_more (steps_of s.ask xs) (steps_of s.ask ys) (Answered s) parts)
    ∙ ap (λ b. xs ++ cond b [] (Answered s ∷ before_step s.ask ys)) (own_step s)
    ∙ append-nil xs
