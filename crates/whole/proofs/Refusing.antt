-- A wrong server: the record does not hold of it, and one field refuses it.
use Rattle.std.proofs.Common.{◌≡◌, ℕ, List, [], ◌∷◌, ◌++◌, refl, inl, subst}
use Rattle.headline.proofs.Common.{Reply, Step, Item, Answered, Sight, IsOneOf, Life}
use Rattle.requests.specs.declared.route.Route.{Route}
use Rattle.whole.proofs.Common.{Verdict, Asked, Came, Replied, Course, Whole, Exchange, AreSteps, AreStepsBy, Line, HasItsSteps, IsLineAnswered}
use Rattle.requests.specs.declared.verdict.Verdict.TheVariants as verdicts

some_step : (tenant : List ℕ) (all : List Asked) (reply : Reply) (cames : List Came) (steps : List Step) → AreSteps tenant all (Replied reply ∷ cames) steps → (s : Step) × IsOneOf s steps
some_step tenant [] reply cames steps h = absurd h
some_step tenant (a ∷ all) reply cames [] h = absurd h
some_step tenant (a ∷ all) reply cames (s ∷ steps) h = (s, inl refl)

-- a request of which a call got a reply has a step
replied_step : (now : ℕ) (body tenant : List ℕ) (route : Route) (verdict : Verdict) (course : Course) (reply : Reply) (cames : List Came) (steps : List Step) → verdict ≡ verdicts.Call route tenant → course ≡ Whole (Replied reply ∷ cames)
    → AreStepsBy now body verdict course steps → (s : Step) × IsOneOf s steps
replied_step now body tenant route verdict course reply cames steps v c h =
    let are = subst (λ (w : Course). AreStepsBy now body (verdicts.Call route tenant) w steps) c (subst (λ (w : Verdict). AreStepsBy now body w course steps) v h) in
    some_step tenant are.2.0 reply cames steps are.2.2

abbrev nothing : ℕ → List Item
nothing k = []

module _ {D : Type 0} (sight : D → Sight) (follows : D → Type 0) {C : Type 0} (ticks : C → ℕ → C → Type 0) (life : Life D) (line : Line C) where
  -- It answers before it calls: it sent an answer to a call that got a reply, and no shard has a step.
  pub answers_before_it_calls : (h : IsLineAnswered sight follows ticks life nothing line) (e : Exchange) → IsOneOf e (h.exchanges ++ h.last) → (route : Route) (tenant : List ℕ) (reply : Reply) (cames : List Came)
      → e.verdict ≡ verdicts.Call route tenant → e.course ≡ Whole (Replied reply ∷ cames) → ⊥
  answers_before_it_calls h e one route tenant reply cames v c =
      let its : HasItsSteps life.opening.about nothing e = h.calls e one in
      let s = replied_step e.now e.request.body tenant route e.verdict e.course reply cames its.steps v c its.steps_are in
      let never : [] ≡ Answered s.0 ∷ [] = (its.stand s.0 s.1).once in
      cc
