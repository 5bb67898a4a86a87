-- The steps that a pass gains are the calls of the requests, in their order.
use Rattle.std.specs.Prelude.{◌≡◌, ◌⊎◌, ℕ, true, List, [], ◌++◌}
use Rattle.std.specs.List.{flat_map}
use Rattle.accept.specs.declared.history.Step.{Step}
use Rattle.history.specs.Handles.{Passed}
use Rattle.requests.specs.Answers.{fixed_text}
use Rattle.requests.specs.declared.fixed.FixedAnswer.{FixedAnswer}
use Rattle.answering.specs.Serving.{Exchange, World, response, ConnectionGives, IsExchange, IsAbandoned}
use Rattle.answering.specs.Steps.{AreStepsBy, AreFirstStepsBy, AreTheirSteps}
use Rattle.front.specs.Calls.{CallGives}

-- the pass made just these steps more
abbrev pub Gains : Passed → List Step → Passed → Type 0
Gains old steps new = new.caller.made ≡ old.caller.made ++ steps

-- served so, a pass made just the calls of the requests, in their order
abbrev pub MakesTheirCalls : {C : Type 0} → (C → ℕ → C → Type 0) → List ℕ
    → World Passed C → List Exchange
    → List ℕ → World Passed C → Type 0
MakesTheirCalls ticks bytes w es rest w' =
    ConnectionGives CallGives ticks bytes w es rest w'
    → (steps : List Step) × Gains w.knows steps w'.knows × AreTheirSteps es steps

-- and so of one request, of whose streams a beginning may have been called, where a call failed
abbrev pub MakesItsCalls : {C : Type 0} → (C → ℕ → C → Type 0) → List ℕ
    → World Passed C → Exchange
    → List ℕ → World Passed C → Type 0
MakesItsCalls ticks bytes w e rest w' =
    IsExchange CallGives ticks bytes w e rest w'
    → (steps : List Step) × Gains w.knows steps w'.knows
    × AreStepsBy e.now e.request.body e.verdict e.course steps

-- and so of a request that was given up for want of memory: the calls of a beginning of its streams
abbrev pub MakesItsFirstCalls : {C : Type 0} → (C → ℕ → C → Type 0) → List ℕ
    → World Passed C
    → World Passed C → Type 0
MakesItsFirstCalls ticks bytes w w' =
    (left : IsAbandoned CallGives ticks bytes w w')
    → (steps : List Step) × Gains w.knows steps w'.knows
    × AreFirstStepsBy left.now left.request.body left.verdict steps

-- the text is the responses to these requests, and perhaps what refuses the next one; the pass has made the steps of
-- the calls of all of them
pub record AnswersAfterSteps (old new : Passed) (text : List ℕ) : Type 0 where
  pub exchanges : List Exchange
  pub refusal : List ℕ
  pub steps : List Step
  pub made : Gains old steps new
  pub steps_are : AreTheirSteps exchanges steps
  pub refused : (refusal ≡ []) ⊎ ((why : FixedAnswer) × (refusal ≡ fixed_text why true))
  pub is : text ≡ flat_map response exchanges ++ refusal
