-- What a pass has made after the calls of requests.
use Rattle.std.proofs.Common.{◌≡◌, ℕ, Bool, true, false, List, [], ◌∷◌, ◌++◌, Ok, Err, refl, sym, ap, ◌∙◌, append_assoc, inl, inr}
use Rattle.std.proofs.lemmas.List.{append-nil}
use Rattle.accept.specs.declared.call.Call.{Call}
use Rattle.accept.specs.declared.call.Reply.{Reply}
use Rattle.accept.specs.declared.history.Step.{Step}
use Rattle.history.specs.Handles.{Passed}
use Rattle.ingester.specs.Calls.{next_step, IsRefused, IsGiven, with_next}
use Rattle.accept.specs.declared.fault.CallFault.{CallFault}
use Rattle.accept.specs.declared.fault.CallFault.TheVariants.{Memory, PassClosed, LogSpent, InDoubt}
use Rattle.answering.specs.Serving.{Exchange, World}
use Rattle.answering.proofs.Stepping as stepping
use Rattle.front.specs.Calls.{CallGives}
use Rattle.front.specs.Laws.{Gains, MakesTheirCalls, MakesItsCalls, MakesItsFirstCalls}

pub none : (h h' : Passed) → h' ≡ h → Gains h [] h'
none h h' same = ap (λ p. p.caller.made) same ∙ sym (append-nil h.caller.made)

made_kept : (h h' : Passed) (call : Call) (fault : CallFault) → IsRefused h call h' fault → h'.caller.made ≡ h.caller.made
made_kept h h' call Memory is = ap (λ p. p.caller.made) is
made_kept h h' call PassClosed is = ap (λ p. p.caller.made) is
made_kept h h' call LogSpent is = ap (λ p. p.caller.made) is
made_kept h h' call InDoubt (inl withdrawn) = ap (λ p. p.caller.made) withdrawn
made_kept h h' call InDoubt (inr stays) = ap (λ p. p.caller.made) stays

pub both : (h m h' : Passed) (first others : List Step) → Gains h first m → Gains m others h' → Gains h (first ++ others) h'
both h m h' first others a b = b ∙ ap (λ l. l ++ others) a ∙ append_assoc h.caller.made first others

one_by : (h h' : Passed) (call : Call) (reply : Reply) → IsGiven h call (Ok reply) h' → (step : Step) × (step.ask.call ≡ call) × (step.reply ≡ reply) × Gains h (step ∷ []) h'
one_by h h' call reply is = (next_step h.caller call reply, refl, refl, ap (λ p. p.caller.made) is.answered.pass)

pub one : (doubt : Bool) (h h' : Passed) (call : Call) (reply : Reply) → CallGives doubt h call (Ok reply) h' → (step : Step) × (step.ask.call ≡ call) × (step.reply ≡ reply) × Gains h (step ∷ []) h'
one false h h' call reply is = one_by h h' call reply is
one true h h' call reply (inl is) = one_by h h' call reply is
one true h h' call reply (inr (lost, stays)) = absurd (cc)

kept_by : (h h' : Passed) (call : Call) (failure : CallFault) → IsGiven h call (Err failure) h' → Gains h [] h'
kept_by h h' call failure is = made_kept h h' call failure is.refused ∙ sym (append-nil h.caller.made)

pub kept : (doubt : Bool) (h h' : Passed) (call : Call) (failure : CallFault) → CallGives doubt h call (Err failure) h' → Gains h [] h'
kept false h h' call failure is = kept_by h h' call failure is
kept true h h' call failure (inl is) = kept_by h h' call failure is
kept true h h' call failure (inr (lost, stays)) = ap (λ p. p.caller.made) stays ∙ sym (append-nil h.caller.made)

module _ {C : Type 0} (ticks : C → ℕ → C → Type 0) where
  pub its_calls : (bytes : List ℕ) (w : World Passed C) (e : Exchange) (rest : List ℕ) (w' : World Passed C) → MakesItsCalls ticks bytes w e rest w'
  its_calls = stepping.its_calls CallGives Gains none one kept both ticks

  pub its_first_calls : (bytes : List ℕ) (w w' : World Passed C) → MakesItsFirstCalls ticks bytes w w'
  its_first_calls = stepping.its_first_calls CallGives Gains none one kept both ticks

  pub their_calls : (bytes : List ℕ) (w : World Passed C) (es : List Exchange) (rest : List ℕ) (w' : World Passed C) → MakesTheirCalls ticks bytes w es rest w'
  their_calls = stepping.their_calls CallGives Gains none one kept both ticks
