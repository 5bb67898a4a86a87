-- From what one call leaves to what the calls of requests leave.
use Rattle.std.proofs.Common.{◌≡◌, ℕ, Bool, false, List, [], ◌∷◌, ◌++◌, Result, Ok, Err, refl, sym, ap, ◌∙◌, subst}
use Rattle.accept.specs.declared.call.Call.{Call as Asking}
use Rattle.accept.specs.declared.call.Reply.{Reply}
use Rattle.accept.specs.declared.history.Step.{Step}
use Rattle.pushjson.specs.declared.fault.PushFault.{PushFault}
use Rattle.accept.specs.declared.fault.CallFault.{CallFault}
use Rattle.requests.specs.declared.verdict.Verdict.{Verdict}
use Rattle.requests.specs.declared.verdict.Verdict.TheVariants.{Call}
use Rattle.answering.specs.Asking.{Asked, IsCallOf}
use Rattle.answering.specs.Calls.{Giving, Came, Refused, Replied, Failed}
use Rattle.answering.specs.Courses.{Course, Unread, Whole, Broken, doubt_behind, said_of, StreamsGiveAfter, BodyGives, BodyIsLeft}
use Rattle.answering.specs.Serving.{Exchange, World, VerdictGives, VerdictIsLeft, ConnectionGives, IsExchange, IsAbandoned}
use Rattle.answering.specs.Steps.{AreSteps, AreStepsOf, AreFirstStepsOf, AreStepsBy, AreFirstStepsBy, AreTheirSteps}

-- a call with a reply gains its step, one that failed none
module _ {H : Type 0} (gives : Giving H) (Gains : H → List Step → H → Type 0)
    (none : (h h' : H) → h' ≡ h → Gains h [] h')
    (one : (doubt : Bool) (h h' : H) (call : Asking) (reply : Reply) → gives doubt h call (Ok reply) h' → (step : Step) × (step.ask.call ≡ call) × (step.reply ≡ reply) × Gains h (step ∷ []) h')
    (kept : (doubt : Bool) (h h' : H) (call : Asking) (failure : CallFault) → gives doubt h call (Err failure) h' → Gains h [] h')
    (both : (h m h' : H) (first others : List Step) → Gains h first m → Gains m others h' → Gains h (first ++ others) h') where
  each : (tenant : List ℕ) (doubt : Bool) (h h' : H) (all : List Asked) (cames : List Came) → StreamsGiveAfter gives tenant doubt h all cames h' → (steps : List Step) × Gains h steps h' × AreSteps tenant all cames steps
  each tenant doubt h h' [] [] same = ([], none h h' same, refl)
  each tenant doubt h h' (a ∷ more) (Refused fault ∷ cs) (mid, (why, same), others) =
      let (steps, gains, are) = each tenant doubt mid h' more cs others in
      (steps, both h mid h' [] steps (none h mid same) gains, are)
  each tenant doubt h h' (a ∷ more) (Failed failure ∷ cs) (mid, (call, is, given), others) =
      let (steps, gains, are) = each tenant (doubt_behind doubt (Failed failure)) mid h' more cs others in
      (steps, both h mid h' [] steps (kept doubt h mid call failure given) gains, are)
  each tenant doubt h h' (a ∷ more) (Replied reply ∷ cs) (mid, (call, is, given), others) =
      let (step, called, replied, first) = one doubt h mid call reply given in
      let (steps, gains, are) = each tenant false mid h' more cs others in
      (step ∷ steps, both h mid h' (step ∷ []) steps first gains, (subst (IsCallOf tenant a) (sym called) is, replied, are))
  each tenant doubt h h' all cames never = absurd never

  goes : (tenant : List ℕ) (h h' : H) (asked : Result (List Asked) PushFault) (course : Course) → BodyGives gives tenant h asked course h' → (steps : List Step) × Gains h steps h' × AreStepsOf tenant asked course steps
  goes tenant h h' asked (Unread fault) (why, same) = ([], none h h' same, refl)
  goes tenant h h' asked (Whole cames) (all, is, went, whole) = let (steps, gains, are) = each tenant false h h' all cames went in (steps, gains, (all, is, are))
  goes tenant h h' asked (Broken cames failure) (all, is, ends) =
      let (steps, gains, are) = each tenant false h h' ends.done cames ends.each in
      (steps, gains, (ends.done, ends.more, is ∙ ap (λ l. Ok l) ends.split, are))

  handled : (now : ℕ) (body : List ℕ) (h h' : H) (verdict : Verdict) (course : Course) → VerdictGives gives now body verdict h course h' → (steps : List Step) × Gains h steps h' × AreStepsBy now body verdict course steps
  handled now body h h' (Call route tenant) course takes =
      let (steps, gains, are) = goes tenant h h' takes.asked course takes.goes in (steps, gains, (takes.asked, takes.asks, are))
  handled now body h h' verdict course (what, same) = ([], none h h' same, refl)

  gives_up : (tenant : List ℕ) (h h' : H) (says : ℕ → Came → List ℕ) (asked : Result (List Asked) PushFault) → BodyIsLeft gives tenant says h asked h' → (steps : List Step) × Gains h steps h' × AreFirstStepsOf tenant asked steps
  gives_up tenant h h' says (Err fault) (told, same) = ([], none h h' same, refl)
  gives_up tenant h h' says (Ok all) stops =
      let (steps, gains, are) = each tenant false h h' stops.done (stops.cames ++ stops.last ∷ stops.behind) stops.each in
      (steps, gains, (stops.done, stops.more, stops.cames ++ stops.last ∷ stops.behind, stops.split, are))

  abandoned : (now : ℕ) (body : List ℕ) (h h' : H) (verdict : Verdict) → VerdictIsLeft gives now body verdict h h' → (steps : List Step) × Gains h steps h' × AreFirstStepsBy now body verdict steps
  abandoned now body h h' (Call route tenant) left =
      let (steps, gains, are) = gives_up tenant h h' (said_of route) left.asked left.left in (steps, gains, (left.asked, left.asks, are))
  abandoned now body h h' verdict never = absurd never

  module _ {C : Type 0} (ticks : C → ℕ → C → Type 0) where
    pub its_calls : (bytes : List ℕ) (w : World H C) (e : Exchange) (rest : List ℕ) (w' : World H C) → IsExchange gives ticks bytes w e rest w'
        → (steps : List Step) × Gains w.knows steps w'.knows × AreStepsBy e.now e.request.body e.verdict e.course steps
    its_calls bytes w e rest w' x = handled e.now e.request.body w.knows w'.knows e.verdict e.course x.calls

    pub its_first_calls : (bytes : List ℕ) (w w' : World H C) (left : IsAbandoned gives ticks bytes w w')
        → (steps : List Step) × Gains w.knows steps w'.knows × AreFirstStepsBy left.now left.request.body left.verdict steps
    its_first_calls bytes w w' left = abandoned left.now left.request.body w.knows w'.knows left.verdict left.calls

    pub their_calls : (bytes : List ℕ) (w : World H C) (es : List Exchange) (rest : List ℕ) (w' : World H C) → ConnectionGives gives ticks bytes w es rest w'
        → (steps : List Step) × Gains w.knows steps w'.knows × AreTheirSteps es steps
    their_calls bytes w [] rest w' (same, still) = ([], none w.knows w'.knows (ap (λ x. x.knows) still), refl)
    their_calls bytes w (e ∷ es) rest w' (mid, between, x, stays, others) =
        let (first, gains, are) = handled e.now e.request.body w.knows between.knows e.verdict e.course x.calls in
        let (more, gains_more, are_more) = their_calls mid between es rest w' others in
        (first ++ more, both w.knows between.knows w'.knows first more gains gains_more, (first, more, refl, are, are_more))
