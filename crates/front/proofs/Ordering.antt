-- What a visit puts to be sent comes after the steps of its calls.
use Rattle.std.proofs.Common.{◌≡◌, ℕ, Bool, List, [], ◌∷◌, ◌++◌, Some, Result, Ok, Err, OnOk, refl, sym, ap, ◌∙◌, subst, inl, inr, append_assoc}
use Rattle.std.proofs.lemmas.List.{append-nil, append_cancel_left}
use Rattle.std.proofs.lemmas.List.Concat.{flat_map-append}
use Rattle.std.specs.List.{flat_map}
use Rattle.accept.specs.declared.call.Call.{Call}
use Rattle.accept.specs.declared.call.Reply.{Reply}
use Rattle.accept.specs.declared.history.Step.{Step}
use Rattle.history.specs.Handles.{Passed}
use Rattle.answering.specs.Gathering.{Known, among}
use Rattle.answering.specs.Serving.{Exchange, World, response, ConnectionGives, IsExchange, IsLastResponse}
use Rattle.answering.specs.Steps.{AreStepsBy, AreTheirSteps}
use Rattle.answering.specs.Visits.{IsVisit}
use Rattle.answering.specs.declared.visiting.Visited.{Visited}
use Rattle.answering.specs.declared.visiting.Visited.TheVariants.{More, Unfinished, Closed}
use Rattle.requests.specs.declared.fault.ServeFault.{ServeFault}
use Rattle.answering.proofs.Stepping as stepping
use Rattle.front.specs.Calls.{CallGives}
use Rattle.front.specs.Laws.{Gains, AnswersAfterSteps}
use Rattle.front.specs.Visits.{Visit, IsVisited}
use Rattle.front.proofs.Gaining.{both, kept, none, one}

one_more : (es : List Exchange) (e : Exchange) (steps more : List Step) → AreTheirSteps es steps → AreStepsBy e.now e.request.body e.verdict e.course more → AreTheirSteps (es ++ e ∷ []) (steps ++ more)
one_more [] e steps more none are = (more, [], ap (λ l. l ++ more) none ∙ sym (append-nil more), are, refl)
one_more (d ∷ ds) e steps more (first, others, split, is, them) are =
    (first, others ++ more, ap (λ l. l ++ more) split ∙ append_assoc first others more, is, one_more ds e others more them are)

abbrev GainsSo : Known Passed → List Step → Known Passed → Type 0
GainsSo old steps new = Gains old.knows steps new.knows

module _ {C : Type 0} (ticks : C → ℕ → C → Type 0) where
  its : (bytes : List ℕ) (w : World (Known Passed) C) (e : Exchange) (rest : List ℕ) (w' : World (Known Passed) C) → IsExchange (among CallGives) ticks bytes w e rest w' → (steps : List Step) × GainsSo w.knows steps w'.knows × AreStepsBy e.now e.request.body e.verdict e.course steps
  its = stepping.its_calls (among CallGives) GainsSo (λ h h' same. none h.knows h'.knows (ap (λ k. k.knows) same)) (λ doubt h h' call reply is. one h.doubt h.knows h'.knows call reply is.0) (λ doubt h h' call failure is. kept h.doubt h.knows h'.knows call failure is.0)
      (λ h m h' first others. both h.knows m.knows h'.knows first others) ticks

  theirs : (bytes : List ℕ) (w : World (Known Passed) C) (es : List Exchange) (rest : List ℕ) (w' : World (Known Passed) C) → ConnectionGives (among CallGives) ticks bytes w es rest w' → (steps : List Step) × GainsSo w.knows steps w'.knows × AreTheirSteps es steps
  theirs = stepping.their_calls (among CallGives) GainsSo (λ h h' same. none h.knows h'.knows (ap (λ k. k.knows) same)) (λ doubt h h' call reply is. one h.doubt h.knows h'.knows call reply is.0) (λ doubt h h' call failure is. kept h.doubt h.knows h'.knows call failure is.0)
      (λ h m h' first others. both h.knows m.knows h'.knows first others) ticks

  goes_on : (bytes : List ℕ) (w : World (Known Passed) C) (es : List Exchange) (rest : List ℕ) (w' : World (Known Passed) C) (text : List ℕ) → ConnectionGives (among CallGives) ticks bytes w es rest w' → text ≡ flat_map response es → AnswersAfterSteps w.knows.knows w'.knows.knows text
  goes_on bytes w es rest w' text gave is =
      let (steps, made, are) = theirs bytes w es rest w' gave in
      record { exchanges = es; refusal = []; steps = steps; made = made; steps_are = are; refused = inl refl; is = is ∙ sym (append-nil (flat_map response es)) }

  finish : (bytes rest last : List ℕ) (w between after : World (Known Passed) C) (es : List Exchange) (text : List ℕ) → ConnectionGives (among CallGives) ticks bytes w es rest between → IsLastResponse (among CallGives) ticks rest between last after → text ≡ flat_map response es ++ last
      → AnswersAfterSteps w.knows.knows after.knows.knows text
  finish bytes rest last w between after es text gave (inl (e, left, x, closes, is)) put =
      let (steps, made, are) = theirs bytes w es rest between gave in
      let (more, gains, are_more) = its rest between e left after x in
      record {
        exchanges = es ++ e ∷ [];
        refusal = [];
        steps = steps ++ more;
        made = gains ∙ ap (λ l. l ++ more) made ∙ append_assoc w.knows.knows.caller.made steps more;
        steps_are = one_more es e steps more are are_more;
        refused = inl refl;
        is = put ∙ ap (λ l. flat_map response es ++ l) (is ∙ sym (append-nil (response e))) ∙ sym (flat_map-append response es (e ∷ [])) ∙ sym (append-nil (flat_map response (es ++ e ∷ [])));
      }
  finish bytes rest last w between after es text gave (inr (why, refused, is, still)) put =
      let (steps, made, are) = theirs bytes w es rest between gave in
      record {
        exchanges = es;
        refusal = last;
        steps = steps;
        made = ap (λ x. x.knows.knows.caller.made) still ∙ made;
        steps_are = are;
        refused = inr (why, is);
        is = put;
      }

  by : (v : Visit C) (result : Result Visited ServeFault) → IsVisit (among CallGives) ticks (Some v.waiting) (Some (v.waiting ++ v.text)) (v.held ++ v.taken) v.before v.rest v.after result → OnOk result (AnswersAfterSteps v.before.knows.knows v.after.knows.knows v.text)
  by v (Ok More) (k, some) = goes_on (v.held ++ v.taken) v.before k.exchanges v.rest v.after v.text k.serves (append_cancel_left v.waiting v.text (flat_map response k.exchanges) k.appends)
  by v (Ok (Unfinished n)) (k, unbegun) = goes_on (v.held ++ v.taken) v.before k.exchanges v.rest v.after v.text k.serves (append_cancel_left v.waiting v.text (flat_map response k.exchanges) k.appends)
  by v (Ok Closed) o =
      let a = o.served in
      finish (v.held ++ v.taken) a.rest a.last v.before a.between v.after a.exchanges v.text a.serves a.finishes (append_cancel_left v.waiting v.text o.text o.appends ∙ a.written)
  by v (Err fault) is = tt

  pub after_steps : (v : Visit C) → IsVisited ticks v → OnOk v.result (AnswersAfterSteps v.before.knows.knows v.after.knows.knows v.text)
  after_steps v is = by v v.result is
