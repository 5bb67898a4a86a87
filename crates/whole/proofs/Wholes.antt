-- From the bytes of all connections to the disk.
use Rattle.std.proofs.Common.{ℕ, ◌<◌, List, ◌++◌, take, drop, sym, ap, ◌∙◌, append_assoc, arith, take-append-drop}
use Rattle.std.proofs.lemmas.List.Concat.{flat_map-append}
use Rattle.std.specs.List.{flat_map}
use Rattle.headline.proofs.Common.{Item, Sight, Opening, IsBeginning, Thread, IsThread, happened_to, IsOneOf, Life, ShardEnd, IsLife, IsHeadlineOf, WereRead, HasFailedSince, MayBeReplayed, MayBeRefused, writing_in, begins_trans}
use Rattle.whole.proofs.Common.{Exchange, response, Line, text_put, Worker, IsWorker, IsLine, AreThreadsOf, steps_among, HasItsSteps, IsLineAnswered, IsWhole}
use Rattle.headline.proofs.Ending.{histories, says}
use Rattle.whole.proofs.Visiting.{IsCalledBy}
use Rattle.whole.proofs.Joining.{heard_line}
use Rattle.whole.proofs.Working.{Crew, crew}
use Rattle.whole.proofs.Standing.{stands_once, of_request}
use Rattle.whole.proofs.Saving.{lines_safe}

module _ {D : Type 0} (sight : D → Sight) (follows : D → Type 0) (only_now : (d : D) (c : List ℕ) → follows d → (sight d).left_since (sight d).moment c → (sight d).may_leave c) {C : Type 0} (ticks : C → ℕ → C → Type 0)
    (given : List (List D)) (opening : Opening D) (ends : List (ShardEnd D)) (workers : List (Worker C)) (lines : List (Line C)) (are : (w : Worker C) → IsOneOf w workers → IsWorker ticks opening w) (lines_are : (line : Line C) → IsOneOf line lines → IsLine workers line) where
  abbrev crew_of : Crew ticks opening workers
  crew_of = crew ticks opening workers are

  abbrev the_life : Life D
  the_life = record { given = given; opening = opening; threads = crew_of.threads; ends = ends }

  module _ (life : IsLife sight follows the_life) where
    abbrev history : ℕ → List Item
    history = histories sight follows only_now the_life life

    headline : IsHeadlineOf sight follows the_life history
    headline = says sight follows only_now the_life life

    some_shard : 0 < opening.about.shards
    some_shard = let a = life.some_shard in let b = life.shards in omega arith

    abbrev steps : (e : Exchange) → IsCalledBy (steps_among (happened_to crew_of.threads)) e → HasItsSteps opening.about history e
    steps e c = record {
      steps = c.its;
      steps_are = c.its_are;
      stand = λ s one.
          stands_once opening.about crew_of.threads history (writing_in ends history) (WereRead sight follows the_life) (HasFailedSince sight follows the_life) (MayBeReplayed sight follows ends) (MayBeRefused sight follows ends) headline some_shard s (c.among s one);
    }

    answered : (line : Line C) → IsOneOf line lines → IsLineAnswered sight follows ticks the_life history line
    answered line one =
        let is : IsLine workers line = lines_are line one in
        let h = heard_line ticks (steps_among (happened_to crew_of.threads)) line.visits line.later is.joined (λ v of. crew_of.answers v (is.by_workers v of)) in
        let tail : List ℕ = flat_map response h.last ++ h.refusal in
        let said : IsBeginning (text_put line) (flat_map response (h.exchanges ++ h.last) ++ h.refusal) =
        record {
          rest = drop h.some tail;
          is = ap (λ l. l ++ h.refusal) (flat_map-append response h.exchanges h.last)
              ∙ append_assoc (flat_map response h.exchanges) (flat_map response h.last) h.refusal
              ∙ ap (λ l. flat_map response h.exchanges ++ l) (sym (take-append-drop h.some tail))
              ∙ sym (append_assoc (flat_map response h.exchanges) (take h.some tail) (drop h.some tail))
              ∙ ap (λ l. l ++ drop h.some tail) (sym h.is);
        } in
        record {
          exchanges = h.exchanges;
          rest = h.rest;
          requests = h.requests;
          last = h.last;
          refusal = h.refusal;
          next = h.next;
          sent = begins_trans is.sent said;
          calls = λ e of. steps e (h.calls e of);
          lines = λ e of.
              lines_safe opening.about crew_of.threads history (writing_in ends history) (WereRead sight follows the_life) (HasFailedSince sight follows the_life) (MayBeReplayed sight follows ends) (MayBeRefused sight follows ends) headline some_shard e (h.calls e of);
        }

    pub is_whole : IsWhole sight follows ticks the_life workers lines
    is_whole = record {
      history = history;
      headline = headline;
      answered = answered;
      no_other_steps = λ w one k lt s of mine.
          let its = crew_of.each w one in
          of_request ticks opening w its.0 k (history k) (headline.and_no_others its.0.thread its.1 k lt) s of mine;
    }

  pub wholes : (threads : List Thread) × AreThreadsOf workers threads × ((t : Thread) → IsOneOf t threads → IsThread opening t)
      × (IsLife sight follows (record { given = given; opening = opening; threads = threads; ends = ends })
      → IsWhole sight follows ticks (record { given = given; opening = opening; threads = threads; ends = ends }) workers lines)
  wholes = (crew_of.threads, crew_of.are_of, crew_of.are_threads, λ life. is_whole life)
