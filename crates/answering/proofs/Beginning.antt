-- A turn in two parts, as one; and a visit of one turn.
use Rattle.std.proofs.Common.{◌≡◌, ◌≢◌, ℕ, Bool, true, false, ◌||◌, List, [], ◌∷◌, drop, slice_range, Option, None, Some, Result, Ok, Err, IfErr, refl, sym, ap, ◌∙◌, subst, inl}
use Rattle.std.proofs.lemmas.Option.{none-some, same_Some}
use Rattle.std.specs.Prelude.{is_err}
use Rattle.requests.specs.Answers.{failure_text}
use Rattle.requests.specs.Streams.{Request, ReadsMessage, IsMessage}
use Rattle.requests.specs.Writing.{WritesBeginning}
use Rattle.requests.specs.declared.answer.Answer.{Answer}
use Rattle.requests.specs.declared.fault.ServeFault.{ServeFault}
use Rattle.requests.specs.declared.fault.ServeFault.TheVariants.{Write, Memory}
use Rattle.requests.specs.declared.incoming.Message.{Message}
use Rattle.requests.specs.declared.route.Route.{Route}
use Rattle.requests.specs.declared.verdict.Verdict.{Verdict}
use Rattle.requests.specs.declared.verdict.Verdict.TheVariants.{Call}
use Rattle.answering.specs.Beginning.{NoCalls, WaitsForCalls, IsTurnWithoutCalls, IsRoomAfter, turn_after, turn_by}
use Rattle.answering.specs.Calls.{Giving}
use Rattle.answering.specs.Connections.{Unended, IsLeftSo}
use Rattle.answering.specs.Replying.{IsReplied, text_of_answer}
use Rattle.answering.specs.Responses.{RequestEnds}
use Rattle.answering.specs.Courses.{Course}
use Rattle.answering.specs.Serving.{World, world, VerdictGives, failure_at, is_failed, ends_behind, response_text, IsUnbegun}
use Rattle.answering.specs.Turns.{ResponseIsWritten, ConnectionTurnIsServed, IsLeftByTurn}
use Rattle.answering.specs.Visits.{KeepsOn, IsVisit}
use Rattle.answering.specs.declared.demands.Demand.{Demand}
use Rattle.answering.specs.declared.responding.NoAnswer.{NoAnswer}
use Rattle.answering.specs.declared.responding.NoAnswer.TheVariants.{Failed, GivenUp}
use Rattle.answering.specs.declared.visiting.TurnOutcome.{TurnOutcome}
use Rattle.answering.specs.declared.visiting.TurnOutcome.TheVariants.{Answered, Closed, Unfinished}
use Rattle.answering.specs.declared.visiting.Visited.{Visited}
use Rattle.answering.specs.declared.visiting.Visited.TheVariants as visited
use Rattle.answering.proofs.Seeing.{turn_seen}
use Rattle.answering.proofs.Turning.{answered, said_failed, out, not_out, put_out, not_memory, left_out, turn_by_response, starts, goes_on, goes_on_by_some, stays, closed, stopped}

-- what was put there is the response, by how the calls went
module _ {H : Type 0} (gives : Giving H) (now : ℕ) (route : Route) (tenant body : List ℕ) (close : Bool) (h h' : H) (before : Option (List ℕ)) where
  pub replied : (after : Option (List ℕ)) (told : Result Answer NoAnswer) (result : Result Bool ServeFault) → RequestEnds gives route now tenant body h told h' → IsReplied before after told close result
      → ResponseIsWritten gives now body before after (Call route tenant) close h h' result
  replied after (Ok answer) result (course, went, none, shows) put =
      put_out gives now body (Call route tenant) close course h h' before after went (text_of_answer answer close) close result (answered route close course answer none shows) (ap (λ f. is_failed f || close) (sym none)) (λ fault is lacks. none) put
  replied after (Err (Failed failure)) result (course, went, failed) (put, cause) =
      put_out gives now body (Call route tenant) close course h h' before after went (failure_text failure) true result (said_failed route close course failure failed) (ap (λ f. is_failed f || close) (sym failed))
      (λ fault is lacks. absurd (not_memory fault (subst (λ r. IfErr r (λ f. f ≡ Write)) is cause) lacks)) put
  replied after (Err GivenUp) result left (same, is) =
      subst (λ a. ResponseIsWritten gives now body before a (Call route tenant) close h h' result) (sym same)
      (subst (ResponseIsWritten gives now body before before (Call route tenant) close h h') (sym is) (left_out gives now body (Call route tenant) close h h' before left))

module _ {H C : Type 0} (gives : Giving H) (ticks : C → ℕ → C → Type 0) (h : H) where
  -- what no call changed is so whatever is known
  pub without_calls : (before after : Option (List ℕ)) (bytes : List ℕ) (clock : C) (rest : List ℕ) (clock' : C) (result : Result TurnOutcome ServeFault) → IsTurnWithoutCalls ticks before after bytes clock rest clock' result
      → ConnectionTurnIsServed gives ticks before after bytes (world h clock) rest (world h clock') result
  without_calls before after bytes clock rest clock' result t = record {
    text = t.text;
    appends = t.appends;
    gives_next = turn_seen (λ (u : Unit {0}). h) NoCalls gives (λ doubt u. Unit {0}) (λ doubt old new call outcome at never. absurd never) ticks bytes (world tt clock) t.text rest (world tt clock') result tt t.gives_next;
  }

module _ {H C : Type 0} (gives : Giving H) (ticks : C → ℕ → C → Type 0) (bytes : List ℕ) (clock clock' : C) (m : Message) (demand : Demand) (w : WaitsForCalls ticks bytes clock clock' m demand) (h h' : H) where
  abbrev body : List ℕ
  body = slice_range bytes m.start m.end

  response : (before after : Option (List ℕ)) (told : Result Answer NoAnswer) (result : Result Bool ServeFault) → RequestEnds gives w.route w.now w.tenant body h told h' → IsReplied before after told m.closes result
      → ResponseIsWritten gives w.now body before after m.verdict m.closes h h' result
  response before after told result ends put =
      subst (λ v. ResponseIsWritten gives w.now body before after v m.closes h h' result) (sym w.verdict) (replied gives w.now w.route w.tenant body m.closes h h' before after told result ends put)

  -- a request that waited was answered
  pub turn_told : (before after : Option (List ℕ)) (told : Result Answer NoAnswer) (rest : List ℕ) (result : Result Bool ServeFault) → RequestEnds gives w.route w.now w.tenant body h told h' → IsReplied before after told m.closes result
      → (result ≡ Ok false → rest ≡ drop m.end bytes) → ConnectionTurnIsServed gives ticks before after bytes (world h clock) rest (world h' clock') (turn_by result)
  turn_told before after told rest result ends put dropped =
      turn_by_response gives ticks bytes w.request m w.now body (world h clock) (world h' clock') w.is w.reads w.tick refl before after rest result (response before after told result ends put) dropped

-- a visit of one turn
module _ {H C : Type 0} (gives : Giving H) (ticks : C → ℕ → C → Type 0) (old new : Unended) (w w' : World H C) where
  abbrev Served : List ℕ → Result TurnOutcome ServeFault → Type 0
  Served rest turn = ConnectionTurnIsServed gives ticks (Some old.text) (Some new.text) old.came w rest w' turn

  abbrev Left : Type 0
  Left = (result : Result Visited ServeFault) × IsLeftSo result old new × IsVisit gives ticks (Some old.text) (Some new.text) old.came w new.came w' result

  kept : (rest : List ℕ) → Served rest (Ok Answered) → KeepsOn gives ticks (Some old.text) (Some new.text) old.came w rest w'
  kept rest t = goes_on gives ticks (Some old.text) (Some old.text) (Some new.text) old.came old.came rest w w w' (starts gives ticks (Some old.text) old.came w) t

  pub visit_of_turn : (rest : List ℕ) (turn : Result TurnOutcome ServeFault) → Served rest turn → IsLeftByTurn turn rest old new → Left
  visit_of_turn rest (Ok (Unfinished n)) t (came, room, closes, said) = (
    Ok (visited.Unfinished n),
    (room, closes),
    subst (λ l. KeepsOn gives ticks (Some old.text) (Some new.text) old.came w l w' × IsUnbegun l) (sym came)
        (stays gives ticks (Some old.text) (Some old.text) (Some new.text) old.came old.came rest w w w' (starts gives ticks (Some old.text) old.came w) n t),
  )
  visit_of_turn [] (Ok Answered) t (came, room, closes, said) = (
    Ok (visited.Unfinished 16384),
    (room, closes),
    subst (λ l. KeepsOn gives ticks (Some old.text) (Some new.text) old.came w l w' × IsUnbegun l) (sym came) (kept [] t, inl refl),
  )
  visit_of_turn (x ∷ xs) (Ok Answered) t (came, room, closes, said) = (
    Ok visited.More,
    (room, closes),
    subst (λ l. (k : KeepsOn gives ticks (Some old.text) (Some new.text) old.came w l w') × (k.exchanges ≢ [])) (sym came)
        (goes_on_by_some gives ticks (Some old.text) (Some old.text) (Some new.text) old.came old.came (x ∷ xs) w w w' (starts gives ticks (Some old.text) old.came w) t),
  )
  visit_of_turn rest (Ok Closed) t (came, room, closes, said) = (
    Ok visited.Closed,
    (room, closes),
    closed gives ticks (Some old.text) (Some old.text) (Some new.text) old.came old.came rest w w w' (starts gives ticks (Some old.text) old.came w) None t,
  )
  visit_of_turn rest (Err fault) t (came, room, closes, said) = (
    Err fault,
    (room, closes),
    stopped gives ticks (Some old.text) (Some old.text) (Some new.text) old.came old.came rest w w w' (starts gives ticks (Some old.text) old.came w) fault t,
  )

-- a request that is answered without a call
module _ {C : Type 0} (ticks : C → ℕ → C → Type 0) (bytes : List ℕ) (r : Request) (m : Message) (now : ℕ) (clock clock' : C) (is : IsMessage bytes r m) (reads : ReadsMessage bytes r (drop m.end bytes)) (tick : ticks clock now clock')
    (before after : Option (List ℕ)) (course : Course) (verdict : Verdict) (same : m.verdict ≡ verdict) (handles : VerdictGives NoCalls now (slice_range bytes m.start m.end) verdict tt course tt) where
  done : (rest : List ℕ) (result : Result Bool ServeFault) → ResponseIsWritten NoCalls now (slice_range bytes m.start m.end) before after verdict m.closes tt tt result → (result ≡ Ok false → rest ≡ drop m.end bytes) → IsTurnWithoutCalls ticks before after bytes clock rest clock' (turn_by result)
  done rest result written dropped =
      let body = slice_range bytes m.start m.end in
      turn_by_response NoCalls ticks bytes r m now body (world tt clock) (world tt clock') is reads tick refl before after rest result (subst (λ v. ResponseIsWritten NoCalls now body before after v m.closes tt tt result) (sym same) written) dropped

  pub at_once : (ends : Bool) (rest : List ℕ) → WritesBeginning before after (response_text verdict m.closes course) (Ok tt) → ends ≡ ends_behind verdict m.closes course → rest ≡ drop m.end bytes
      → IsTurnWithoutCalls ticks before after bytes clock rest clock' (Ok (turn_after ends))
  at_once ends rest writes closes dropped = done rest (Ok ends) (out NoCalls now (slice_range bytes m.start m.end) verdict m.closes course tt tt before after handles ends tt writes closes) (λ e. dropped)

  pub not_at_once : (fault : ServeFault) (rest : List ℕ) → WritesBeginning before after (response_text verdict m.closes course) (Err fault) → (fault ≡ Memory → failure_at verdict course ≡ None) → IsTurnWithoutCalls ticks before after bytes clock rest clock' (Err fault)
  not_at_once fault rest writes said = done rest (Err fault) (not_out NoCalls now (slice_range bytes m.start m.end) verdict m.closes course tt tt before after handles fault writes said) (λ e. absurd (cc))

-- what is left of a connection that goes on, and of one that ends
pub goes_on_so : (turn : Result TurnOutcome ServeFault) (rest came : List ℕ) (room : Option ℕ) (n : ℕ) (old new : Unended) → IsRoomAfter turn rest came room → room ≡ Some n → new.came ≡ came → new.room ≡ n → new.closes ≡ old.closes → new.unanswered ≡ old.unanswered
    → IsLeftByTurn turn rest old new
goes_on_so (Ok (Unfinished k)) rest came room n old new (same, is) some left may closes answers = (left ∙ same, may ∙ same_Some n _ (sym some ∙ is), closes, answers)
goes_on_so (Ok Answered) rest came room n old new (same, is) some left may closes answers = (left ∙ same, may ∙ same_Some n _ (sym some ∙ is), closes, answers)
goes_on_so turn rest came room n old new (same, is) some left may closes answers = absurd (none-some n (sym is ∙ some))

-- whether it ends without an answer
abbrev pub lacks_answer : Result TurnOutcome ServeFault → Bool → Bool
lacks_answer (Ok turn) before = before
lacks_answer (Err fault) before = true

pub lacks_so : (turn : Result TurnOutcome ServeFault) (failed before now : Bool) → failed ≡ is_err turn → now ≡ before || failed → now ≡ lacks_answer turn before
lacks_so (Ok turn) failed true now is same = same ∙ ap (λ b. true || b) is
lacks_so (Ok turn) failed false now is same = same ∙ ap (λ b. false || b) is
lacks_so (Err fault) failed true now is same = same ∙ ap (λ b. true || b) is
lacks_so (Err fault) failed false now is same = same ∙ ap (λ b. false || b) is

pub ends_so : (turn : Result TurnOutcome ServeFault) (rest came : List ℕ) (room : Option ℕ) (old new : Unended) → IsRoomAfter turn rest came room → room ≡ None → new.came ≡ came → new.room ≡ 0 → new.closes ≡ true → new.unanswered ≡ lacks_answer turn old.unanswered
    → IsLeftByTurn turn rest old new
ends_so (Ok (Unfinished k)) rest came room old new (same, is) none left may closes answers = absurd (none-some _ (sym none ∙ is))
ends_so (Ok Answered) rest came room old new (same, is) none left may closes answers = absurd (none-some _ (sym none ∙ is))
ends_so (Ok Closed) rest came room old new (same, is) none left may closes answers = (left ∙ same, may, closes, answers)
ends_so (Err fault) rest came room old new (same, is) none left may closes answers = (left ∙ same, may, closes, answers)
