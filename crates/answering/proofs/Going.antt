-- From how the calls of a request went to its answer.
use Rattle.std.proofs.Common.{◌≡◌, ◌≢◌, ℕ, ◌+◌, ◌<◌, ◌≤◌, ◌^◌, false, All, sum_by, List, [], ◌∷◌, map, length, Result, Ok, Err, refl, sym, ap, ap₂, ◌∙◌, subst, arith, Some}
use Rattle.accept.specs.declared.call.Call.{Call}
use Rattle.pushjson.specs.declared.fault.PushFault.{PushFault}
use Rattle.pushjson.specs.declared.fault.PushFault.TheVariants.{Memory}
use Rattle.pushjson.specs.declared.push.RawBatch.{RawBatch}
use Rattle.requests.specs.declared.answer.Answer.{Answer}
use Rattle.accept.specs.declared.fault.CallFault.{CallFault}
use Rattle.requests.specs.declared.route.Route.{Route}
use Rattle.requests.specs.declared.route.Route.TheVariants.{Push}
use Rattle.answering.specs.declared.responding.NoAnswer.{NoAnswer}
use Rattle.answering.specs.declared.responding.NoAnswer.TheVariants.{Failed, GivenUp}
use Rattle.answering.specs.Asking.{Asked, AsksFor, HasNumbers, asked_push}
use Rattle.pushjson.specs.Bodies.{Stream, batch_of, entry_of_line, entry_count}
use Rattle.std.proofs.lemmas.List.{length-map}
use Rattle.std.proofs.lemmas.List.Sums.{sum_by-cons, get_or-le-sum_by}
use Rattle.answering.specs.Calls.{Giving, Came}
use Rattle.answering.specs.Calls as cames
use Rattle.answering.specs.Courses.{Unread, Whole, Broken, said_of, StreamGives}
use Rattle.answering.specs.declared.calling.Uncalled.{Uncalled}
use Rattle.answering.specs.declared.calling.Uncalled.TheVariants.{Body, Labels}
use Rattle.answering.specs.Demands.{IsDemand}
use Rattle.answering.specs.declared.demands.Demand.TheVariants as demands
use Rattle.answering.specs.declared.windows.Streams.{Streams}
use Rattle.answering.specs.Windows.{AsksForStreams, came_of}
use Rattle.accept.specs.declared.call.Reply.{Reply}
use Rattle.accept.specs.declared.fault.CallFault.TheVariants as call_faults
use Rattle.answering.specs.Parts.{BodyIsRefused, CameIsTold, UncalledIsAnswered, BodyIsAnswered, AsksForCall, IsUncalled, IsOfOne}
use Rattle.answering.specs.Replies.{one_status, one_text}
use Rattle.answering.specs.Showing.{IsShown}
use Rattle.answering.specs.Responses.{RequestEnds, RequestIsUnsaid, cames_status, cames_text}
use Rattle.answering.proofs.Pushing.{came_given}

shows_one : (route : Route) → IsOfOne route → (came : Came) (answer : Answer) → IsShown (one_status came) (one_text came) answer → IsShown (cames_status route (came ∷ [])) (cames_text route (came ∷ [])) answer
shows_one Push never came answer shows = absurd never
shows_one route single came answer shows = shows

-- there was no memory, which the body does not forbid
unread : (route : Route) (now : ℕ) (body : List ℕ) → AsksFor route now body (Err Memory)
unread Push now body = (Err Memory, tt, refl)
unread route now body = (Err Memory, tt, refl)

-- the labels of the one stream are no key, or there was no memory for one
pub uncalled : (route : Route) (tenant body : List ℕ) (asked : Asked) (why : Uncalled) → ((now : ℕ) → AsksFor route now body (Ok (asked ∷ []))) → IsUncalled asked.pairs why → AsksForCall route tenant body (Err why)
uncalled route tenant body asked (Body fault) asks memory = λ now. subst (λ f. AsksFor route now body (Err f)) (sym memory) (unread route now body)
uncalled route tenant body asked (Labels fault) asks is = (asked, asks, is)

says_one : (route : Route) → IsOfOne route → (came : Came) → one_text came ≢ [] → said_of route 0 came ≢ []
says_one Push never came said = absurd never
says_one route single came said = said

module _ {H : Type 0} (gives : Giving H) (now : ℕ) (tenant body : List ℕ) where
  pub refused : (route : Route) (h : H) (fault : PushFault) (result : Result Answer NoAnswer) → AsksFor route now body (Err fault) → BodyIsRefused fault result → RequestEnds gives route now tenant body h result h
  refused route h fault (Ok answer) asks (none, shows) = (Unread fault, record { asked = Err fault; asks = asks; goes = (refl, refl) }, none, shows)
  refused route h fault (Err (Failed failure)) asks some = (Unread fault, record { asked = Err fault; asks = asks; goes = (refl, refl) }, some)
  refused route h fault (Err GivenUp) asks none = record { asked = Err fault; asks = asks; left = (none, refl) }

  pub unsaid : (route : Route) (h : H) → RequestIsUnsaid gives route now tenant body h h
  unsaid route h = (Unread Memory, record { asked = Err Memory; asks = unread route now body; goes = (refl, refl) }, refl, refl)

  -- a read or a trim: its one stream came to an answer, or there was no memory for one, or its call failed
  module _ (route : Route) (single : IsOfOne route) (h h' : H) (asked : Asked) (asks : AsksFor route now body (Ok (asked ∷ []))) where
    told : (came : Came) (result : Result Answer NoAnswer) → StreamGives gives tenant false h asked came h' → CameIsTold came result → RequestEnds gives route now tenant body h result h'
    told (cames.Failed failure) (Err (Failed same)) given e = (
      Broken (cames.Failed failure ∷ []) failure,
      record {
        asked = Ok (asked ∷ []);
        asks = asks;
        goes = (asked ∷ [], refl, record { done = asked ∷ []; more = []; split = refl; each = (h', given, refl); fails = refl; few = omega arith });
      },
      ap Some (sym e),
    )
    told (cames.Failed failure) result given never = absurd never
    told came (Ok answer) given shows = (Whole (came ∷ []), record { asked = Ok (asked ∷ []); asks = asks; goes = (asked ∷ [], refl, (h', given, refl), refl) }, refl, shows_one route single came answer shows)
    told came (Err GivenUp) given said = record {
      asked = Ok (asked ∷ []);
      asks = asks;
      left = record { done = asked ∷ []; more = []; cames = []; last = came; behind = []; split = refl; each = (h', given, refl); whole = refl; said = says_one route single came said; few = omega arith };
    }
    told came (Err (Failed failure)) given never = absurd never

  pub push : (h h' : H) (all : List Asked) (result : Result Answer NoAnswer) → AsksFor Push now body (Ok all) → BodyIsAnswered gives tenant h all result h' → RequestEnds gives Push now tenant body h result h'
  push h h' all (Ok answer) asks (cames, each, whole, shows) = (Whole cames, record { asked = Ok all; asks = asks; goes = (all, refl, each, whole) }, refl, shows)
  push h h' all (Err (Failed failure)) asks (cames, ends) = (Broken cames failure, record { asked = Ok all; asks = asks; goes = (all, refl, ends) }, refl)
  push h h' all (Err GivenUp) asks s = record {
    asked = Ok all;
    asks = asks;
    left = record { done = s.done; more = s.more; cames = s.cames; last = s.last; behind = s.behind; split = s.split; each = s.each; whole = s.whole; said = s.said; few = s.few };
  }

  -- no call was made
  pub nothing : (route : Route) (h : H) (why : Uncalled) (result : Result Answer NoAnswer) → IsDemand route now tenant body (demands.Nothing why) → UncalledIsAnswered why result → RequestEnds gives route now tenant body h result h
  nothing Push h (Body fault) result asks is = refused Push h fault result asks is
  nothing Push h (Labels fault) result never is = absurd never
  nothing route h (Body fault) result asks is = refused route h fault result (asks now) is
  nothing route h (Labels fault) result (asked, asks, why) is = told route tt h h asked (asks now) (cames.Refused fault) result (why, refl) is

  -- a read or a trim was made
  pub one_made : (route : Route) (h h' : H) (call : Call) (outcome : Result Reply CallFault) (result : Result Answer NoAnswer) → IsDemand route now tenant body (demands.One call) → gives false h call outcome h' → CameIsTold (came_of outcome) result → RequestEnds gives route now tenant body h result h'
  one_made Push h h' call outcome result never given shows = absurd never
  one_made route h h' call outcome result (asked, asks, is) given shows = told route tt h h' asked (asks now) (came_of outcome) result (came_given gives tenant false h h' asked call outcome is given) shows

  -- a push was, or there was no memory for it
  pub push_made : (route : Route) (h h' : H) (streams : Streams) (result : Result Answer NoAnswer) → IsDemand route now tenant body (demands.Streams streams)
      → (AsksForStreams now tenant body streams.places.items streams.calls.items → RequestEnds gives Push now tenant body h result h') → RequestEnds gives route now tenant body h result h'
  push_made Push h h' streams result asks ends = ends asks
  push_made route h h' streams result never ends = absurd never

  pub no_memory : (h : H) → RequestEnds gives Push now tenant body h (Err (Failed call_faults.Memory)) h
  no_memory h = refused Push h Memory (Err (Failed call_faults.Memory)) (unread Push now body) refl

counted : (streams : List Stream) → sum_by (λ b. length b.entries) (map batch_of streams) ≡ entry_count streams
counted [] = refl
counted (s ∷ streams) =
    sum_by-cons (λ b. let b' : RawBatch = b in length b'.entries) (batch_of s) (map batch_of streams)
    ∙ ap₂ ◌+◌ (length-map s.values entry_of_line) (counted streams) ∙ sym (sum_by-cons (λ s'. let t : Stream = s' in length t.values) s streams)

-- what a push may be made of
pub lawful : (now : ℕ) (batches : List RawBatch) (streams : List Stream) → now < 2 ^ 63 → All (λ b. All (λ e. e.time < 2 ^ 63) b.entries) batches
    → entry_count streams ≤ 10000 → batches ≡ map batch_of streams → All (λ b. HasNumbers (asked_push now b)) batches
lawful now batches streams clock range few is k d within =
    let here = get_or-le-sum_by (λ b. let b' : RawBatch = b in length b'.entries) batches k d within in
    let all = ap (sum_by (λ b. let b' : RawBatch = b in length b'.entries)) is ∙ counted streams in
    λ key. (clock, range k d within, omega (arith, here, all, few))
