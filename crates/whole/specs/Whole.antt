-- The front page's sentence, of the bytes of all connections.
use Rattle.std.specs.Prelude.{◌≡◌, ◌≢◌, ◌⊎◌, ℕ, ◌<◌, true, List, [], ◌∷◌, ◌++◌, filter, Some, Ok, Vec}
use Rattle.std.specs.declared.alloc.Global.{Global}
use Rattle.std.specs.List.{flat_map}
use Rattle.std.specs.FinMap as finite
use Rattle.labels.specs.Canonical.{IsTextOf}
use Rattle.headline.specs.Types.{StreamKey, Streams, Call, Ask, Step, Item, Answered, About, Sight, Passed}
use Rattle.entries.specs.declared.entry.Entry.{Entry}
use Rattle.accept.specs.OneStream.{same_entry, base_last, base_kept}
use Rattle.accept.specs.Histories.{is_step_of, reply_to, stored, stored_in}
use Rattle.accept.specs.declared.call.Call.TheVariants as calls
use Rattle.accept.specs.declared.call.Reply.TheVariants.{Trimmed}
use Rattle.pushjson.specs.Reads.{ReadsPush}
use Rattle.pushjson.specs.declared.push.RawBatch.{RawBatch}
use Rattle.history.specs.Histories.{IsAmong, IsBeginning, base_at, terms_of, history_of, shard_in}
use Rattle.history.specs.Shards.{shard_of}
use Rattle.requests.specs.Answers.{fixed_text}
use Rattle.requests.specs.Fields.{fields_of}
use Rattle.requests.specs.Streams.{Request, ReadsMessage, ReadsRequests, BeginsRefused}
use Rattle.requests.specs.Verdicts.{IsVerdict}
use Rattle.requests.specs.declared.fixed.FixedAnswer.{FixedAnswer}
use Rattle.requests.specs.declared.route.Route.{Route}
use Rattle.requests.specs.declared.route.Route.TheVariants.{Push}
use Rattle.requests.specs.declared.status.Status.TheVariants.{NoContent}
use Rattle.requests.specs.declared.verdict.Verdict.TheVariants as verdicts
use Rattle.answering.specs.Asking.{Asked, AsksFor, IsCallOf}
use Rattle.answering.specs.Calls.{Came}
use Rattle.answering.specs.Courses.{Whole}
use Rattle.answering.specs.Gathering.{Known, among}
use Rattle.answering.specs.Joining.{AnswersApart}
use Rattle.answering.specs.Lines.{push_status}
use Rattle.answering.specs.Serving.{Exchange, World, response, IsExchange}
use Rattle.answering.specs.Steps.{AreStepsBy}
use Rattle.front.specs.Calls.{CallGives}
use Rattle.headline.specs.Headline.{IsOneOf, before_step}
use Rattle.headline.specs.Lives.{Life, IsHeadlineOf, MayBeReplayed, writing_in}
use Rattle.front.specs.Visits.{Visit, Line, bytes_of}
use Rattle.whole.specs.Visits.{Worker, steps_among}

-- the step stands once in the histories of all shards, where its key is, with the reply that is due there
pub record StandsOnce (about : About) (history : ℕ → List Item) (s : Step) : Type 0 where
  pub once : filter (is_step_of s.ask) (history (shard_in about s.ask)) ≡ Answered s ∷ []
  pub nowhere_else : (k : ℕ) → k < about.shards → k ≢ shard_in about s.ask
      → filter (is_step_of s.ask) (history k) ≡ []
  pub due : s.reply ≡ reply_to (terms_of about (shard_in about s.ask))
      (history_of about (shard_in about s.ask)
      (before_step s.ask (history (shard_in about s.ask)))) s.ask.call

-- each call of a request that got a reply has its step so
pub record HasItsSteps (about : About) (history : ℕ → List Item) (e : Exchange) : Type 0 where
  pub steps : List Step
  pub steps_are : AreStepsBy e.now e.request.body e.verdict e.course steps
  pub stand : (s : Step) → IsOneOf s steps → StandsOnce about history s

-- it was a push, with these streams in its body, and is answered with 204
pub record IsAcknowledged (e : Exchange) (tenant : List ℕ) (batches : List RawBatch) : Type 0 where
  pub push : e.verdict ≡ verdicts.Call Push tenant
  pub read : Vec RawBatch Global
  pub read_as : ReadsPush e.request.body (Ok read)
  pub streams : batches ≡ read.items
  pub cames : List Came
  pub went : e.course ≡ Whole cames
  pub no_content : push_status cames ≡ NoContent

-- a trim of the stream, above this time
abbrev pub IsTrimAbove : StreamKey → ℕ → Call → Type 0
IsTrimAbove key time call = (bound : ℕ) × (call ≡ calls.Trim key bound) × (time < bound)

-- a trim above it was answered so in these items, or is being written
abbrev pub MayBeTrimmed : List Item → List Ask → StreamKey → ℕ → Type 0
MayBeTrimmed items writing key time =
    ((s : Step) × IsOneOf (Answered s) items × IsTrimAbove key time s.ask.call
    × ((removed : ℕ) × (s.reply ≡ Trimmed removed)))
    ⊎ ((a : Ask) × IsOneOf a writing × IsTrimAbove key time a.call)

-- the item that stored an entry for a step: the step itself, or the latest one before it that stored on the stream
pub record WasStoredFor (history : List Item) (key : StreamKey) (s : Step) (y : Entry) : Type 0 where
  pub before : List Item
  pub item : Item
  pub later : List Item
  pub parts : history ≡ before ++ item ∷ later
  pub there : IsOneOf y (stored_in key item)
  pub its_own : (item ≡ Answered s) ⊎ ((between : List Item) × (after : List Item)
      × (later ≡ between ++ Answered s ∷ after) × (stored between key ≡ []))

-- the same time, line and metadata
abbrev pub IsSameLine : Entry → Entry → Type 0
IsSameLine x y = (x ≡ y) ⊎ (same_entry x (Some y) ≡ true)

-- The line of this step is in the stream. Or a trim above its time was answered since it was stored, by the step or as
-- the last line, which it repeats; or is being written. Or it repeats the last line that its stream had when the shard
-- was opened, which an earlier opening may have trimmed.
abbrev pub IsLineKept : About → ℕ → List Item → List Ask → Streams → StreamKey → Step → Entry → Type 0
IsLineKept about k history writing state key s x = (y : Entry) × IsSameLine x y
    × (IsOneOf y (base_kept (finite.get state key))
    ⊎ ((w : WasStoredFor history key s y) × MayBeTrimmed w.later writing key y.time)
    ⊎ (base_last (finite.get (base_at about k) key) ≡ Some y))

-- a request among these bytes asks for this call, on one of the streams of its body
pub record IsAskedIn (bytes : List ℕ) (call : Call) : Type 0 where
  pub before : List Request
  pub behind : List ℕ
  pub there : ReadsRequests bytes before behind
  pub request : Request
  pub left : List ℕ
  pub reads : ReadsMessage behind request left
  pub route : Route
  pub tenant : List ℕ
  pub verdict : IsVerdict request.head.method request.head.target (fields_of request.head)
      (verdicts.Call route tenant)
  pub now : ℕ
  pub streams : List Asked
  pub asks : AsksFor route now request.body (Ok streams)
  pub stream : Asked
  pub one_of : IsOneOf stream streams
  pub call_is : IsCallOf tenant stream call

-- The step is of a call that a request asked for, in the bytes of a visit. Or it happened in the visit that was cut. Or
-- its call is open, as one in doubt.
abbrev pub IsOfRequest : {C : Type 0} → Worker C → Step → Type 0
IsOfRequest {C} w s = ((v : Visit C) × IsOneOf v w.visits × IsAskedIn (v.held ++ v.taken) s.ask.call)
    ⊎ IsOneOf s (steps_among w.since)
    ⊎ IsAmong s.ask w.end.caller.pending

-- what may be answered after whole requests: the next one, or what is refused there
abbrev pub IsNextOf : {C : Type 0} → (C → ℕ → C → Type 0) → List ℕ → List Exchange → List ℕ → Type 0
IsNextOf ticks rest [] refusal = (refusal ≡ [])
    ⊎ ((why : FixedAnswer) × BeginsRefused rest why × (refusal ≡ fixed_text why true))
IsNextOf {C} ticks rest (e ∷ []) refusal = (refusal ≡ [])
    × ((left : List ℕ) × (w : World (Known Passed) C) × (w' : World (Known Passed) C)
    × IsExchange (among CallGives) ticks rest w e left w')
IsNextOf ticks rest (e ∷ d ∷ es) refusal = ⊥

module _ {D : Type 0} (sight : D → Sight) (follows : D → Type 0) {C : Type 0}
    (ticks : C → ℕ → C → Type 0) (life : Life D) (history : ℕ → List Item) where
  -- whatever crash comes, this line of a step is in what is replayed
  abbrev pub IsLineSafe : StreamKey → Step → Entry → Type 0
  IsLineSafe key s x = (k : ℕ) → k ≡ shard_of key life.opening.about.shards → (state : Streams)
      → MayBeReplayed sight follows life.ends k state
      → IsLineKept life.opening.about k (history k) (writing_in life.ends history k) state key s x

  -- so is each line of a push that is answered with 204, by that one of these steps in which it was called
  abbrev pub AreLinesSafe : Exchange → List Step → Type 0
  AreLinesSafe e steps = (tenant : List ℕ) (batches : List RawBatch)
      → IsAcknowledged e tenant batches → (b : RawBatch) → IsOneOf b batches
      → (labels : List ℕ) × IsTextOf labels b.pairs × (s : Step) × IsOneOf s steps
      × (s.ask.call ≡ calls.Push (record { tenant = tenant; labels = labels }) e.now b.entries)
      × ((x : Entry) → IsOneOf x b.entries
      → IsLineSafe (record { tenant = tenant; labels = labels }) s x)

  -- What was sent of a connection is a beginning of the responses to the requests at the front of the bytes that were
  -- read of it, in their order: to some that keep the connection, and to the next, or to what is refused there. Of all
  -- of them each call that got a reply has its step, and each line that is acknowledged is safe.
  pub record IsLineAnswered (line : Line C) : Type 0 where
    pub exchanges : List Exchange
    pub rest : List ℕ
    pub requests : AnswersApart (among CallGives) ticks (bytes_of line) exchanges rest
    pub last : List Exchange
    pub refusal : List ℕ
    pub next : IsNextOf ticks rest last refusal
    pub sent : IsBeginning line.sent (flat_map response (exchanges ++ last) ++ refusal)
    pub calls : (e : Exchange) → IsOneOf e (exchanges ++ last)
        → HasItsSteps life.opening.about history e
    pub lines : (e : Exchange) → (one : IsOneOf e (exchanges ++ last))
        → AreLinesSafe e (calls e one).steps

module _ {D : Type 0} (sight : D → Sight) (follows : D → Type 0) {C : Type 0}
    (ticks : C → ℕ → C → Type 0) where
  -- The connections of all workers, and the opening whose passes they have. Each connection is answered so, by calls
  -- that stand in the histories of the headline. No step of a worker's pass stands there but of calls that requests
  -- asked for.
  pub record IsWhole (life : Life D) (workers : List (Worker C)) (lines : List (Line C)) : Type 0 where
    pub history : ℕ → List Item
    pub headline : IsHeadlineOf sight follows life history
    pub answered : (line : Line C) → IsOneOf line lines
        → IsLineAnswered sight follows ticks life history line
    pub no_other_steps : (w : Worker C) → IsOneOf w workers → (k : ℕ)
        → k < life.opening.about.shards → (s : Step) → IsOneOf (Answered s) (history k)
        → s.ask.pass ≡ w.number
        → IsOfRequest w s
