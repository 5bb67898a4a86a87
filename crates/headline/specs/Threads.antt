-- Passes of an opening, and what happens to them: calls, looks, meetings and their end.
use Rattle.std.specs.Prelude.{◌≡◌, ◌≢◌, ◌⊎◌, ℕ, ◌+◌, ◌<◌, Bool, false, List, [], ◌∷◌, flat_map, Result, Ok}
use Rattle.headline.specs.Types.{Call, Reply, CallFault, Ask, Item, Caller, Opening}
use Rattle.history.specs.Histories.{IsBeginning, IsLegalAt, IsByPasses}
use Rattle.history.specs.Plays.{seen_at, ask_of, look_to, HasStepsOf}
use Rattle.history.specs.Handles.{Passed, HaveMet, fresh_pass, with_seen}
use Rattle.accept.specs.Doubts.{is_doubt}
use Rattle.ingester.specs.Calls.{IsGivenAfter, closed_now}

-- a call, and what came of it; a look at a shard; a meeting with another pass, which has seen this then; or its end
pub data What : Type 0 where
  Called : Call → Result Reply CallFault → What
  Looked : ℕ → What
  Met : Caller → List (List Item) → What
  Closed : What

-- something that happened to a pass: what it knew before, and what it knows then
pub record Happening : Type 0 where
  pub before : Passed
  pub what : What
  pub after : Passed

-- what `Ingester::look` says
pub record IsLooked {D : Type 0} (opening : Opening D) (old : Passed) (k : ℕ)
    (new : Passed) : Type 0 where
  pub shard : k < opening.about.shards
  pub pass : new ≡ record old { caller = look_to old.caller k (seen_at new.caller k) }
  pub others : (j : ℕ) → j ≢ k → seen_at new.caller j ≡ seen_at old.caller j
  pub begins : IsBeginning (seen_at old.caller k) (seen_at new.caller k)
  pub legal : IsLegalAt old.caller.about k (seen_at new.caller k)
  pub by_passes : IsByPasses old.caller.about.passes (seen_at new.caller k)
  pub steps : HasStepsOf old.caller k (seen_at new.caller k)

-- what `Ingester::meet` says of either of the two
pub record IsMet {D : Type 0} (opening : Opening D) (old : Passed) (other : Caller)
    (theirs : List (List Item))
    (new : Passed) : Type 0 where
  pub pass : new ≡ record old { caller = with_seen old.caller new.caller.seen }
  pub met : HaveMet old.caller other opening.about.shards new.caller.seen theirs
      ⊎ HaveMet other old.caller opening.about.shards theirs new.caller.seen

-- This happened. Where the call before it is in doubt, a call may have been announced with that one.
abbrev pub Happens : {D : Type 0} → Bool → Opening D → Passed → What → Passed → Type 0
Happens lost opening old (Called call outcome) new = IsGivenAfter lost old call outcome new
Happens lost opening old (Looked k) new = IsLooked opening old k new
Happens lost opening old (Met other theirs) new = IsMet opening old other theirs new
Happens lost opening old Closed new = new ≡ closed_now old

-- whether it was a call that is in doubt
abbrev pub leaves_call_in_doubt : What → Bool
leaves_call_in_doubt (Called call outcome) = is_doubt outcome
leaves_call_in_doubt what = false

-- these happened to a pass, one after another
abbrev pub HappenAfter : {D : Type 0} → Bool → Opening D → Passed → List Happening → Passed → Type 0
HappenAfter lost opening start [] end = end ≡ start
HappenAfter lost opening start (h ∷ hs) end = (h.before ≡ start)
    × Happens lost opening h.before h.what h.after
    × HappenAfter (leaves_call_in_doubt h.what) opening h.after hs end

-- these calls, and what came of each
abbrev pub calls_with : List Call → List (Result Reply CallFault) → List What
calls_with [] outcomes = []
calls_with (call ∷ calls) [] = []
calls_with (call ∷ calls) (outcome ∷ outcomes) = Called call outcome ∷ calls_with calls outcomes

-- a pass from the opening on: its number, all that happened to it, and what it knows at the end
pub record Thread : Type 0 where
  pub number : ℕ
  pub happened : List Happening
  pub end : Passed

pub record IsThread {D : Type 0} (opening : Opening D) (t : Thread) : Type 0 where
  pub happen : HappenAfter false opening
      (fresh_pass opening.table opening.about t.number) t.happened t.end

-- the passes at the end
abbrev pub last_passes : List Thread → List Passed
last_passes [] = []
last_passes (t ∷ ts) = t.end ∷ last_passes ts

-- all that happened
abbrev pub happened_to : List Thread → List Happening
happened_to threads = flat_map (λ t. t.happened) threads

-- a call that was answered: what its pass knew when it made it, and the reply
pub record AnsweredCall : Type 0 where
  pub knew : Caller
  pub call : Call
  pub reply : Reply

abbrev pub answers_by : Caller → What → List AnsweredCall
answers_by c (Called call (Ok reply)) = record { knew = c; call = call; reply = reply } ∷ []
answers_by c what = []

-- all calls that were answered
abbrev pub calls_answered_to : List Thread → List AnsweredCall
calls_answered_to threads = flat_map (λ h. answers_by h.before.caller h.what) (happened_to threads)

-- all calls that were made, each under its pass and number, whatever came of them
abbrev pub calls_by_what : Caller → What → List Ask
calls_by_what c (Called call outcome) = ask_of c (c.last + 1) call ∷ []
calls_by_what c what = []

abbrev pub calls_made_by : List Thread → List Ask
calls_made_by threads = flat_map (λ h. calls_by_what h.before.caller h.what) (happened_to threads)
