-- What a call, a look and a meeting leave of what passes know.
use Rattle.std.specs.Prelude.{◌≡◌, ◌≢◌, ◌⊎◌, ◌↔◌, ℕ, ◌+◌, Bool, true, false, List, [], ◌∷◌, ◌++◌, Result, Ok, Err, IfOk, IfErr}
use Rattle.std.specs.Result.{IsErrOf}
use Rattle.accept.specs.declared.call.Call.{Call}
use Rattle.accept.specs.declared.call.Reply.{Reply}
use Rattle.accept.specs.declared.history.Step.{Step}
use Rattle.history.specs.declared.views.Caller.{Caller}
use Rattle.history.specs.Histories.{IsLegalAt, IsByPasses, shard_in, step_of}
use Rattle.history.specs.Plays.{seen_at, ask_of, announce_to, collect_to, Extends}
use Rattle.history.specs.Handles.{Passed, is_closed_pass}
use Rattle.accept.specs.Doubts.{is_doubt}
use Rattle.accept.specs.declared.fault.CallFault.{CallFault}
use Rattle.accept.specs.declared.fault.CallFault.TheVariants.{Memory, PassClosed, LogSpent, InDoubt}
use Rattle.owners.specs.Openings.{Opening}

-- The pass is of this opening, and waits for no answer. One that was closed may have calls whose answers are lost.
pub record IsPassOf {D : Type 0} (opening : Opening D) (pass : Passed) : Type 0 where
  pub table : pass.table ≡ opening.table
  pub about : pass.caller.about ≡ opening.about
  pub idle : pass.closed ≡ false → pass.caller.pending ≡ []

-- the step of the next call of a pass
abbrev pub next_step : Caller → Call → Reply → Step
next_step c call reply = step_of (ask_of c (c.last + 1) call) reply

-- the shard of the next call of a pass
abbrev pub shard_for : Caller → Call → ℕ
shard_for c call = shard_in c.about (ask_of c (c.last + 1) call)

-- The call is answered. Of its shard the pass has seen what it had seen, items of others, and the call's step. Nothing
-- else has changed.
pub record IsAnswered (old new : Passed) (call : Call) (reply : Reply) : Type 0 where
  pub pass : new ≡ record old {
    caller = collect_to (announce_to old.caller (old.caller.last + 1) call)
        (next_step old.caller call reply) (seen_at new.caller (shard_for old.caller call));
  }
  pub extends : Extends old.caller.pass (seen_at old.caller (shard_for old.caller call))
      (next_step old.caller call reply) (seen_at new.caller (shard_for old.caller call))
  pub legal : IsLegalAt old.caller.about (shard_for old.caller call)
      (seen_at new.caller (shard_for old.caller call))
  pub by_passes : IsByPasses old.caller.about.passes
      (seen_at new.caller (shard_for old.caller call))
  pub others : (k : ℕ) → k ≢ shard_for old.caller call → seen_at new.caller k ≡ seen_at old.caller k

-- the pass with its next number used up, which no call has
abbrev pub without_next : Passed → Passed
without_next pass = record pass {
  caller = record {
    about = pass.caller.about;
    pass = pass.caller.pass;
    last = pass.caller.last + 1;
    seen = pass.caller.seen;
    made = pass.caller.made;
    withdrawn = pass.caller.withdrawn ++ (pass.caller.last + 1) ∷ [];
    pending = [];
  };
}

-- the pass with its next call announced
abbrev pub with_next : Passed → Call → Passed
with_next pass call = record pass { caller = announce_to pass.caller (pass.caller.last + 1) call }

-- the pass announces no call any more
abbrev pub closed_now : Passed → Passed
closed_now pass = record pass { closed = true }

-- The call is in doubt. It was not made and its number is used up, or it stays open and may have its step. The pass is
-- closed, and else as it was.
abbrev pub IsLost : Passed → Call → Passed → Type 0
IsLost old call new = (new ≡ closed_now (without_next old))
    ⊎ (new ≡ closed_now (with_next old call))

-- The call has no reply. A closed pass is as it was; else one number is used up, and the rest is as it was.
abbrev pub IsRefused : Passed → Call → Passed → CallFault → Type 0
IsRefused old call new Memory = new ≡ without_next old
IsRefused old call new LogSpent = new ≡ without_next old
IsRefused old call new PassClosed = new ≡ old
IsRefused old call new InDoubt = IsLost old call new

-- this came of the next call of a pass: from what the pass knew to what it knows then
pub record IsGiven (old : Passed) (call : Call) (outcome : Result Reply CallFault)
    (new : Passed) : Type 0 where
  pub answered : IfOk outcome (λ reply. IsAnswered old new call reply)
  pub refused : IfErr outcome (λ fault. IsRefused old call new fault)
  pub closed : IsErrOf outcome PassClosed ↔ (is_closed_pass old ≡ true)

-- This came of a call of a pass. Where the one before it is in doubt, this one was announced too, and may be lost with
-- it: then it stays open.
abbrev pub IsGivenAfter : Bool → Passed → Call → Result Reply CallFault → Passed → Type 0
IsGivenAfter false old call outcome new = IsGiven old call outcome new
IsGivenAfter true old call outcome new = IsGiven old call outcome new
    ⊎ ((outcome ≡ Err InDoubt) × (new ≡ with_next old call))

abbrev pub AreGivenAfter : Bool → Passed → List Call → List (Result Reply CallFault) → Passed
    → Type 0
AreGivenAfter lost old [] [] new = new ≡ old
AreGivenAfter lost old [] (r ∷ rs) new = ⊥
AreGivenAfter lost old (call ∷ calls) [] new = ⊥
AreGivenAfter lost old (call ∷ calls) (r ∷ rs) new = (mid : Passed)
    × IsGivenAfter lost old call r mid
    × AreGivenAfter (is_doubt r) mid calls rs new

-- this came of the calls, made one after another
abbrev pub AreGiven : Passed → List Call → List (Result Reply CallFault) → Passed → Type 0
AreGiven old calls outcomes new = AreGivenAfter false old calls outcomes new
