-- What a disk over a file shows.
use Rattle.std.specs.Prelude.{◌≡◌, ◌≤◌, ℕ, List, []}
use Rattle.disk.specs.declared.file.FileDisk.{FileDisk}
use Rattle.disk.specs.Sight.{Sight}
use Rattle.disk.specs.State.{IsImage}
use Rattle.disk.specs.Laws.{now_counts, just_now, always_sound}
use Rattle.disk.specs.Calls.{Call, Start, start_sound}
use Rattle.disk.specs.CallRecord.{HasFollowed, acts_in, sight_by}

-- so far each call of the system on the file answered what the model gives, from the state in which it was opened
abbrev pub FileFollows : FileDisk → Type 0
FileFollows f = HasFollowed f.calls.noted

abbrev pub file_sight : FileDisk → Sight
file_sight f = sight_by f.calls.noted f.failures

-- the calls of the system on the file so far, the last of them first
abbrev pub calls_on : FileDisk → List Call
calls_on f = f.calls.noted.calls

-- a disk over a file that starts so, on which no call was made
pub record IsFresh (start : Start) (f : FileDisk) : Type 0 where
  pub start_is : f.calls.noted.start ≡ start
  pub no_call : f.calls.noted.calls ≡ []
  pub seen : (file_sight f).seen ≡ start.state.now
  -- The premise holds at first, where the state is one that there can be.
  pub follows : IsImage start.state start.state.now → FileFollows f

pub file_counts_now : (f : FileDisk) (t : ℕ) (c : List ℕ) → FileFollows f
    → t ≤ (file_sight f).moment
    → (file_sight f).may_leave c
    → (file_sight f).left_since t c
file_counts_now f t c follows le image =
    now_counts f.calls.noted.start.state (acts_in f.calls.noted) f.failures t c le image

pub file_only_now : (f : FileDisk) (c : List ℕ) → FileFollows f
    → (file_sight f).left_since (file_sight f).moment c
    → (file_sight f).may_leave c
file_only_now f c follows left =
    just_now f.calls.noted.start.state (acts_in f.calls.noted) f.failures c left

pub file_seen_may_stay : (f : FileDisk) → FileFollows f
    → (file_sight f).may_leave (file_sight f).seen
file_seen_may_stay f follows =
    always_sound f.calls.noted.start.state
    (start_sound f.calls.noted.start f.calls.noted.calls follows)
    (acts_in f.calls.noted)
