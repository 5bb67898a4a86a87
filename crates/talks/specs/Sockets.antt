-- What the system did with a socket.
use Rattle.std.specs.Prelude.{ℕ, List, [], ◌∷◌, ◌++◌, ◌==◌, if◌then◌else◌, slice_index}

pub data SocketCall : Type 0 where
  -- these bytes came
  Heard : List ℕ → SocketCall
  -- it took these bytes
  Said : List ℕ → SocketCall
  -- it sends at once
  NoDelay : SocketCall
  -- it never waits
  NoWaiting : SocketCall

-- a note's number is its kind
abbrev pub socket_call_of : List ℕ → List ℕ → SocketCall
socket_call_of numbers bytes =
    if slice_index numbers 0 == 0 then Heard bytes
    else (if slice_index numbers 0 == 1 then Said bytes
    else (if slice_index numbers 0 == 2 then NoDelay
    else NoWaiting))

-- all that came, where the last call stands first
abbrev pub heard_in : List SocketCall → List ℕ
heard_in [] = []
heard_in (Heard bytes ∷ calls) = heard_in calls ++ bytes
heard_in (call ∷ calls) = heard_in calls

-- all that it took
abbrev pub said_in : List SocketCall → List ℕ
said_in [] = []
said_in (Said bytes ∷ calls) = said_in calls ++ bytes
said_in (call ∷ calls) = said_in calls
