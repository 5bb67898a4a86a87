-- A connection of a worker: what its session was, and what was said to it.
use Rattle.std.specs.Prelude.{◌≡◌, ◌⊎◌, ℕ, ◌≤◌, ◌-◌, Bool, false, List, [], ◌∷◌, ◌++◌, length, take, drop}
use Rattle.std.specs.List.{AllZip}
use Rattle.talks.specs.Sockets.{SocketCall, heard_in, said_in}

-- a session: what has come and is not answered, how much more may come, what is to be sent, and whether it ends then
pub record Seen : Type 0 where
  pub came : List ℕ
  pub room : ℕ
  pub text : List ℕ
  pub closes : Bool

-- nothing has come, and nothing is to be sent
abbrev pub HasNothing : Seen → Type 0
HasNothing s = (s.came ≡ []) × (s.text ≡ []) × (s.closes ≡ false)

-- nothing was changed, or how much may come to one of which nothing has come
abbrev pub IsSame : Seen → Seen → Type 0
IsSame s s' = (s' ≡ s) ⊎ (HasNothing s × HasNothing s')

-- these bytes came
abbrev pub with_heard : List ℕ → Seen → Seen
with_heard bytes s = record { came = s.came ++ bytes; room = s.room - length bytes; text = s.text; closes = s.closes }

-- the first bytes of its text were sent
abbrev pub with_said : ℕ → Seen → Seen
with_said n s = record { came = s.came; room = s.room; text = drop n s.text; closes = s.closes }

module _ {T : Type 0} (seen : T → Seen) (visited : T → T → Type 0) where
  -- One step of a connection, from what its session was, what had come and what was said: bytes came, no more than may;
  -- or it was visited, where it goes on; or a beginning of what was to be sent was said; or its memory was let go.
  abbrev pub Steps : T → List ℕ → List ℕ → T → List ℕ → List ℕ → Type 0
  Steps t heard said t' heard' said' =
      ((bytes : List ℕ) × (length bytes ≤ (seen t).room) × (seen t' ≡ with_heard bytes (seen t))
      × (heard' ≡ heard ++ bytes) × (said' ≡ said))
      ⊎ ((((seen t).closes ≡ false) × visited t t' × (heard' ≡ heard) × (said' ≡ said))
      ⊎ (((n : ℕ) × (n ≤ length (seen t).text) × (seen t' ≡ with_said n (seen t)) × (heard' ≡ heard)
      × (said' ≡ said ++ take n (seen t).text))
      ⊎ (IsSame (seen t) (seen t') × (heard' ≡ heard) × (said' ≡ said))))

  -- so it came to this session, from one of which nothing has come, in as many steps as the list is long
  abbrev pub TalksFor : List (Unit {0}) → T → List ℕ → List ℕ → Type 0
  TalksFor [] t heard said = HasNothing (seen t) × (heard ≡ []) × (said ≡ [])
  TalksFor (u ∷ us) t' heard' said' = (t : T) × (heard : List ℕ) × (said : List ℕ)
      × TalksFor us t heard said × Steps t heard said t' heard' said'

  -- Of this connection these bytes came and this was said, and this is its session: each text is what a visit put
  -- there, and each visit was of what had come of it.
  abbrev pub HasTalked : T → List ℕ → List ℕ → Type 0
  HasTalked t heard said = (steps : List (Unit {0})) × TalksFor steps t heard said

-- Each of these sessions was visited: as many are left, each in its place.
abbrev pub EachWasVisited : {T : Type 0} → (T → T → Type 0) → List T → List T → Type 0
EachWasVisited visited ts ts' = AllZip visited ts ts'

module _ {I S P T : Type 0} (visits : I → S → P → List (T × T) → S → P → Type 0) (service : I) where
  -- from one server and pass to another by visits of batches of sessions, one after another
  abbrev pub HaveVisited : S → P → List (List (T × T)) → S → P → Type 0
  HaveVisited server pass [] server' pass' = (server' ≡ server) × (pass' ≡ pass)
  HaveVisited server pass (batch ∷ batches) server' pass' = (mid : S) × (between : P)
      × visits service server pass batch mid between
      × HaveVisited mid between batches server' pass'

  -- by some visits
  abbrev pub Visits : S → P → S → P → Type 0
  Visits server pass server' pass' = (batches : List (List (T × T)))
      × HaveVisited server pass batches server' pass'

-- A socket did this for a session: what came was taken in, but what came once it was over; and it took what the session
-- had to say.
abbrev pub IsOfTalk : {T : Type 0} → (T → Seen) → (T → T → Type 0) → T → Bool → List SocketCall → Type 0
IsOfTalk seen visited t over calls = (heard : List ℕ) × (dropped : List ℕ)
    × HasTalked seen visited t heard (said_in calls) × (heard_in calls ≡ heard ++ dropped)
    × (over ≡ false → dropped ≡ [])
