-- Which request stands at the front of the bytes of a connection, and what else may stand there.
use Rattle.std.specs.Prelude.{◌≡◌, ◌≢◌, ◌⊎◌, ⊤, ℕ, ◌<◌, ◌≤◌, List, [], ◌∷◌, ◌++◌, length, drop, slice_range, Option}
use Rattle.std.specs.Io.KnownBytes.{Consumes}
use Rattle.httparse.specs.Grammar.{RequestHead, print_request, ReadsRequest, HasNoRequest, MayBecomeRequest}
use Rattle.httparse.specs.Spans.{RequestOverflows}
use Rattle.requests.specs.Fields.{fields_of}
use Rattle.requests.specs.Framings.{framing_of}
use Rattle.requests.specs.Verdicts.{IsVerdict, asks_close}
use Rattle.requests.specs.declared.framing.Framing.{Framing}
use Rattle.requests.specs.declared.framing.Framing.TheVariants.{Length, Refused}
use Rattle.requests.specs.declared.fixed.FixedAnswer.{FixedAnswer}
use Rattle.requests.specs.declared.fixed.FixedAnswer.TheVariants.{BadRequest, HeadTooLarge}
use Rattle.requests.specs.declared.incoming.Message.{Message}
use Rattle.requests.specs.declared.incoming.Next.{Next}
use Rattle.requests.specs.declared.incoming.Next.TheVariants as Is

pub record Request : Type 0 where
  pub head : RequestHead
  pub body : List ℕ

-- the most bytes of a head, and the most fields
abbrev pub max_head : ℕ
max_head = 16384

abbrev pub max_fields : ℕ
max_fields = 64

-- the bytes are this head, which is not too long and has not too many fields, and then rest
pub record ReadsHead (bytes : List ℕ) (h : RequestHead) (rest : List ℕ) : Type 0 where
  pub reads : ReadsRequest bytes h rest
  pub few : length h.fields ≤ max_fields
  pub short : length (print_request h) ≤ max_head

-- the bytes are this request, and then rest
pub record ReadsMessage (bytes : List ℕ) (r : Request) (rest : List ℕ) : Type 0 where
  pub head : ReadsHead bytes r.head (r.body ++ rest)
  pub framing : framing_of r.head.method (fields_of r.head) ≡ Length (length r.body)

-- no beginning of the bytes is a head, and more bytes may make one
abbrev pub IsUnfinished : List ℕ → Type 0
IsUnfinished bytes = HasNoRequest bytes × MayBecomeRequest bytes

-- a head, and fewer bytes after it than its body has
abbrev pub IsCutInBody : List ℕ → Type 0
IsCutInBody bytes =
    (h : RequestHead) × (rest : List ℕ) × (n : ℕ) × ReadsHead bytes h rest
    × (framing_of h.method (fields_of h) ≡ Length n) × (length rest < n)

-- the bytes end inside a request's head or body
abbrev pub IsCut : List ℕ → Type 0
IsCut bytes = ((bytes ≢ []) × (length bytes < max_head) × IsUnfinished bytes) ⊎ IsCutInBody bytes

-- a head that says no lawful length of its body
abbrev pub IsRefusedBody : List ℕ → FixedAnswer → Type 0
IsRefusedBody bytes why =
    (h : RequestHead) × (rest : List ℕ) × ReadsHead bytes h rest
    × (framing_of h.method (fields_of h) ≡ Refused why)

-- the bytes begin with what is refused so: no head, whatever may follow; as many bytes as a head may have
-- that are still none; or a head of no lawful length
abbrev pub BeginsRefused : List ℕ → FixedAnswer → Type 0
BeginsRefused bytes why =
    ((why ≡ BadRequest) × (length bytes ≤ max_head) × RequestOverflows max_fields bytes)
    ⊎ ((why ≡ HeadTooLarge) × (length bytes ≡ max_head) × IsUnfinished bytes)
    ⊎ IsRefusedBody bytes why

-- the reader gave these bytes, and the buffer has them after what it had
abbrev pub Grows : Option (List ℕ) → Option (List ℕ) → List ℕ → List ℕ → Type 0
Grows known left old new = (bytes : List ℕ) × Consumes known left bytes × (new ≡ old ++ bytes)

abbrev pub body_length : Framing → ℕ
body_length (Length n) = n
body_length (Refused why) = 0

-- a whole head of lawful length is there, and no more after it than its body: said so that it has one proof at most
pub record HoldsHead (bytes : List ℕ) : Type 0 where
  pub some : ¬ HasNoRequest bytes
  pub lawful : ¬ RequestOverflows max_fields bytes
  pub short : (h : RequestHead) (rest : List ℕ) → ReadsRequest bytes h rest
      → length (print_request h) ≤ max_head
  pub few : (h : RequestHead) (rest : List ℕ) → ReadsRequest bytes h rest
      → length rest ≤ body_length (framing_of h.method (fields_of h))

-- what may stand in the buffer when it is looked at: no more than a head may have, or a head and no more than its body
abbrev pub MayStand : List ℕ → Type 0
MayStand bytes = max_head < length bytes → HoldsHead bytes

-- this many bytes may come before it is looked at
abbrev pub MayGrow : List ℕ → ℕ → Type 0
MayGrow bytes n = (more : List ℕ) → length more ≤ n → MayStand (bytes ++ more)

-- the message is this request, whose text stands at the front of the buffer
pub record IsMessage (buffer : List ℕ) (r : Request) (m : Message) : Type 0 where
  pub verdict : IsVerdict r.head.method r.head.target (fields_of r.head) m.verdict
  pub closes : m.closes ≡ asks_close r.head.minor (fields_of r.head)
  pub body : slice_range buffer m.start m.end ≡ r.body
  pub ordered : m.start ≤ m.end
  pub within : m.end ≤ length buffer

-- what is found at the front of the bytes that have come
abbrev pub IsNext : List ℕ → Next → Type 0
IsNext bytes (Is.Whole m) =
    (r : Request) × ReadsMessage bytes r (drop m.end bytes) × IsMessage bytes r m
    × (length (drop m.end bytes) ≤ max_head)
IsNext bytes (Is.Refused why) = BeginsRefused bytes why
IsNext bytes (Is.Unfinished n) = ((bytes ≡ []) ⊎ IsCut bytes) × (0 < n) × MayGrow bytes n

-- a whole request lies in the buffer, and little after it; what `body`, `finish` and the next `next` ask for
abbrev pub Fits : List ℕ → Next → Type 0
Fits bytes (Is.Whole m) = (m.start ≤ m.end) × (m.end ≤ length bytes)
    × (length (drop m.end bytes) ≤ max_head)
Fits bytes (Is.Refused why) = ⊤
Fits bytes (Is.Unfinished n) = ⊤

-- the bytes are these requests, one after another, and then rest
abbrev pub ReadsRequests : List ℕ → List Request → List ℕ → Type 0
ReadsRequests bytes [] rest = rest ≡ bytes
ReadsRequests bytes (r ∷ rs) rest = (mid : List ℕ) × ReadsMessage bytes r mid
    × ReadsRequests mid rs rest

-- no request stands at the front
abbrev pub HoldsNone : List ℕ → Type 0
HoldsNone bytes = (r : Request) (rest : List ℕ) → ¬ ReadsMessage bytes r rest

-- all requests at the front of the bytes, and the rest
abbrev pub AreRequests : List ℕ → List Request → List ℕ → Type 0
AreRequests bytes rs rest = ReadsRequests bytes rs rest × HoldsNone rest
