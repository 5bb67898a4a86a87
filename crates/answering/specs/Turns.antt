-- What one turn of a connection says, and what it leaves.
use Rattle.std.specs.Prelude.{◌≡◌, ◌≢◌, ◌⊎◌, ℕ, ◌<◌, Bool, true, false, List, [], ◌∷◌, take, Option, None, Some, Result, Ok, Err, IfErr}
use Rattle.std.specs.Io.KnownBytes.{Appends, Consumes}
use Rattle.requests.specs.Streams.{MayStand, MayGrow, max_head}
use Rattle.requests.specs.declared.fault.ServeFault.{ServeFault}
use Rattle.requests.specs.declared.fault.ServeFault.TheVariants as faults
use Rattle.requests.specs.declared.fault.Served.TheVariants as served
use Rattle.requests.specs.declared.verdict.Verdict.{Verdict}
use Rattle.answering.specs.Calls.{Giving}
use Rattle.answering.specs.Courses.{Course}
use Rattle.answering.specs.Connections.{Unended}
use Rattle.answering.specs.Serving.{Exchange, World, Io, response, closes, response_text, failure_at, ends_behind, VerdictGives, VerdictIsLeft, IsExchange, ConnectionEnds, IsSilent, IsUnbegun}
use Rattle.answering.specs.Visits.{KeepsOn}
use Rattle.answering.specs.declared.visiting.TurnOutcome.{TurnOutcome}
use Rattle.answering.specs.declared.visiting.TurnOutcome.TheVariants as turns

-- what may stand there when it is looked at next: no more than before; or this many bytes more
abbrev pub MayComeAfter : TurnOutcome → List ℕ → Type 0
MayComeAfter turns.Answered rest = MayStand rest
MayComeAfter (turns.Unfinished n) rest = (0 < n) × MayGrow rest n
MayComeAfter turns.Closed rest = Unit {0}

-- there was no memory for an answer behind the text that waits: only where one does
abbrev pub HasText : List ℕ → ServeFault → Type 0
HasText text faults.Write = text ≢ []
HasText text fault = Unit {0}

-- how much may come where this is left of what came, after a request that was answered
abbrev pub room_behind : List ℕ → ℕ
room_behind [] = max_head
room_behind (x ∷ xs) = 0

-- what a turn leaves of a connection, where this is left of what came
abbrev pub IsLeftByTurn : Result TurnOutcome ServeFault → List ℕ → Unended → Unended → Type 0
IsLeftByTurn (Ok (turns.Unfinished n)) rest old new = (new.came ≡ rest) × (new.room ≡ n)
    × (new.closes ≡ old.closes) × (new.unanswered ≡ old.unanswered)
IsLeftByTurn (Ok turns.Answered) rest old new = (new.came ≡ rest) × (new.room ≡ room_behind rest)
    × (new.closes ≡ old.closes) × (new.unanswered ≡ old.unanswered)
IsLeftByTurn (Ok turns.Closed) rest old new = (new.came ≡ []) × (new.room ≡ 0) × (new.closes ≡ true)
    × (new.unanswered ≡ old.unanswered)
IsLeftByTurn (Err fault) rest old new = (new.came ≡ []) × (new.room ≡ 0) × (new.closes ≡ true)
    × (new.unanswered ≡ true)

module _ {H : Type 0} (gives : Giving H) (now : ℕ) (body : List ℕ) where
  -- the response to a whole request is out, or a beginning of it, or nothing
  abbrev pub ResponseGives : Verdict → Bool → H → List ℕ → H → Result Bool ServeFault → Type 0
  ResponseGives verdict close h text h' (Ok ends) =
      (course : Course) × VerdictGives gives now body verdict h course h'
      × (text ≡ response_text verdict close course)
      × (ends ≡ ends_behind verdict close course)
  ResponseGives verdict close h text h' (Err faults.Write) =
      (course : Course) × VerdictGives gives now body verdict h course h'
      × ((n : ℕ) × (text ≡ take n (response_text verdict close course)))
  ResponseGives verdict close h text h' (Err faults.Memory) =
      (text ≡ []) × (((course : Course) × VerdictGives gives now body verdict h course h'
      × (failure_at verdict course ≡ None)) ⊎ VerdictIsLeft gives now body verdict h h')
  ResponseGives verdict close h text h' (Err fault) = ⊥

  pub record ResponseIsWritten (before after : Option (List ℕ)) (verdict : Verdict) (close : Bool) (h h' : H)
      (result : Result Bool ServeFault) : Type 0 where
    pub text : List ℕ
    pub appends : Appends before after text
    pub replies : ResponseGives verdict close h text h' result

module _ {H C : Type 0} (gives : Giving H) (ticks : C → ℕ → C → Type 0) where
  -- a turn over these bytes leaves these
  abbrev pub ConnectionTurnIsAnswered : List ℕ → World H C → List ℕ → List ℕ → World H C
      → Result TurnOutcome ServeFault → Type 0
  ConnectionTurnIsAnswered bytes w text rest w' (Ok turns.Answered) =
      (e : Exchange) × IsExchange gives ticks bytes w e rest w' × (closes e ≡ false)
      × (text ≡ response e)
  ConnectionTurnIsAnswered bytes w text rest w' (Ok turns.Closed) =
      ConnectionEnds gives ticks bytes None w text w' (Ok served.Closed)
  ConnectionTurnIsAnswered bytes w text rest w' (Ok (turns.Unfinished n)) =
      IsUnbegun bytes × (rest ≡ bytes) × IsSilent gives ticks w text w'
  ConnectionTurnIsAnswered bytes w text rest w' (Err faults.Read) = ⊥
  ConnectionTurnIsAnswered bytes w text rest w' (Err faults.CutShort) = ⊥
  ConnectionTurnIsAnswered bytes w text rest w' (Err fault) =
      ConnectionEnds gives ticks bytes None w text w' (Err fault)

  -- and its text was put where answers go
  pub record ConnectionTurnIsServed (before after : Option (List ℕ)) (bytes : List ℕ) (w : World H C) (rest : List ℕ)
      (w' : World H C) (result : Result TurnOutcome ServeFault) : Type 0 where
    pub text : List ℕ
    pub appends : Appends before after text
    pub gives_next : ConnectionTurnIsAnswered bytes w text rest w' result

  -- one turn of a connection, which puts what it says behind the text that waits to be sent; there is memory for that
  -- where none waits
  pub record IsOneTurn (w : World H C) (old : Unended) (w' : World H C) (new : Unended) : Type 0 where
    pub turn : Result TurnOutcome ServeFault
    pub rest : List ℕ
    pub is : ConnectionTurnIsServed (Some old.text) (Some new.text) old.came w rest w' turn
    pub left : IsLeftByTurn turn rest old new
    pub room : IfErr turn (HasText old.text)

  -- these bytes were read, the requests among them were answered so far, and the connection is kept
  pub record ConnectionProgress (ends : Io) (w : World H C) (ends' : Io) (rest : List ℕ) (w' : World H C)
      : Type 0 where
    pub bytes : List ℕ
    pub consumes : Consumes ends.unread ends'.unread bytes
    pub goes : KeepsOn gives ticks ends.written ends'.written bytes w rest w'
