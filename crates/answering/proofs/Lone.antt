-- A connection that is visited alone, and what is written of it.
use Rattle.std.proofs.Common.{◌≡◌, ◌≢◌, ◌<◌, ℕ, Bool, true, false, List, [], ◌∷◌, ◌++◌, take, Option, Result, Ok, Err, IfErr, refl, sym, ap, ◌∙◌, subst, inl, arith}
use Rattle.std.proofs.Math.Seq.{take-length}
use Rattle.std.specs.Io.KnownBytes.{Appends}
use Rattle.requests.specs.Streams.{Grows}
use Rattle.requests.specs.Writing.{WritesBeginning}
use Rattle.requests.specs.declared.fault.ServeFault.{ServeFault}
use Rattle.requests.specs.declared.fault.ServeFault.TheVariants.{Read, Write, Memory, CutShort}
use Rattle.requests.specs.declared.fault.Served.TheVariants as served
use Rattle.answering.specs.Calls.{Giving}
use Rattle.answering.specs.Connections.{Unended}
use Rattle.answering.specs.Serving.{World, IsUnbegun}
use Rattle.answering.specs.Turns.{ConnectionTurnIsServed, HasText, IsLeftByTurn, IsOneTurn, room_behind}
use Rattle.answering.specs.declared.visiting.TurnOutcome.{TurnOutcome}
use Rattle.answering.specs.declared.visiting.TurnOutcome.TheVariants.{Answered, Closed, Unfinished}
use Rattle.answering.proofs.Turning.{Went, ServedSo, came_more, cut_off, turned_down, turned_on, turned_over}

both : (b : Bool) → b ≡ true → b ≡ false → ⊥
both b holds fails = cc

-- where more may come, no whole request is left
unbegun_behind : (rest : List ℕ) (c : Unended) → c.came ≡ rest → c.room ≡ room_behind rest → 0 < c.room → IsUnbegun c.came
unbegun_behind [] c came room some = inl came
unbegun_behind (x ∷ xs) c came room some = absurd (omega (arith, room, some))

-- more was read, and nothing was written
pub read_more : {H C : Type 0} (gives : Giving H) (ticks : C → ℕ → C → Type 0) (unread before : Option (List ℕ)) (start : World H C) (left written : Option (List ℕ)) (old : List ℕ) (w : World H C) → Went gives ticks unread before start left written old w
    → (end after last : Option (List ℕ)) (came : List ℕ) → Grows left end old came → after ≡ written → last ≡ end → Went gives ticks unread before start last after came w
read_more gives ticks unread before start left written old w p end after last came grows same still =
    subst (λ l. Went gives ticks unread before start l after came w) (sym still) (subst (λ a. Went gives ticks unread before start end a came w) (sym same) (came_more gives ticks unread before start left written old w p end came grows))

module _ {H C : Type 0} (gives : Giving H) (ticks : C → ℕ → C → Type 0) (unread before : Option (List ℕ)) (start : World H C) (left written : Option (List ℕ)) (w w' : World H C) (old new : Unended) (p : Went gives ticks unread before start left written old.came w)
    (t : IsOneTurn gives ticks w old w' new) (said : old.text ≡ []) (after : Option (List ℕ)) where
  text_is : new.text ≡ t.is.text
  text_is = t.is.appends ∙ ap (λ l. l ++ t.is.text) said

  room : IfErr t.turn (HasText [])
  room = subst (λ l. IfErr t.turn (HasText l)) said t.room

  -- writing failed
  pub unwritten : (fault : ServeFault) → fault ≡ Write → new.text ≢ [] → WritesBeginning written after new.text (Err fault) → ServedSo gives ticks unread before start left after w' (Err fault)
  unwritten Write is some (n, appends, out) =
      cut_off gives ticks unread before start left written old.came w p t.is.text t.rest w' n after t.turn room t.is.gives_next (λ none. some (text_is ∙ none)) (subst (λ l. Appends written after (take n l)) text_is appends)
  unwritten fault is some writes = absurd (cc)

  -- and where it did not
  module _ (u : Unit {0}) (writes : WritesBeginning written after new.text (Ok u)) where
    abbrev Turned : Result TurnOutcome ServeFault → List ℕ → Type 0
    Turned turn rest = ConnectionTurnIsServed gives ticks written after old.came w rest w' turn

    turned : Turned t.turn t.rest
    turned = record {
      text = t.is.text;
      appends = subst (Appends written after) (ap (λ k. take k new.text) writes.2 ∙ take-length new.text ∙ text_is) writes.1;
      gives_next = t.is.gives_next;
    }

    goes_on : (turn : Result TurnOutcome ServeFault) (rest : List ℕ) → Turned turn rest → IsLeftByTurn turn rest old new → new.closes ≡ false → Went gives ticks unread before start left after new.came w' × (0 < new.room → IsUnbegun new.came)
    goes_on (Ok Answered) rest is (came, may, closes, answers) still = (
      subst (λ l. Went gives ticks unread before start left after l w') (sym came) (turned_on gives ticks unread before start left written old.came w p rest w' after Answered is (λ e. absurd (cc))),
      unbegun_behind rest new came may,
    )
    goes_on (Ok (Unfinished n)) rest is (came, may, closes, answers) still = (
      subst (λ l. Went gives ticks unread before start left after l w') (sym came) (turned_on gives ticks unread before start left written old.came w p rest w' after (Unfinished n) is (λ e. absurd (cc))),
      λ some. subst IsUnbegun (sym (came ∙ is.gives_next.1)) is.gives_next.0,
    )
    goes_on (Ok Closed) rest is (came, may, closes, answers) still = absurd (both new.closes closes still)
    goes_on (Err fault) rest is (came, may, closes, answers) still = absurd (both new.closes closes still)

    lacks : (turn : Result TurnOutcome ServeFault) (rest : List ℕ) → IfErr turn (HasText []) → Turned turn rest → IsLeftByTurn turn rest old new → old.unanswered ≡ false → new.unanswered ≡ true → ServedSo gives ticks unread before start left after w' (Err Memory)
    lacks (Ok Answered) rest fits is (came, may, closes, answers) none now = absurd (both new.unanswered now (answers ∙ none))
    lacks (Ok (Unfinished n)) rest fits is (came, may, closes, answers) none now = absurd (both new.unanswered now (answers ∙ none))
    lacks (Ok Closed) rest fits is (came, may, closes, answers) none now = absurd (both new.unanswered now (answers ∙ none))
    lacks (Err Write) rest fits is was none now = absurd (fits refl)
    lacks (Err Memory) rest fits is was none now = turned_down gives ticks unread before start left written old.came w p rest w' after Memory is
    lacks (Err Read) rest fits is was none now = absurd is.gives_next
    lacks (Err CutShort) rest fits is was none now = absurd is.gives_next

    ends : (turn : Result TurnOutcome ServeFault) (rest : List ℕ) → Turned turn rest → IsLeftByTurn turn rest old new → old.closes ≡ false → new.closes ≡ true → new.unanswered ≡ false → ServedSo gives ticks unread before start left after w' (Ok served.Closed)
    ends (Ok Answered) rest is (came, may, closes, answers) still now none = absurd (both new.closes now (closes ∙ still))
    ends (Ok (Unfinished n)) rest is (came, may, closes, answers) still now none = absurd (both new.closes now (closes ∙ still))
    ends (Ok Closed) rest is was still now none = turned_over gives ticks unread before start left written old.came w p rest w' after is
    ends (Err fault) rest is (came, may, closes, answers) still now none = absurd (both new.unanswered answers none)

    pub visited_on : new.closes ≡ false → Went gives ticks unread before start left after new.came w' × (0 < new.room → IsUnbegun new.came)
    visited_on still = goes_on t.turn t.rest turned t.left still

    pub visited_down : old.unanswered ≡ false → new.unanswered ≡ true → ServedSo gives ticks unread before start left after w' (Err Memory)
    visited_down none now = lacks t.turn t.rest room turned t.left none now

    pub visited_over : old.closes ≡ false → new.closes ≡ true → new.unanswered ≡ false → ServedSo gives ticks unread before start left after w' (Ok served.Closed)
    visited_over still now none = ends t.turn t.rest turned t.left still now none
