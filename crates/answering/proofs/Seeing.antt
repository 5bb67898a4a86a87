-- What a visit says of what is known, it says of a part of it.
use Rattle.std.proofs.Common.{ℕ, Bool, false, List, [], ◌∷◌, ◌++◌, Option, None, Result, Ok, Err, sym, ap, subst, inl, inr}
use Rattle.accept.specs.Doubts.{is_doubt}
use Rattle.accept.specs.declared.call.Call.{Call as Asking}
use Rattle.accept.specs.declared.call.Reply.{Reply}
use Rattle.accept.specs.declared.fault.CallFault.{CallFault}
use Rattle.pushjson.specs.declared.fault.PushFault.{PushFault}
use Rattle.requests.specs.declared.fault.ServeFault.{ServeFault}
use Rattle.requests.specs.declared.fault.ServeFault.TheVariants.{Read, Write, Memory, CutShort}
use Rattle.requests.specs.declared.fault.Served.{Served}
use Rattle.requests.specs.declared.fault.Served.TheVariants as served
use Rattle.requests.specs.declared.verdict.Verdict.{Verdict}
use Rattle.requests.specs.declared.verdict.Verdict.TheVariants.{Fixed, Call, NoMemory}
use Rattle.answering.specs.Asking.{Asked}
use Rattle.answering.specs.Calls.{Giving, Came, Refused, Replied, Failed}
use Rattle.answering.specs.Courses.{Course, Unread, Whole, Broken, doubt_behind, said_of, StreamsGiveAfter, BodyGives, BodyIsLeft}
use Rattle.answering.specs.Serving.{Exchange, World, VerdictGives, VerdictIsLeft, ConnectionGives, IsExchange, IsAbandoned, IsTurnedAway, IsNextResponse, IsUnanswered, IsSilent, ConnectionEnds, ConnectionIsAnswered}
use Rattle.answering.specs.Turns.{ConnectionTurnIsAnswered}
use Rattle.answering.specs.Visits.{KeepsOn, IsOver, IsVisit}
use Rattle.answering.specs.declared.visiting.TurnOutcome.{TurnOutcome}
use Rattle.answering.specs.declared.visiting.TurnOutcome.TheVariants as turns
use Rattle.answering.specs.declared.visiting.Visited.{Visited}
use Rattle.answering.specs.declared.visiting.Visited.TheVariants.{More, Unfinished, Closed}

-- where what is known is seen by f, and a call shows this of it while this stands, which it leaves so
module _ {H K : Type 0} (f : H → K) (gives : Giving H) (shows : Giving K) (At : Bool → H → Type 0)
    (into : (doubt : Bool) (h h' : H) (call : Asking) (outcome : Result Reply CallFault) → At doubt h → gives doubt h call outcome h' → shows doubt (f h) call outcome (f h') × At (is_doubt outcome) h') where
  streams : (tenant : List ℕ) (doubt : Bool) (h h' : H) (all : List Asked) (cames : List Came) → At doubt h → StreamsGiveAfter gives tenant doubt h all cames h' → StreamsGiveAfter shows tenant doubt (f h) all cames (f h')
  streams tenant doubt h h' [] [] at same = ap f same
  streams tenant doubt h h' (a ∷ more) (Refused fault ∷ cs) at (mid, (why, same), others) = (f mid, (why, ap f same), streams tenant doubt mid h' more cs (subst (At doubt) (sym same) at) others)
  streams tenant doubt h h' (a ∷ more) (Failed failure ∷ cs) at (mid, (call, is, given), others) =
      let (shown, now) = into doubt h mid call (Err failure) at given in (f mid, (call, is, shown), streams tenant (doubt_behind doubt (Failed failure)) mid h' more cs now others)
  streams tenant doubt h h' (a ∷ more) (Replied reply ∷ cs) at (mid, (call, is, given), others) =
      let (shown, now) = into doubt h mid call (Ok reply) at given in (f mid, (call, is, shown), streams tenant false mid h' more cs now others)
  streams tenant doubt h h' all cames at never = absurd never

  goes : (tenant : List ℕ) (h h' : H) (asked : Result (List Asked) PushFault) (course : Course) → At false h → BodyGives gives tenant h asked course h' → BodyGives shows tenant (f h) asked course (f h')
  goes tenant h h' asked (Unread fault) at (why, same) = (why, ap f same)
  goes tenant h h' asked (Whole cames) at (all, is, went, whole) = (all, is, streams tenant false h h' all cames at went, whole)
  goes tenant h h' asked (Broken cames failure) at (all, is, ends) = (
    all,
    is,
    record { done = ends.done; more = ends.more; split = ends.split; each = streams tenant false h h' ends.done cames at ends.each; fails = ends.fails; few = ends.few },
  )

  handled : (now : ℕ) (body : List ℕ) (h h' : H) (verdict : Verdict) (course : Course) → At false h → VerdictGives gives now body verdict h course h' → VerdictGives shows now body verdict (f h) course (f h')
  handled now body h h' (Call route tenant) course at takes = record { asked = takes.asked; asks = takes.asks; goes = goes tenant h h' takes.asked course at takes.goes }
  handled now body h h' (Fixed answer) course at (what, same) = (what, ap f same)
  handled now body h h' NoMemory course at (what, same) = (what, ap f same)

  gives_up : (tenant : List ℕ) (h h' : H) (says : ℕ → Came → List ℕ) (asked : Result (List Asked) PushFault) → At false h → BodyIsLeft gives tenant says h asked h' → BodyIsLeft shows tenant says (f h) asked (f h')
  gives_up tenant h h' says (Err fault) at (told, same) = (told, ap f same)
  gives_up tenant h h' says (Ok all) at stops = record {
    done = stops.done;
    more = stops.more;
    cames = stops.cames;
    last = stops.last;
    behind = stops.behind;
    split = stops.split;
    each = streams tenant false h h' stops.done (stops.cames ++ stops.last ∷ stops.behind) at stops.each;
    whole = stops.whole;
    said = stops.said;
    few = stops.few;
  }

  left : (now : ℕ) (body : List ℕ) (h h' : H) (verdict : Verdict) → At false h → VerdictIsLeft gives now body verdict h h' → VerdictIsLeft shows now body verdict (f h) (f h')
  left now body h h' (Call route tenant) at it = record { asked = it.asked; asks = it.asks; left = gives_up tenant h h' (said_of route) it.asked at it.left }
  left now body h h' verdict at never = absurd never

  module _ {C : Type 0} (ticks : C → ℕ → C → Type 0) where
    abbrev pub seen : World H C → World K C
    seen w = record { knows = f w.knows; clock = w.clock }

    exchange : (bytes : List ℕ) (w : World H C) (e : Exchange) (rest : List ℕ) (w' : World H C) → At false w.knows → IsExchange gives ticks bytes w e rest w' → IsExchange shows ticks bytes (seen w) e rest (seen w')
    exchange bytes w e rest w' at x = record { message = x.message; verdict = x.verdict; clock = x.clock; calls = handled e.now e.request.body w.knows w'.knows e.verdict e.course at x.calls }

    abandoned : (bytes : List ℕ) (w w' : World H C) → At false w.knows → IsAbandoned gives ticks bytes w w' → IsAbandoned shows ticks bytes (seen w) (seen w')
    abandoned bytes w w' at a = record {
      request = a.request;
      verdict = a.verdict;
      now = a.now;
      rest = a.rest;
      message = a.message;
      is = a.is;
      clock = a.clock;
      calls = left a.now a.request.body w.knows w'.knows a.verdict at a.calls;
    }

    turned : (bytes : List ℕ) (w : World H C) (text : List ℕ) (w' : World H C) → IsTurnedAway gives ticks bytes w text w' → IsTurnedAway shows ticks bytes (seen w) text (seen w')
    turned bytes w text w' (why, refused, said, still) = (why, refused, said, ap seen still)

    next_seen : (bytes : List ℕ) (w : World H C) (text : List ℕ) (w' : World H C) → At false w.knows → IsNextResponse gives ticks bytes w text w' → IsNextResponse shows ticks bytes (seen w) text (seen w')
    next_seen bytes w text w' at (inl (e, rest, x, said)) = inl (e, rest, exchange bytes w e rest w' at x, said)
    next_seen bytes w text w' at (inr away) = inr (turned bytes w text w' away)

    unanswered : (bytes : List ℕ) (w w' : World H C) → At false w.knows → IsUnanswered gives ticks bytes w w' → IsUnanswered shows ticks bytes (seen w) (seen w')
    unanswered bytes w w' at (inl (e, rest, x, told)) = inl (e, rest, exchange bytes w e rest w' at x, told)
    unanswered bytes w w' at (inr (text, away)) = inr (text, turned bytes w text w' away)

    quiet : (w : World H C) (text : List ℕ) (w' : World H C) → IsSilent gives ticks w text w' → IsSilent shows ticks (seen w) text (seen w')
    quiet w text w' (none, still) = (none, ap seen still)

    ends : (mid : List ℕ) (left : Option (List ℕ)) (w : World H C) (text : List ℕ) (w' : World H C) (result : Result Served ServeFault) → At false w.knows → ConnectionEnds gives ticks mid left w text w' result → ConnectionEnds shows ticks mid left (seen w) text (seen w') result
    ends mid left w text w' (Ok served.Ended) at (none, end, silent) = (none, end, quiet w text w' silent)
    ends mid left w text w' (Ok served.Closed) at (inl (e, more, x, stops, said)) = inl (e, more, exchange mid w e more w' at x, stops, said)
    ends mid left w text w' (Ok served.Closed) at (inr away) = inr (turned mid w text w' away)
    ends mid left w text w' (Err CutShort) at (cut, end, silent) = (cut, end, quiet w text w' silent)
    ends mid left w text w' (Err Read) at (unbegun, silent) = (unbegun, quiet w text w' silent)
    ends mid left w text w' (Err Write) at (n, all, is, said) = (n, all, next_seen mid w all w' at is, said)
    ends mid left w text w' (Err Memory) at (none, inl (unbegun, silent)) = (none, inl (unbegun, quiet w text w' silent))
    ends mid left w text w' (Err Memory) at (none, inr (inl un)) = (none, inr (inl (unanswered mid w w' at un)))
    ends mid left w text w' (Err Memory) at (none, inr (inr gave_up)) = (none, inr (inr (abandoned mid w w' at gave_up)))

    pub turn_seen : (bytes : List ℕ) (w : World H C) (text rest : List ℕ) (w' : World H C) (result : Result TurnOutcome ServeFault) → At false w.knows → ConnectionTurnIsAnswered gives ticks bytes w text rest w' result
        → ConnectionTurnIsAnswered shows ticks bytes (seen w) text rest (seen w') result
    turn_seen bytes w text rest w' (Ok turns.Answered) at (e, x, stays, out) = (e, exchange bytes w e rest w' at x, stays, out)
    turn_seen bytes w text rest w' (Ok turns.Closed) at is = ends bytes None w text w' (Ok served.Closed) at is
    turn_seen bytes w text rest w' (Ok (turns.Unfinished n)) at (unbegun, same, silent) = (unbegun, same, quiet w text w' silent)
    turn_seen bytes w text rest w' (Err Read) at never = absurd never
    turn_seen bytes w text rest w' (Err CutShort) at never = absurd never
    turn_seen bytes w text rest w' (Err fault) at is = ends bytes None w text w' (Err fault) at is

    module _ (again : (h : H) → At false h) where
      answered : (bytes : List ℕ) (w : World H C) (es : List Exchange) (rest : List ℕ) (w' : World H C) → ConnectionGives gives ticks bytes w es rest w' → ConnectionGives shows ticks bytes (seen w) es rest (seen w')
      answered bytes w [] rest w' (same, still) = (same, ap seen still)
      answered bytes w (e ∷ es) rest w' (mid, between, x, stays, others) = (mid, seen between, exchange bytes w e mid between (again w.knows) x, stays, answered mid between es rest w' others)

      module _ (before after : Option (List ℕ)) (bytes : List ℕ) (w : World H C) (rest : List ℕ) (w' : World H C) where
        kept : KeepsOn gives ticks before after bytes w rest w' → KeepsOn shows ticks before after bytes (seen w) rest (seen w')
        kept k = record { exchanges = k.exchanges; appends = k.appends; serves = answered bytes w k.exchanges rest w' k.serves }

        over : (result : Result Served ServeFault) (end : Option (List ℕ)) → IsOver gives ticks before after bytes end w w' result → IsOver shows ticks before after bytes end (seen w) (seen w') result
        over result end o =
            let a : ConnectionIsAnswered gives ticks bytes end w o.text w' result = o.served in
            record {
              text = o.text;
              appends = o.appends;
              served = record {
                exchanges = a.exchanges;
                rest = a.rest;
                between = seen a.between;
                last = a.last;
                serves = answered bytes w a.exchanges a.rest a.between a.serves;
                finishes = ends a.rest end a.between a.last w' result (again a.between.knows) a.finishes;
                written = a.written;
              };
            }

        pub visit_seen : (result : Result Visited ServeFault) → IsVisit gives ticks before after bytes w rest w' result → IsVisit shows ticks before after bytes (seen w) rest (seen w') result
        unfolding kept
        visit_seen (Ok More) (is, some) = (kept is, some)
        visit_seen (Ok (Unfinished n)) is = (kept is.0, is.1)
        visit_seen (Ok Closed) is = over (Ok served.Closed) None is
        visit_seen (Err Read) never = absurd never
        visit_seen (Err CutShort) never = absurd never
        visit_seen (Err fault) is = over (Err fault) None is
