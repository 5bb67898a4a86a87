-- From one turn of a connection to all of them.
use Rattle.std.proofs.Common.{◌≡◌, ◌≢◌, ℕ, Bool, true, false, List, [], ◌∷◌, ◌++◌, take, drop, slice_range, Option, None, Some, Result, Ok, Err, IfErr, refl, sym, ap, ap₂, ◌∙◌, subst, inl, inr}
use Rattle.std.proofs.lemmas.List.{append-nil}
use Rattle.std.proofs.lemmas.List.Concat.{flat_map-append}
use Rattle.std.proofs.Math.Seq.{take-length}
use Rattle.std.proofs.KnownBytes.{Appends-nil, Appends-trans, Consumes-nil, Consumes-trans}
use Rattle.std.specs.List.{flat_map}
use Rattle.std.specs.Io.KnownBytes.{Appends, Consumes}
use Rattle.requests.specs.Answers.{answer_text, fixed_text, failure_text}
use Rattle.requests.specs.Streams.{Request, ReadsMessage, IsMessage, BeginsRefused, Grows}
use Rattle.requests.specs.Writing.{WritesBeginning}
use Rattle.requests.specs.declared.answer.Answer.{Answer}
use Rattle.accept.specs.declared.fault.CallFault.{CallFault}
use Rattle.requests.specs.declared.fault.ServeFault.{ServeFault}
use Rattle.requests.specs.declared.fault.ServeFault.TheVariants.{Read, Write, Memory, CutShort}
use Rattle.requests.specs.declared.fault.Served.{Served}
use Rattle.requests.specs.declared.fault.Served.TheVariants as served
use Rattle.requests.specs.declared.fixed.FixedAnswer.{FixedAnswer}
use Rattle.requests.specs.declared.incoming.Message.{Message}
use Rattle.requests.specs.declared.route.Route.{Route}
use Rattle.requests.specs.declared.verdict.Verdict.{Verdict}
use Rattle.requests.proofs.Unique.{keeps_request}
use Rattle.answering.specs.Calls.{Giving}
use Rattle.answering.specs.Courses.{Course}
use Rattle.answering.specs.Beginning.{turn_by}
use Rattle.answering.specs.Ends.{IsReadOn}
use Rattle.answering.specs.Replying.{IsPut}
use Rattle.answering.specs.Responses.{status_for, text_for, content_for, failure_in}
use Rattle.answering.specs.Showing.{IsShown}
use Rattle.answering.specs.Serving.{Exchange, World, response, closes, called_text, response_text, failure_at, ends_behind, VerdictGives, VerdictIsLeft, IsExchange, ConnectionGives, ConnectionEnds, ConnectionIsServed, IsUnbegun, io}
use Rattle.answering.specs.Turns.{ResponseGives, ResponseIsWritten, ConnectionTurnIsAnswered, ConnectionTurnIsServed, ConnectionProgress, HasText}
use Rattle.answering.specs.Visits.{KeepsOn, IsOver, IsVisit}
use Rattle.answering.specs.declared.visiting.TurnOutcome.{TurnOutcome}
use Rattle.answering.specs.declared.visiting.TurnOutcome.TheVariants.{Answered, Closed, Unfinished}

not_none : {X : Type 0} (xs : List X) (x : X) → xs ++ x ∷ [] ≢ []
not_none [] x e = cc
not_none (y ∷ ys) x e = cc

-- a failure of the writer is none of memory
pub not_memory : (fault : ServeFault) → fault ≡ Write → fault ≡ Memory → ⊥
not_memory fault written none = cc

-- what the response to a request with calls says
module _ (route : Route) (close : Bool) (course : Course) where
  pub answered : (answer : Answer) → failure_in course ≡ None → IsShown (status_for route course) (text_for route course) answer → answer_text answer.status (content_for answer.status) None close answer.body.items ≡ called_text route close course (failure_in course)
  answered answer none shows =
      ap₂ (λ s b. answer_text s (content_for s) None close b) shows.status_is shows.text_is
      ∙ ap (called_text route close course) (sym none)

  pub said_failed : (failure : CallFault) → failure_in course ≡ Some failure → failure_text failure ≡ called_text route close course (failure_in course)
  said_failed failure fails = ap (called_text route close course) (sym fails)

module _ {H : Type 0} (gives : Giving H) (now : ℕ) (body : List ℕ) (verdict : Verdict) (close : Bool) (course : Course) (h h' : H) (before after : Option (List ℕ))
    (handles : VerdictGives gives now body verdict h course h') where
  -- the response is out
  pub out : (ends : Bool) (u : Unit {0}) → WritesBeginning before after (response_text verdict close course) (Ok u) → ends ≡ ends_behind verdict close course → ResponseIsWritten gives now body before after verdict close h h' (Ok ends)
  out ends u (n, appends, all) end =
      let whole = ap (λ k. take k (response_text verdict close course)) all ∙ take-length (response_text verdict close course) in
      record {
        text = take n (response_text verdict close course);
        appends = appends;
        replies = (course, handles, whole, end);
      }

  -- a beginning of it is, or nothing, which is not for want of memory where a failure is told
  pub not_out : (fault : ServeFault) → WritesBeginning before after (response_text verdict close course) (Err fault) → (fault ≡ Memory → failure_at verdict course ≡ None) → ResponseIsWritten gives now body before after verdict close h h' (Err fault)
  not_out Write (n, appends, some) said = record { text = take n (response_text verdict close course); appends = appends; replies = (course, handles, (n, refl)) }
  not_out Memory (n, appends, none) said = record { text = take n (response_text verdict close course); appends = appends; replies = (ap (λ k. take k (response_text verdict close course)) none, inl (course, handles, said refl)) }
  not_out fault (n, appends, some) said = absurd some

  -- either, by what was put there
  pub put_out : (text : List ℕ) (ends : Bool) (result : Result Bool ServeFault) → text ≡ response_text verdict close course → ends ≡ ends_behind verdict close course → ((fault : ServeFault) → result ≡ Err fault → fault ≡ Memory → failure_at verdict course ≡ None)
      → IsPut before after text ends result → ResponseIsWritten gives now body before after verdict close h h' result
  put_out text ends (Ok told) same end said put = out told tt (subst (λ t. WritesBeginning before after t (Ok tt)) same put.writes) (put.told ∙ end)
  put_out text ends (Err fault) same end said put = not_out fault (subst (λ t. WritesBeginning before after t (Err fault)) same put.writes) (said fault refl)

-- the calls were given up, and nothing is written
pub left_out : {H : Type 0} (gives : Giving H) (now : ℕ) (body : List ℕ) (verdict : Verdict) (close : Bool) (h h' : H) (before : Option (List ℕ)) → VerdictIsLeft gives now body verdict h h' → ResponseIsWritten gives now body before before verdict close h h' (Err Memory)
left_out gives now body verdict close h h' before left = record { text = []; appends = Appends-nil before; replies = (refl, inr left) }

module _ {H C : Type 0} (gives : Giving H) (ticks : C → ℕ → C → Type 0) where
  -- the exchange of a message
  abbrev exchange : Request → Message → ℕ → Course → Exchange
  exchange r m now course = record { request = r; verdict = m.verdict; now = now; course = course }

  module _ (bytes : List ℕ) (r : Request) (m : Message) (now : ℕ) (body : List ℕ) (w w' : World H C)
      (is : IsMessage bytes r m) (reads : ReadsMessage bytes r (drop m.end bytes)) (tick : ticks w.clock now w'.clock) (same : body ≡ slice_range bytes m.start m.end) where
    is_exchange : (course : Course) → VerdictGives gives now body m.verdict w.knows course w'.knows → IsExchange gives ticks bytes w (exchange r m now course) (drop m.end bytes) w'
    is_exchange course handles = record {
      message = reads;
      verdict = is.verdict;
      clock = tick;
      calls = subst (λ b. VerdictGives gives now b m.verdict w.knows course w'.knows) (same ∙ is.body) handles;
    }

    same_text : (course : Course) → response_text m.verdict m.closes course ≡ response (exchange r m now course)
    same_text course = ap (λ k. response_text m.verdict k course) is.closes

    same_end : (course : Course) → ends_behind m.verdict m.closes course ≡ closes (exchange r m now course)
    same_end course = ap (λ k. ends_behind m.verdict k course) is.closes

    goes : (text : List ℕ) → ResponseGives gives now body m.verdict m.closes w.knows text w'.knows (Ok false) → ConnectionTurnIsAnswered gives ticks bytes w text (drop m.end bytes) w' (Ok Answered)
    goes text (course, handles, out, end) = (exchange r m now course, is_exchange course handles, sym (same_end course) ∙ sym end, out ∙ same_text course)

    stops : (text rest : List ℕ) → ResponseGives gives now body m.verdict m.closes w.knows text w'.knows (Ok true) → ConnectionTurnIsAnswered gives ticks bytes w text rest w' (Ok Closed)
    stops text rest (course, handles, out, end) = inl (exchange r m now course, drop m.end bytes, is_exchange course handles, sym (same_end course) ∙ sym end, out ∙ same_text course)

    fails : (text rest : List ℕ) (fault : ServeFault) → ResponseGives gives now body m.verdict m.closes w.knows text w'.knows (Err fault) → ConnectionTurnIsAnswered gives ticks bytes w text rest w' (Err fault)
    fails text rest Write (course, handles, (n, out)) = (n, response (exchange r m now course), inl (exchange r m now course, drop m.end bytes, is_exchange course handles, refl), out ∙ ap (take n) (same_text course))
    fails text rest Memory (none, inl (course, handles, said)) = (none, inr (inl (inl (exchange r m now course, drop m.end bytes, is_exchange course handles, said))))
    fails text rest Memory (none, inr abandons) = (
      none,
      inr (inr (record {
        request = r;
        verdict = m.verdict;
        now = now;
        rest = drop m.end bytes;
        message = reads;
        is = is.verdict;
        clock = tick;
        calls = subst (λ b. VerdictIsLeft gives now b m.verdict w.knows w'.knows) (same ∙ is.body) abandons;
      })),
    )
    fails text rest fault never = absurd never

    -- its response is out, or was not
    pub turn_by_response : (before after : Option (List ℕ)) (rest : List ℕ) (result : Result Bool ServeFault) → ResponseIsWritten gives now body before after m.verdict m.closes w.knows w'.knows result → (result ≡ Ok false → rest ≡ drop m.end bytes)
        → ConnectionTurnIsServed gives ticks before after bytes w rest w' (turn_by result)
    turn_by_response before after rest (Ok false) t dropped = record { text = t.text; appends = t.appends; gives_next = subst (λ l. ConnectionTurnIsAnswered gives ticks bytes w t.text l w' (Ok Answered)) (sym (dropped refl)) (goes t.text t.replies) }
    turn_by_response before after rest (Ok true) t dropped = record { text = t.text; appends = t.appends; gives_next = stops t.text rest t.replies }
    turn_by_response before after rest (Err fault) t dropped = record { text = t.text; appends = t.appends; gives_next = fails t.text rest fault t.replies }

  -- what came was refused
  pub turned_away : (bytes rest : List ℕ) (before after : Option (List ℕ)) (w : World H C) (why : FixedAnswer) (u : Unit {0}) → BeginsRefused bytes why → WritesBeginning before after (fixed_text why true) (Ok u)
      → ConnectionTurnIsServed gives ticks before after bytes w rest w (Ok Closed)
  turned_away bytes rest before after w why u refused (n, appends, all) = record {
    text = take n (fixed_text why true);
    appends = appends;
    gives_next = inr (why, refused, ap (λ k. take k (fixed_text why true)) all ∙ take-length (fixed_text why true), refl);
  }

  pub turned_away_err : (bytes rest : List ℕ) (before after : Option (List ℕ)) (w : World H C) (why : FixedAnswer) (fault : ServeFault) → BeginsRefused bytes why → WritesBeginning before after (fixed_text why true) (Err fault)
      → ConnectionTurnIsServed gives ticks before after bytes w rest w (Err fault)
  turned_away_err bytes rest before after w why Write refused (n, appends, out) = record { text = take n (fixed_text why true); appends = appends; gives_next = (n, fixed_text why true, inr (why, refused, refl, refl), refl) }
  turned_away_err bytes rest before after w why Memory refused (n, appends, out) = record { text = take n (fixed_text why true); appends = appends; gives_next = (ap (λ k. take k (fixed_text why true)) out, inr (inl (inr (fixed_text why true, (why, refused, refl, refl))))) }
  turned_away_err bytes rest before after w why fault refused (n, appends, out) = absurd out

  -- more bytes change nothing of the requests before them
  serves_more : (bytes more : List ℕ) (w : World H C) (es : List Exchange) (rest : List ℕ) (w' : World H C) → ConnectionGives gives ticks bytes w es rest w' → ConnectionGives gives ticks (bytes ++ more) w es (rest ++ more) w'
  serves_more bytes more w [] rest w' (same, still) = (ap (λ l. l ++ more) same, still)
  serves_more bytes more w (e ∷ es) rest w' (mid, between, x, kept, others) = (
    mid ++ more,
    between,
    record { message = keeps_request bytes more e.request mid x.message; verdict = x.verdict; clock = x.clock; calls = x.calls },
    kept,
    serves_more mid more between es rest w' others,
  )

  -- a request after others is one more of them
  serves_push : (bytes : List ℕ) (w : World H C) (es : List Exchange) (mid : List ℕ) (between : World H C) (e : Exchange) (rest : List ℕ) (w' : World H C)
      → ConnectionGives gives ticks bytes w es mid between → IsExchange gives ticks mid between e rest w' → closes e ≡ false → ConnectionGives gives ticks bytes w (es ++ e ∷ []) rest w'
  serves_push bytes w [] mid between e rest w' (same, still) x stays =
      (rest, w', subst (λ b. IsExchange gives ticks b w e rest w') same (subst (λ k. IsExchange gives ticks mid k e rest w') still x), stays, (refl, refl))
  serves_push bytes w (d ∷ ds) mid between e rest w' (next, after, first, kept, others) x stays =
      (next, after, first, kept, serves_push next after ds mid between e rest w' others x stays)

  pub starts : (before : Option (List ℕ)) (bytes : List ℕ) (w : World H C) → KeepsOn gives ticks before before bytes w bytes w
  starts before bytes w = record { exchanges = []; appends = Appends-nil before; serves = (refl, refl) }

  module _ (before between after : Option (List ℕ)) (bytes old rest : List ℕ) (w mid w' : World H C) (p : KeepsOn gives ticks before between bytes w old mid) where
    -- more came
    pub reads_more : (more : List ℕ) → KeepsOn gives ticks before between (bytes ++ more) w (old ++ more) mid
    reads_more more = record { exchanges = p.exchanges; appends = p.appends; serves = serves_more bytes more w p.exchanges old mid p.serves }

    pub goes_on : ConnectionTurnIsServed gives ticks between after old mid rest w' (Ok Answered) → KeepsOn gives ticks before after bytes w rest w'
    goes_on t =
        let (e, x, stays, out) = t.gives_next in
        let texts : flat_map response p.exchanges ++ t.text ≡ flat_map response (p.exchanges ++ e ∷ []) =
        ap (λ l. flat_map response p.exchanges ++ l) (out ∙ sym (append-nil (response e))) ∙ sym (flat_map-append response p.exchanges (e ∷ [])) in
        record {
          exchanges = p.exchanges ++ e ∷ [];
          appends = subst (Appends before after) texts (Appends-trans before between after (flat_map response p.exchanges) t.text p.appends t.appends);
          serves = serves_push bytes w p.exchanges old mid e rest w' p.serves x stays;
        }

    -- and some were answered
    pub goes_on_by_some : ConnectionTurnIsServed gives ticks between after old mid rest w' (Ok Answered) → (k : KeepsOn gives ticks before after bytes w rest w') × (k.exchanges ≢ [])
    unfolding goes_on
    goes_on_by_some t = (goes_on t, not_none p.exchanges t.gives_next.0)

    -- no whole request is left
    pub stays : (n : ℕ) → ConnectionTurnIsServed gives ticks between after old mid rest w' (Ok (Unfinished n)) → KeepsOn gives ticks before after bytes w rest w' × IsUnbegun rest
    stays n t =
        let (unbegun, left, (silent, still)) = t.gives_next in
        let texts : flat_map response p.exchanges ++ t.text ≡ flat_map response p.exchanges = ap (λ l. flat_map response p.exchanges ++ l) silent ∙ append-nil (flat_map response p.exchanges) in (
          record {
            exchanges = p.exchanges;
            appends = subst (Appends before after) texts (Appends-trans before between after (flat_map response p.exchanges) t.text p.appends t.appends);
            serves = subst (λ r. ConnectionGives gives ticks bytes w p.exchanges r w') (sym left) (subst (ConnectionGives gives ticks bytes w p.exchanges old) (sym still) p.serves);
          },
          subst IsUnbegun (sym left) unbegun,
        )

    pub over : (left : Option (List ℕ)) (text : List ℕ) (result : Result Served ServeFault) → Appends between after text → ConnectionEnds gives ticks old left mid text w' result → IsOver gives ticks before after bytes left w w' result
    over left text result appends finishes = record {
      text = flat_map response p.exchanges ++ text;
      appends = Appends-trans before between after (flat_map response p.exchanges) text p.appends appends;
      served = record {
        exchanges = p.exchanges;
        rest = old;
        between = mid;
        last = text;
        serves = p.serves;
        finishes = finishes;
        written = refl;
      };
    }

    pub closed : (left : Option (List ℕ)) → ConnectionTurnIsServed gives ticks between after old mid rest w' (Ok Closed) → IsOver gives ticks before after bytes left w w' (Ok served.Closed)
    closed left t = over left t.text (Ok served.Closed) t.appends t.gives_next

    pub failed : (left : Option (List ℕ)) (fault : ServeFault) → ConnectionTurnIsServed gives ticks between after old mid rest w' (Err fault) → IsOver gives ticks before after bytes left w w' (Err fault)
    failed left Read t = absurd t.gives_next
    failed left CutShort t = absurd t.gives_next
    failed left fault t = over left t.text (Err fault) t.appends t.gives_next

    -- and the visit with it
    pub stopped : (fault : ServeFault) → ConnectionTurnIsServed gives ticks between after old mid rest w' (Err fault) → IsVisit gives ticks before after bytes w rest w' (Err fault)
    stopped Read t = absurd t.gives_next
    stopped CutShort t = absurd t.gives_next
    stopped fault t = failed None fault t

  -- reading ended the connection
  pub read_ended : (bytes : List ℕ) (left : Option (List ℕ)) (w : World H C) (how : Served) → IsReadOn bytes left (Ok (Some how)) → ConnectionEnds gives ticks bytes left w [] w (Ok how)
  read_ended bytes left w served.Ended is = (is.0, is.1, (refl, refl))
  read_ended bytes left w served.Closed is = absurd is

  pub read_failed : (bytes : List ℕ) (left : Option (List ℕ)) (w : World H C) (fault : ServeFault) → IsReadOn bytes left (Err fault) → ConnectionEnds gives ticks bytes left w [] w (Err fault)
  read_failed bytes left w Read is = (is, (refl, refl))
  read_failed bytes left w Write is = absurd is
  read_failed bytes left w Memory is = (refl, inl (is, (refl, refl)))
  read_failed bytes left w CutShort is = (is.0, is.1, (refl, refl))

  -- what a turn puts somewhere is the next response, or a beginning of it
  pub begun_only : (old : List ℕ) (left : Option (List ℕ)) (mid : World H C) (text rest : List ℕ) (w' : World H C) (n : ℕ) (turn : Result TurnOutcome ServeFault) → IfErr turn (HasText []) → ConnectionTurnIsAnswered gives ticks old mid text rest w' turn → text ≢ [] → ConnectionEnds gives ticks old left mid (take n text) w' (Err Write)
  begun_only old left mid text rest w' n (Ok Answered) room (e, x, stays, out) some = (n, text, inl (e, rest, x, out), refl)
  begun_only old left mid text rest w' n (Ok Closed) room (inl (e, more, x, ends, out)) some = (n, text, inl (e, more, x, out), refl)
  begun_only old left mid text rest w' n (Ok Closed) room (inr away) some = (n, text, inr away, refl)
  begun_only old left mid text rest w' n (Ok (Unfinished k)) room (unbegun, same, silent) some = absurd (some silent.0)
  begun_only old left mid text rest w' n (Err Write) room t some = absurd (room refl)
  begun_only old left mid text rest w' n (Err Memory) room (none, why) some = absurd (some none)
  begun_only old left mid text rest w' n (Err fault) room never some = absurd never

  -- what was read and answered so far is the connection, where that is over
  is_served : (unread left before after : Option (List ℕ)) (bytes : List ℕ) (w w' : World H C) (result : Result Served ServeFault) → Consumes unread left bytes → IsOver gives ticks before after bytes left w w' result
      → ConnectionIsServed gives ticks (io unread before) w (io left after) w' result
  is_served unread left before after bytes w w' result consumes o = record { bytes = bytes; text = o.text; consumes = consumes; appends = o.appends; served = o.served }

-- a connection that is served alone: where it was at first, and now
module _ {H C : Type 0} (gives : Giving H) (ticks : C → ℕ → C → Type 0) (unread before : Option (List ℕ)) (start : World H C) where
  abbrev pub Went : Option (List ℕ) → Option (List ℕ) → List ℕ → World H C → Type 0
  Went left written rest w = ConnectionProgress gives ticks (io unread before) start (io left written) rest w

  abbrev pub ServedSo : Option (List ℕ) → Option (List ℕ) → World H C → Result Served ServeFault → Type 0
  ServedSo left written w result = ConnectionIsServed gives ticks (io unread before) start (io left written) w result

  pub nothing_came : Went unread before [] start
  nothing_came = record { bytes = []; consumes = Consumes-nil unread; goes = starts gives ticks before [] start }

  module _ (left written : Option (List ℕ)) (old : List ℕ) (mid : World H C) (p : Went left written old mid) where
    -- more was read
    pub came_more : (end : Option (List ℕ)) (came : List ℕ) → Grows left end old came → Went end written came mid
    came_more end came (more, consumes, grown) = record {
      bytes = p.bytes ++ more;
      consumes = Consumes-trans unread left end p.bytes more p.consumes consumes;
      goes = subst (λ l. KeepsOn gives ticks before written (p.bytes ++ more) start l mid) (sym grown) (reads_more gives ticks before written written p.bytes old old start mid mid p.goes more);
    }

    -- nothing more was answered
    pub ends_here : (result : Result Served ServeFault) → ConnectionEnds gives ticks old left mid [] mid result → ServedSo left written mid result
    ends_here result finishes = is_served gives ticks unread left before written p.bytes start mid result p.consumes (over gives ticks before written written p.bytes old old start mid mid p.goes left [] result (Appends-nil written) finishes)

    module _ (rest : List ℕ) (w' : World H C) (after : Option (List ℕ)) where
      -- a request was answered, or none has come whole
      pub turned_on : (turn : TurnOutcome) → ConnectionTurnIsServed gives ticks written after old mid rest w' (Ok turn) → (turn ≡ Closed → ⊥) → Went left after rest w'
      turned_on Answered t on = record { bytes = p.bytes; consumes = p.consumes; goes = goes_on gives ticks before written after p.bytes old rest start mid w' p.goes t }
      turned_on (Unfinished n) t on = record { bytes = p.bytes; consumes = p.consumes; goes = (stays gives ticks before written after p.bytes old rest start mid w' p.goes n t).0 }
      turned_on Closed t on = absurd (on refl)

      pub turned_over : ConnectionTurnIsServed gives ticks written after old mid rest w' (Ok Closed) → ServedSo left after w' (Ok served.Closed)
      turned_over t = is_served gives ticks unread left before after p.bytes start w' (Ok served.Closed) p.consumes (closed gives ticks before written after p.bytes old rest start mid w' p.goes left t)

      pub turned_down : (fault : ServeFault) → ConnectionTurnIsServed gives ticks written after old mid rest w' (Err fault) → ServedSo left after w' (Err fault)
      turned_down fault t = is_served gives ticks unread left before after p.bytes start w' (Err fault) p.consumes (failed gives ticks before written after p.bytes old rest start mid w' p.goes left fault t)

    -- a beginning of the answer was written
    pub cut_off : (text : List ℕ) (rest : List ℕ) (w' : World H C) (n : ℕ) (after : Option (List ℕ)) (turn : Result TurnOutcome ServeFault) → IfErr turn (HasText []) → ConnectionTurnIsAnswered gives ticks old mid text rest w' turn → text ≢ [] → Appends written after (take n text) → ServedSo left after w' (Err Write)
    cut_off text rest w' n after turn room t some appends =
        is_served gives ticks unread left before after p.bytes start w' (Err Write) p.consumes (over gives ticks before written after p.bytes old rest start mid w' p.goes left (take n text) (Err Write) appends (begun_only gives ticks old left mid text rest w' n turn room t some))
