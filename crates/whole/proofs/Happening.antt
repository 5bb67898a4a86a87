-- What the calls of requests leave happens to their pass.
use Rattle.std.proofs.Common.{◌≡◌, ℕ, Bool, true, false, List, [], ◌∷◌, ◌++◌, map, Result, Ok, Err, refl, sym, ap, ◌∙◌, subst, inl, inr, ◌⊎◌, append_assoc}
use Rattle.std.proofs.lemmas.List.{map-append}
use Rattle.std.proofs.lemmas.List.Concat.{flat_map-append}
use Rattle.accept.specs.declared.call.Call.{Call as Asking}
use Rattle.headline.proofs.Common.{Reply, CallFault, Step, Passed, Opening, IsGivenAfter, What, Called, Happening, Happens, HappenAfter, answers_by, IsOneOf, among_left, among_right, among_split}
use Rattle.accept.specs.Doubts.{is_doubt}
use Rattle.pushjson.specs.declared.fault.PushFault.{PushFault}
use Rattle.requests.specs.declared.route.Route.{Route}
use Rattle.whole.proofs.Common.{Verdict, Asked, AsksFor, IsCallOf, Came, Refused, Replied, Failed, Course, Unread, Whole, Broken, said_of, StreamsGiveAfter, BodyGives, BodyIsLeft, Known, MayGoOn, among, known, Exchange, World, VerdictGives, VerdictIsLeft, ConnectionGives, IsExchange, IsAbandoned, AreSteps, AreStepsOf, AreStepsBy, CallGives, its_step, answered_among, steps_among, IsAskedIn}
use Rattle.requests.specs.declared.verdict.Verdict.TheVariants.{Fixed, Call, NoMemory}
use Rattle.requests.specs.Fields.{fields_of}
use Rattle.requests.specs.Streams.{Request, ReadsMessage}
use Rattle.requests.specs.Verdicts.{IsVerdict}

steps-append : (first others : List Happening) → steps_among (first ++ others) ≡ steps_among first ++ steps_among others
steps-append first others = ap (map its_step) (flat_map-append (λ h. answers_by h.before.caller h.what) first others) ∙ map-append its_step (answered_among first) (answered_among others)

pub into_left : (first more : List Happening) (s : Step) → IsOneOf s (steps_among first) → IsOneOf s (steps_among (first ++ more))
into_left first more s one = subst (IsOneOf s) (sym (steps-append first more)) (among_left s (steps_among first) (steps_among more) one)

pub into_right : (first more : List Happening) (s : Step) → IsOneOf s (steps_among more) → IsOneOf s (steps_among (first ++ more))
into_right first more s one = subst (IsOneOf s) (sym (steps-append first more)) (among_right s (steps_among first) (steps_among more) one)

pub one_of_both : (first more : List Happening) (s : Step) → IsOneOf s (steps_among (first ++ more)) → IsOneOf s (steps_among first) ⊎ IsOneOf s (steps_among more)
one_of_both first more s one = among_split s (steps_among first) (steps_among more) (subst (IsOneOf s) (steps-append first more) one)

-- a stream that was asked for has this call
abbrev pub IsAskedOn : List ℕ → Result (List Asked) PushFault → Asking → Type 0
IsAskedOn tenant asked call = (all : List Asked) × (asked ≡ Ok all) × (a : Asked) × IsOneOf a all × IsCallOf tenant a call

stream_of : (tenant : List ℕ) (all : List Asked) (cames : List Came) (steps : List Step) (s : Step) → AreSteps tenant all cames steps → IsOneOf s steps → (a : Asked) × IsOneOf a all × IsCallOf tenant a s.ask.call
stream_of tenant [] [] steps s none one = absurd (subst (IsOneOf s) none one)
stream_of tenant [] (c ∷ cs) steps s never one = absurd never
stream_of tenant (a ∷ more) [] steps s never one = absurd never
stream_of tenant (a ∷ more) (Refused fault ∷ cs) steps s are one = let it = stream_of tenant more cs steps s are one in (it.0, inr it.1, it.2)
stream_of tenant (a ∷ more) (Failed fault ∷ cs) steps s are one = let it = stream_of tenant more cs steps s are one in (it.0, inr it.1, it.2)
stream_of tenant (a ∷ more) (Replied reply ∷ cs) [] s never one = absurd never
stream_of tenant (a ∷ more) (Replied reply ∷ cs) (t ∷ steps) s are (inl e) = (a, inl refl, subst (λ (u : Step). IsCallOf tenant a u.ask.call) (sym e) are.0)
stream_of tenant (a ∷ more) (Replied reply ∷ cs) (t ∷ steps) s are (inr one) = let it = stream_of tenant more cs steps s are.2 one in (it.0, inr it.1, it.2)

-- a request of this verdict asks for the call
pub record IsAskedBy (r : Request) (verdict : Verdict) (call : Asking) : Type 0 where
  pub route : Route
  pub tenant : List ℕ
  pub is : verdict ≡ Call route tenant
  pub now : ℕ
  pub streams : List Asked
  pub asks : AsksFor route now r.body (Ok streams)
  pub stream : Asked
  pub one_of : IsOneOf stream streams
  pub call_is : IsCallOf tenant stream call

-- From the one to the other these happened to a pass: so whatever happens then happens behind them.
abbrev pub HappenFrom : {D : Type 0} → Opening D → Known Passed → List Happening → Known Passed → Type 0
HappenFrom opening k hs k' = (more : List Happening) (end : Passed) → HappenAfter k'.doubt opening k'.knows more end → HappenAfter k.doubt opening k.knows (hs ++ more) end

module _ {D : Type 0} (opening : Opening D) where
  given_weaker : (lost : Bool) (old new : Passed) (call : Asking) (outcome : Result Reply CallFault) → IsGivenAfter false old call outcome new → IsGivenAfter lost old call outcome new
  given_weaker false old new call outcome is = is
  given_weaker true old new call outcome is = inl is

  weaker : (lost : Bool) (old new : Passed) (what : What) → Happens false opening old what new → Happens lost opening old what new
  weaker lost old new (Called call outcome) is = given_weaker lost old new call outcome is
  weaker lost old new what is = is

  -- what happens where no call before is in doubt may happen behind any
  behind_any : (lost : Bool) (start end : Passed) (hs : List Happening) → HappenAfter false opening start hs end → HappenAfter lost opening start hs end
  behind_any lost start end [] same = same
  behind_any lost start end (h ∷ hs) (is, happens, others) = (is, weaker lost h.before h.after h.what happens, others)

  pub nothing : (k k' : Known Passed) → k' ≡ k → HappenFrom opening k [] k'
  nothing k k' same = λ more end happen. subst (λ (x : Known Passed). HappenAfter x.doubt opening x.knows more end) same happen

  pub both : (k mid k' : Known Passed) (first others : List Happening) → HappenFrom opening k first mid → HappenFrom opening mid others k' → HappenFrom opening k (first ++ others) k'
  both k mid k' first others happen then = λ more end next.
      subst (λ l. HappenAfter k.doubt opening k.knows l end) (sym (append_assoc first others more)) (happen (others ++ more) end (then more end next))

  pub went_on : (k k' : Known Passed) → MayGoOn k k' → HappenFrom opening k [] k'
  went_on k k' (inl same) = nothing k k' same
  went_on k k' (inr alone) = λ more end happen. behind_any k.doubt k.knows end more (nothing (known k.knows false) k' alone more end happen)

  abbrev called : Known Passed → Asking → Result Reply CallFault → Known Passed → Happening
  called k call outcome k' = record { before = k.knows; what = Called call outcome; after = k'.knows }

  one : (doubt : Bool) (k k' : Known Passed) (call : Asking) (outcome : Result Reply CallFault) → among CallGives doubt k call outcome k' → HappenFrom opening k (called k call outcome k' ∷ []) k'
  one doubt k k' call outcome (given, leaves) = λ more end happen. (refl, given, subst (λ d. HappenAfter d opening k'.knows more end) leaves happen)

  streams : (tenant : List ℕ) (doubt : Bool) (k k' : Known Passed) (all : List Asked) (cames : List Came) → StreamsGiveAfter (among CallGives) tenant doubt k all cames k' → (hs : List Happening) × HappenFrom opening k hs k' × AreSteps tenant all cames (steps_among hs)
  streams tenant doubt k k' [] [] same = ([], nothing k k' same, refl)
  streams tenant doubt k k' [] (c ∷ cs) never = absurd never
  streams tenant doubt k k' (a ∷ more) [] never = absurd never
  streams tenant doubt k k' (a ∷ more) (Refused fault ∷ cs) (mid, (why, same), others) =
      streams tenant doubt k k' more cs (subst (λ x. StreamsGiveAfter (among CallGives) tenant doubt x more cs k') same others)
  streams tenant doubt k k' (a ∷ more) (Failed failure ∷ cs) (mid, (call, is, given), others) =
      let (hs, happen, are) = streams tenant (is_doubt (Err failure)) mid k' more cs others in
      let h = called k call (Err failure) mid in
      (h ∷ hs, both k mid k' (h ∷ []) hs (one doubt k mid call (Err failure) given) happen, are)
  streams tenant doubt k k' (a ∷ more) (Replied reply ∷ cs) (mid, (call, is, given), others) =
      let (hs, happen, are) = streams tenant false mid k' more cs others in
      let h = called k call (Ok reply) mid in
      (h ∷ hs, both k mid k' (h ∷ []) hs (one doubt k mid call (Ok reply) given) happen, (is, refl, are))

  -- of streams at the front of those that were asked for
  of_front : (tenant : List ℕ) (asked : Result (List Asked) PushFault) (done more : List Asked) (cames : List Came) (steps : List Step) → asked ≡ Ok (done ++ more) → AreSteps tenant done cames steps → (s : Step) → IsOneOf s steps → IsAskedOn tenant asked s.ask.call
  of_front tenant asked done more cames steps is are s one = let it = stream_of tenant done cames steps s are one in (done ++ more, is, it.0, among_left it.0 done more it.1, it.2)

  goes : (tenant : List ℕ) (k k' : Known Passed) (asked : Result (List Asked) PushFault) (course : Course) → BodyGives (among CallGives) tenant k asked course k'
      → (hs : List Happening) × HappenFrom opening k hs k' × AreStepsOf tenant asked course (steps_among hs) × ((s : Step) → IsOneOf s (steps_among hs) → IsAskedOn tenant asked s.ask.call)
  goes tenant k k' asked (Unread fault) (why, same) = ([], nothing k k' same, refl, λ s one. absurd one)
  goes tenant k k' asked (Whole cames) (all, is, went, whole) =
      let (hs, happen, are) = streams tenant false k k' all cames went in
      (hs, happen, (all, is, are), λ s one. let it = stream_of tenant all cames (steps_among hs) s are one in (all, is, it.0, it.1, it.2))
  goes tenant k k' asked (Broken cames failure) (all, is, ends) =
      let (hs, happen, are) = streams tenant false k k' ends.done cames ends.each in
      let split = is ∙ ap (λ l. Ok l) ends.split in
      (hs, happen, (ends.done, ends.more, split, are), of_front tenant asked ends.done ends.more cames (steps_among hs) split are)

  asked_by : (r : Request) (route : Route) (tenant : List ℕ) (now : ℕ) (asked : Result (List Asked) PushFault) (call : Asking) → AsksFor route now r.body asked → IsAskedOn tenant asked call → IsAskedBy r (Call route tenant) call
  asked_by r route tenant now asked call asks it = record {
    route = route;
    tenant = tenant;
    is = refl;
    now = now;
    streams = it.0;
    asks = subst (AsksFor route now r.body) it.1 asks;
    stream = it.2;
    one_of = it.3;
    call_is = it.4;
  }

  handled : (now : ℕ) (r : Request) (k k' : Known Passed) (verdict : Verdict) (course : Course) → VerdictGives (among CallGives) now r.body verdict k course k'
      → (hs : List Happening) × HappenFrom opening k hs k' × AreStepsBy now r.body verdict course (steps_among hs) × ((s : Step) → IsOneOf s (steps_among hs) → IsAskedBy r verdict s.ask.call)
  handled now r k k' (Fixed answer) course (what, same) = ([], nothing k k' same, refl, λ s one. absurd one)
  handled now r k k' (Call route tenant) course takes =
      let (hs, happen, are, asked) = goes tenant k k' takes.asked course takes.goes in
      (hs, happen, (takes.asked, takes.asks, are), λ s one. asked_by r route tenant now takes.asked s.ask.call takes.asks (asked s one))
  handled now r k k' NoMemory course (what, same) = ([], nothing k k' same, refl, λ s one. absurd one)

  gives_up : (tenant : List ℕ) (k k' : Known Passed) (says : ℕ → Came → List ℕ) (asked : Result (List Asked) PushFault) → BodyIsLeft (among CallGives) tenant says k asked k'
      → (hs : List Happening) × HappenFrom opening k hs k' × ((s : Step) → IsOneOf s (steps_among hs) → IsAskedOn tenant asked s.ask.call)
  gives_up tenant k k' says (Err fault) (told, same) = ([], nothing k k' same, λ s one. absurd one)
  gives_up tenant k k' says (Ok all) stops =
      let cames = stops.cames ++ stops.last ∷ stops.behind in
      let (hs, happen, are) = streams tenant false k k' stops.done cames stops.each in
      (hs, happen, of_front tenant (Ok all) stops.done stops.more cames (steps_among hs) (ap (λ l. Ok l) stops.split) are)

  abandoned : (now : ℕ) (r : Request) (k k' : Known Passed) (verdict : Verdict) → VerdictIsLeft (among CallGives) now r.body verdict k k'
      → (hs : List Happening) × HappenFrom opening k hs k' × ((s : Step) → IsOneOf s (steps_among hs) → IsAskedBy r verdict s.ask.call)
  abandoned now r k k' (Fixed answer) never = absurd never
  abandoned now r k k' (Call route tenant) left =
      let (hs, happen, asked) = gives_up tenant k k' (said_of route) left.asked left.left in
      (hs, happen, λ s one. asked_by r route tenant now left.asked s.ask.call left.asks (asked s one))
  abandoned now r k k' NoMemory never = absurd never

-- the request at the front of these bytes asks for it
pub asked_in : (bytes : List ℕ) (r : Request) (left : List ℕ) (verdict : Verdict) (call : Asking) → ReadsMessage bytes r left → IsVerdict r.head.method r.head.target (fields_of r.head) verdict → IsAskedBy r verdict call → IsAskedIn bytes call
asked_in bytes r left verdict call reads is asked = record {
  before = [];
  behind = bytes;
  there = refl;
  request = r;
  left = left;
  reads = reads;
  route = asked.route;
  tenant = asked.tenant;
  verdict = subst (IsVerdict r.head.method r.head.target (fields_of r.head)) asked.is is;
  now = asked.now;
  streams = asked.streams;
  asks = asked.asks;
  stream = asked.stream;
  one_of = asked.one_of;
  call_is = asked.call_is;
}

-- and so does one behind others
asked_behind : (bytes : List ℕ) (r : Request) (mid : List ℕ) (call : Asking) → ReadsMessage bytes r mid → IsAskedIn mid call → IsAskedIn bytes call
asked_behind bytes r mid call reads a = record {
  before = r ∷ a.before;
  behind = a.behind;
  there = (mid, reads, a.there);
  request = a.request;
  left = a.left;
  reads = a.reads;
  route = a.route;
  tenant = a.tenant;
  verdict = a.verdict;
  now = a.now;
  streams = a.streams;
  asks = a.asks;
  stream = a.stream;
  one_of = a.one_of;
  call_is = a.call_is;
}

module _ {C : Type 0} (ticks : C → ℕ → C → Type 0) where
  pub asked_after : (bytes : List ℕ) (w : World (Known Passed) C) (es : List Exchange) (rest : List ℕ) (w' : World (Known Passed) C) (call : Asking) → ConnectionGives (among CallGives) ticks bytes w es rest w' → IsAskedIn rest call → IsAskedIn bytes call
  asked_after bytes w [] rest w' call (same, still) a = subst (λ b. IsAskedIn b call) same a
  asked_after bytes w (e ∷ es) rest w' call (mid, between, x, stays, others) a = asked_behind bytes e.request mid call x.message (asked_after mid between es rest w' call others a)

  module _ {D : Type 0} (opening : Opening D) where
    pub its_happenings : (bytes : List ℕ) (w : World (Known Passed) C) (e : Exchange) (rest : List ℕ) (w' : World (Known Passed) C) → IsExchange (among CallGives) ticks bytes w e rest w'
        → (hs : List Happening) × HappenFrom opening w.knows hs w'.knows × AreStepsBy e.now e.request.body e.verdict e.course (steps_among hs) × ((s : Step) → IsOneOf s (steps_among hs) → IsAskedIn bytes s.ask.call)
    its_happenings bytes w e rest w' x =
        let (hs, happen, are, asked) = handled opening e.now e.request w.knows w'.knows e.verdict e.course x.calls in
        (hs, happen, are, λ s one. asked_in bytes e.request rest e.verdict s.ask.call x.message x.verdict (asked s one))

    pub left_happenings : (bytes : List ℕ) (w w' : World (Known Passed) C) → IsAbandoned (among CallGives) ticks bytes w w' → (hs : List Happening) × HappenFrom opening w.knows hs w'.knows × ((s : Step) → IsOneOf s (steps_among hs) → IsAskedIn bytes s.ask.call)
    left_happenings bytes w w' left =
        let (hs, happen, asked) = abandoned opening left.now left.request w.knows w'.knows left.verdict left.calls in
        (hs, happen, λ s one. asked_in bytes left.request left.rest left.verdict s.ask.call left.message left.is (asked s one))
