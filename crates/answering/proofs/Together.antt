-- Calls that are made together, as calls one after another; and visits whose calls are.
use Rattle.std.proofs.Common.{◌≡◌, All, ℕ, ◌+◌, ◌-◌, ◌≤◌, if◌then◌else◌, Bool, true, false, List, [], ◌∷◌, ◌++◌, drop, length, slice_range, take, Some, Result, Ok, Err, IfOk, IfErr, refl, sym, ap, ap₂, ◌∙◌, subst, inl, inr, arith}
use Rattle.std.proofs.lemmas.List.{drop-append-le, drop_all, length-append, take-append-le}
use Rattle.std.proofs.Math.Seq.{take-length}
use Rattle.std.proofs.lemmas.List.Elements.{All-append}
use Rattle.accept.specs.Calls.{AreNumbers}
use Rattle.accept.specs.Doubts.{is_doubt}
use Rattle.accept.specs.declared.call.Call.{Call}
use Rattle.accept.specs.declared.call.Reply.{Reply}
use Rattle.accept.specs.declared.fault.CallFault.{CallFault}
use Rattle.pushjson.specs.declared.fault.PushFault.{PushFault}
use Rattle.requests.specs.declared.answer.Answer.{Answer}
use Rattle.requests.specs.declared.fault.ServeFault.{ServeFault}
use Rattle.requests.specs.declared.incoming.Message.{Message}
use Rattle.requests.specs.declared.route.Route.{Route}
use Rattle.requests.specs.declared.route.Route.TheVariants.{Push}
use Rattle.answering.specs.Asking.{Asked}
use Rattle.answering.specs.Beginning.{IsAnsweredSo, IsVisitedWithoutCalls, WaitsForCalls, turn_by}
use Rattle.answering.specs.Calls.{Giving, Came, CallsGive, CallsGiveAfter}
use Rattle.answering.specs.Calls as cames
use Rattle.answering.specs.Connections.{Unended}
use Rattle.answering.specs.Courses.{Course, Unread, Whole, Broken, BodyGives, BodyIsLeft, RequestGives, RequestIsLeft, StreamsGiveAfter, said_of}
use Rattle.answering.specs.Demands.{IsDemand, IsAnsweredBy, SameCalls, StreamsAreTold, WaitsFor, awaited, calls_asked}
use Rattle.answering.specs.Parts.{UncalledIsAnswered}
use Rattle.answering.specs.Gathering.{AreGathered, AreVisitedSo, IsVisitedSo, Known, among, doubt_after, known}
use Rattle.answering.specs.Responses.{RequestEnds}
use Rattle.answering.specs.Serving.{World, world}
use Rattle.answering.specs.Turns.{HasText}
use Rattle.answering.specs.Windows.{AsksForStreams}
use Rattle.answering.specs.declared.demands.Demand.{Demand}
use Rattle.answering.specs.declared.demands.Demand.TheVariants.{Nothing, One, Streams}
use Rattle.answering.specs.declared.demands.Waiting.{Waiting}
use Rattle.answering.specs.declared.demands.Waiting.TheVariants as waits
use Rattle.answering.specs.declared.responding.NoAnswer.{NoAnswer}
use Rattle.answering.specs.declared.responding.NoAnswer.TheVariants.{Failed, GivenUp}
use Rattle.answering.proofs.Beginning.{turn_told, visit_of_turn, without_calls}
use Rattle.answering.proofs.Going.{nothing, one_made, push, push_made}
use Rattle.answering.proofs.Pushing.{counted, streams_told}

module _ {H : Type 0} (gives : Giving H) where
  -- the calls of the first requests, and those of the last
  pub record Parted (doubt : Bool) (h : H) (firsts lasts : List Call) (outcomes : List (Result Reply CallFault)) (h' : H) : Type 0 where
    pub first : List (Result Reply CallFault)
    pub last : List (Result Reply CallFault)
    pub between : H
    pub are : outcomes ≡ first ++ last
    pub gave : CallsGiveAfter gives doubt h firsts first between
    pub gives_then : CallsGiveAfter gives (doubt_after doubt first) between lasts last h'
    pub doubts : doubt_after doubt outcomes ≡ doubt_after (doubt_after doubt first) last

  pub parted : (doubt : Bool) (h : H) (firsts lasts : List Call) (outcomes : List (Result Reply CallFault)) (h' : H) → CallsGiveAfter gives doubt h (firsts ++ lasts) outcomes h' → Parted doubt h firsts lasts outcomes h'
  parted doubt h [] lasts outcomes h' given = record { first = []; last = outcomes; between = h; are = refl; gave = refl; gives_then = given; doubts = refl }
  parted doubt h (c ∷ firsts) lasts [] h' given = absurd given
  parted doubt h (c ∷ firsts) lasts (r ∷ rs) h' (mid, is, given) =
      let p = parted (is_doubt r) mid firsts lasts rs h' given in
      record { first = r ∷ p.first; last = p.last; between = p.between; are = ap (λ l. r ∷ l) p.are; gave = (mid, is, p.gave); gives_then = p.gives_then; doubts = p.doubts }

  pub as_many : (doubt : Bool) (h : H) (calls : List Call) (outcomes : List (Result Reply CallFault)) (h' : H) → CallsGiveAfter gives doubt h calls outcomes h' → length outcomes ≡ length calls
  as_many doubt h [] [] h' given = refl
  as_many doubt h (c ∷ calls) (r ∷ rs) h' (mid, is, given) = let same = as_many (is_doubt r) mid calls rs h' given in omega (arith, same)
  as_many doubt h calls outcomes h' never = absurd never

  -- the same, where it is known whether the call before is in doubt
  pub told_among : (other doubt : Bool) (h : H) (calls : List Call) (outcomes : List (Result Reply CallFault)) (h' : H) → CallsGiveAfter gives doubt h calls outcomes h'
      → CallsGiveAfter (among gives) other (known h doubt) calls outcomes (known h' (doubt_after doubt outcomes))
  told_among other doubt h [] [] h' given = ap (λ k. known k doubt) given
  told_among other doubt h (c ∷ calls) (r ∷ rs) h' (mid, is, given) = (known mid (is_doubt r), (is, refl), told_among (is_doubt r) (is_doubt r) mid calls rs h' given)
  told_among other doubt h calls outcomes h' never = absurd never

  streams_among : (tenant : List ℕ) (other doubt : Bool) (h h' : H) (all : List Asked) (cs : List Came) → StreamsGiveAfter gives tenant doubt h all cs h' → (after : Bool) × StreamsGiveAfter (among gives) tenant other (known h doubt) all cs (known h' after)
  streams_among tenant other doubt h h' [] [] same = (doubt, ap (λ k. known k doubt) same)
  streams_among tenant other doubt h h' (a ∷ more) (cames.Refused fault ∷ cs) (mid, (why, same), others) =
      let (after, are) = streams_among tenant other doubt mid h' more cs others in
      (after, (known mid doubt, (why, ap (λ k. known k doubt) same), are))
  streams_among tenant other doubt h h' (a ∷ more) (cames.Replied reply ∷ cs) (mid, (call, is, given), others) =
      let (after, are) = streams_among tenant false false mid h' more cs others in
      (after, (known mid false, (call, is, (given, refl)), are))
  streams_among tenant other doubt h h' (a ∷ more) (cames.Failed failure ∷ cs) (mid, (call, is, given), others) =
      let (after, are) = streams_among tenant (is_doubt (Err failure)) (is_doubt (Err failure)) mid h' more cs others in
      (after, (known mid (is_doubt (Err failure)), (call, is, (given, refl)), are))
  streams_among tenant other doubt h h' all cs never = absurd never

  body_among : (tenant : List ℕ) (h h' : H) (asked : Result (List Asked) PushFault) (course : Course) → BodyGives gives tenant h asked course h' → (after : Bool) × BodyGives (among gives) tenant (known h false) asked course (known h' after)
  body_among tenant h h' asked (Unread fault) (why, same) = (false, (why, ap (λ k. known k false) same))
  body_among tenant h h' asked (Whole cs) (all, is, went, whole) = let (after, each) = streams_among tenant false false h h' all cs went in (after, (all, is, each, whole))
  body_among tenant h h' asked (Broken cs failure) (all, is, ends) =
      let (after, each) = streams_among tenant false false h h' ends.done cs ends.each in
      (after, (all, is, record { done = ends.done; more = ends.more; split = ends.split; each = each; fails = ends.fails; few = ends.few }))

  course_among : (route : Route) (now : ℕ) (tenant body : List ℕ) (h h' : H) (course : Course) → RequestGives gives route now tenant body h course h' → (after : Bool) × RequestGives (among gives) route now tenant body (known h false) course (known h' after)
  course_among route now tenant body h h' course went =
      let (after, goes) = body_among tenant h h' went.asked course went.goes in
      (after, record { asked = went.asked; asks = went.asks; goes = goes })

  body_left_among : (tenant : List ℕ) (says : ℕ → Came → List ℕ) (h h' : H) (asked : Result (List Asked) PushFault) → BodyIsLeft gives tenant says h asked h' → (after : Bool) × BodyIsLeft (among gives) tenant says (known h false) asked (known h' after)
  body_left_among tenant says h h' (Err fault) (told, same) = (false, (told, ap (λ k. known k false) same))
  body_left_among tenant says h h' (Ok all) stops =
      let (after, each) = streams_among tenant false false h h' stops.done (stops.cames ++ stops.last ∷ stops.behind) stops.each in (
        after,
        record { done = stops.done; more = stops.more; cames = stops.cames; last = stops.last; behind = stops.behind; split = stops.split; each = each; whole = stops.whole; said = stops.said; few = stops.few },
      )

  left_among : (route : Route) (now : ℕ) (tenant body : List ℕ) (h h' : H) → RequestIsLeft gives route now tenant body h h' → (after : Bool) × RequestIsLeft (among gives) route now tenant body (known h false) (known h' after)
  left_among route now tenant body h h' it =
      let (after, left) = body_left_among tenant (said_of route) h h' it.asked it.left in
      (after, record { asked = it.asked; asks = it.asks; left = left })

  -- and so of a request that was made alone
  pub ends_among : (route : Route) (now : ℕ) (tenant body : List ℕ) (h h' : H) (answered : Result Answer NoAnswer) → RequestEnds gives route now tenant body h answered h' → (after : Bool) × RequestEnds (among gives) route now tenant body (known h false) answered (known h' after)
  ends_among route now tenant body h h' (Ok answer) (course, went, none, shows) = let (after, is) = course_among route now tenant body h h' course went in (after, (course, is, none, shows))
  ends_among route now tenant body h h' (Err (Failed failure)) (course, went, failed) = let (after, is) = course_among route now tenant body h h' course went in (after, (course, is, failed))
  ends_among route now tenant body h h' (Err GivenUp) left = left_among route now tenant body h h' left

  -- the answer to a request that waited, by what came of its calls
  pub told : (route : Route) (now : ℕ) (tenant body : List ℕ) (demand : Demand) (waiting : Waiting) (h h' : H) (outcomes : List (Result Reply CallFault)) (answered : Result Answer NoAnswer) → IsDemand route now tenant body demand → WaitsFor demand waiting
      → CallsGive gives h (calls_asked demand) outcomes h' → IsAnsweredBy waiting outcomes answered → RequestEnds gives route now tenant body h answered h'
  told route now tenant body (Nothing why) (waits.Nothing same) h h' [] answered asks is given shows =
      subst (RequestEnds gives route now tenant body h answered) (sym given) (nothing gives now tenant body route h why answered asks (subst (λ w. UncalledIsAnswered w answered) is shows))
  told route now tenant body (Nothing why) (waits.Nothing same) h h' (r ∷ rs) answered asks is given shows = absurd given
  told route now tenant body (One call) waits.One h h' [] answered asks is given shows = absurd given
  told route now tenant body (One call) waits.One h h' (r ∷ []) answered asks is (mid, gave, last) shows =
      subst (RequestEnds gives route now tenant body h answered) (sym last) (one_made gives now tenant body route h mid call r answered asks gave shows)
  told route now tenant body (One call) waits.One h h' (r ∷ q ∷ rs) answered asks is (mid, gave, never) shows = absurd never
  told route now tenant body (Streams streams) (waits.Streams taken) h h' outcomes answered asks (same, count, few) given shows =
      push_made gives now tenant body route h h' streams answered asks (λ (all, are_asked, are).
      let due = sym (counted tenant all streams.places.items streams.calls.items are) ∙ sym (as_many false h streams.calls.items outcomes h' given) in
      push gives now tenant body h h' all answered are_asked
      (streams_told gives tenant h all h' streams.places.items streams.calls.items outcomes are due few given answered (subst (λ p. StreamsAreTold p.items outcomes answered) same shows)))
  told route now tenant body demand waiting h h' outcomes answered asks never given shows = absurd never

-- it waits for as many calls as it asks for
awaits : (demand : Demand) (waiting : Waiting) → WaitsFor demand waiting → awaited waiting ≡ length (calls_asked demand)
awaits (Nothing why) (waits.Nothing same) is = refl
awaits (One call) waits.One is = refl
awaits (Streams streams) (waits.Streams taken) (same, count, few) = count
awaits demand waiting never = absurd never

-- the last of them, and those before
last_of : {X : Type 0} (xs ys all : List X) (m n : ℕ) → all ≡ xs ++ ys → m ≡ length all → length ys ≡ n → (drop (m - n) all ≡ ys) × (take (m - n) all ≡ xs)
last_of xs ys all m n are whole count =
    let there : m - n ≡ length xs = omega (arith, whole, ap length are, length-append xs ys, count) in
    let least : length xs ≤ length xs = omega arith in (
      ap₂ drop there are ∙ drop-append-le (length xs) xs ys least ∙ ap (λ l. l ++ ys) (drop_all (length xs) xs least),
      ap₂ take there are ∙ take-append-le (length xs) xs ys least ∙ take-length xs,
    )

room_by : (text : List ℕ) (replied : Result Bool ServeFault) → IfErr replied (HasText text) → IfErr (turn_by replied) (HasText text)
room_by text (Ok closes) room = tt
room_by text (Err fault) room = room

module _ {H C : Type 0} (gives : Giving H) (ticks : C → ℕ → C → Type 0) where
  visited_alone : (k : Known H) (clock : C) (old : Unended) (clock' : C) (new : Unended) → IsVisitedWithoutCalls ticks old clock new clock' → IsVisitedSo gives ticks (world k clock) old (world k clock') new
  visited_alone k clock old clock' new v =
      let t = without_calls (among gives) ticks k (Some old.text) (Some new.text) old.came clock v.rest clock' v.turn v.is in
      let (result, left, is) = visit_of_turn (among gives) ticks old new (world k clock) (world k clock') v.rest v.turn t v.left in
      record { result = result; left = left; is = is; turned = record { turn = v.turn; rest = v.rest; is = t; left = v.left; room = v.room } }

  visited_told : (old new : Unended) (clock clock' : C) (m : Message) (demand : Demand) (w : WaitsForCalls ticks old.came clock clock' m demand) (k k' : Known H) (answered : Result Answer NoAnswer)
      → RequestEnds (among gives) w.route w.now w.tenant (slice_range old.came m.start m.end) k answered k' → IsAnsweredSo m answered old new → IsVisitedSo gives ticks (world k clock) old (world k' clock') new
  visited_told old new clock clock' m demand w k k' answered ends a =
      let t = turn_told (among gives) ticks old.came clock clock' m demand w k k' (Some old.text) (Some new.text) answered (drop m.end old.came) a.replied ends a.is (λ e. refl) in
      let (result, left, is) = visit_of_turn (among gives) ticks old new (world k clock) (world k' clock') (drop m.end old.came) (turn_by a.replied) t a.left in
      record { result = result; left = left; is = is; turned = record { turn = turn_by a.replied; rest = drop m.end old.came; is = t; left = a.left; room = room_by old.text a.replied a.room } }

  -- no connection is left
  pub none_left : (p p' : H) (clock : C) (calls : List Call) (outcomes : List (Result Reply CallFault)) → CallsGive gives p calls outcomes p' → AreGathered gives ticks (world p clock) calls [] outcomes (world p' clock) []
  none_left p p' clock calls outcomes given = record { between = p'; given = given; doubt = doubt_after false outcomes; visited = refl }

  module _ (p p' : H) (c0 c1 c' : C) (calls : List Call) (old new : Unended) (olds news : List Unended) where
    -- the first needs no call
    pub first_alone : (outcomes : List (Result Reply CallFault)) → IsVisitedWithoutCalls ticks old c0 new c1 → AreGathered gives ticks (world p c1) calls olds outcomes (world p' c') news → AreGathered gives ticks (world p c0) calls (old ∷ olds) outcomes (world p' c') (new ∷ news)
    first_alone outcomes v g =
        let k = known g.between (doubt_after false outcomes) in
        record { between = g.between; given = g.given; doubt = g.doubt; visited = (k, world k c1, inl refl, visited_alone k c0 old c1 new v, g.visited) }

    module _ (m : Message) (demand : Demand) (w : WaitsForCalls ticks old.came c0 c1 m demand) (answered : Result Answer NoAnswer) (a : IsAnsweredSo m answered old new) where
      -- its calls are made with the others
      pub first_joins : (waiting : Waiting) (n : ℕ) (outcomes left : List (Result Reply CallFault)) → n ≡ length outcomes → WaitsFor demand waiting → AreGathered gives ticks (world p c1) (calls ++ calls_asked demand) olds outcomes (world p' c') news
          → IsAnsweredBy waiting (drop (n - awaited waiting) outcomes) answered → left ≡ take (n - awaited waiting) outcomes → AreGathered gives ticks (world p c0) calls (old ∷ olds) left (world p' c') (new ∷ news)
      first_joins waiting n outcomes left all is g shows behind =
          let q = parted gives false p calls (calls_asked demand) outcomes g.between g.given in
          let d = doubt_after false q.first in
          let count = as_many gives d q.between (calls_asked demand) q.last g.between q.gives_then ∙ sym (awaits demand waiting is) in
          let (last, first) = last_of q.first q.last outcomes n (awaited waiting) q.are all count in
          let k = known q.between d in
          let k' = known g.between (doubt_after d q.last) in
          let ends = told (among gives) w.route w.now w.tenant (slice_range old.came m.start m.end) demand waiting k k' q.last answered w.demands is (told_among gives false d q.between (calls_asked demand) q.last g.between q.gives_then) (subst (λ l. IsAnsweredBy waiting l answered) last shows) in
          let others = subst (λ b. AreVisitedSo gives ticks (world (known g.between b) c1) olds (world (known p' g.doubt) c') news) q.doubts g.visited in
          subst (λ l. AreGathered gives ticks (world p c0) calls (old ∷ olds) l (world p' c') (new ∷ news)) (sym (behind ∙ first))
          (record { between = q.between; given = q.gave; doubt = g.doubt; visited = (k, world k' c1, inl refl, visited_told old new c0 c1 m demand w k k' answered ends a, others) })

  -- what is in doubt is forgotten
  forget : (h : H) (after : Bool) (c : C) (olds : List Unended) (p' : H) (d : Bool) (c' : C) (news : List Unended) → AreVisitedSo gives ticks (world (known h false) c) olds (world (known p' d) c') news
      → (d' : Bool) × AreVisitedSo gives ticks (world (known h after) c) olds (world (known p' d') c') news
  forget h after c [] p' d c' [] same = (after, ap (λ (w : World (Known H) C). world (known w.knows.knows after) w.clock) same)
  forget h after c (o ∷ olds) p' d c' (n ∷ news) (start, mid, inl e, visit, others) = (d, (start, mid, inr e, visit, others))
  forget h after c (o ∷ olds) p' d c' (n ∷ news) (start, mid, inr e, visit, others) = (d, (start, mid, inr e, visit, others))
  forget h after c olds p' d c' news never = absurd never

  -- no calls were made before the others
  none_before : (h : H) (after : Bool) (c : C) (olds : List Unended) (outcomes : List (Result Reply CallFault)) (p' : H) (c' : C) (news : List Unended) → AreGathered gives ticks (world h c) [] olds outcomes (world p' c') news
      → (d' : Bool) × AreVisitedSo gives ticks (world (known h after) c) olds (world (known p' d') c') news
  none_before h after c olds [] p' c' news g = forget h after c olds p' g.doubt c' news (subst (λ k. AreVisitedSo gives ticks (world (known k false) c) olds (world (known p' g.doubt) c') news) g.given g.visited)
  none_before h after c olds (r ∷ rs) p' c' news g = absurd g.given

  -- the first is made alone, after the others
  pub first_apart : (p mid h p' : H) (c0 c1 c' : C) (calls : List Call) (old new : Unended) (olds news : List Unended) (m : Message) (demand : Demand) (w : WaitsForCalls ticks old.came c0 c1 m demand) (answered : Result Answer NoAnswer) (outcomes more : List (Result Reply CallFault))
      → IsAnsweredSo m answered old new → CallsGive gives p calls outcomes mid → RequestEnds gives w.route w.now w.tenant (slice_range old.came m.start m.end) mid answered h → AreGathered gives ticks (world h c1) [] olds more (world p' c') news
      → AreGathered gives ticks (world p c0) calls (old ∷ olds) outcomes (world p' c') (new ∷ news)
  first_apart p mid h p' c0 c1 c' calls old new olds news m demand w answered outcomes more a given ends g =
      let (after, ends_then) = ends_among gives w.route w.now w.tenant (slice_range old.came m.start m.end) mid h answered ends in
      let (doubt, others) = none_before h after c1 olds more p' c' news g in
      record {
        between = mid;
        given = given;
        doubt = doubt;
        visited = (known mid false, world (known h after) c1, inr refl, visited_told old new c0 c1 m demand w (known mid false) (known h after) answered ends_then a, others);
      }

-- a request that came back asks for the same
pub same_demand : (route : Route) (now : ℕ) (tenant body : List ℕ) (demand back : Demand) → SameCalls demand back → IsDemand route now tenant body demand → IsDemand route now tenant body back
same_demand Push now tenant body (Streams streams) (Streams others) (places, calls) asks =
    subst (λ l. AsksForStreams now tenant body l others.calls.items) (sym places) (subst (AsksForStreams now tenant body streams.places.items) (sym calls) asks)
same_demand route now tenant body (Streams streams) (Streams others) same never = absurd never
same_demand route now tenant body (Streams streams) back never asks = absurd never
same_demand route now tenant body demand back same asks = subst (IsDemand route now tenant body) (sym same) asks

-- no more than there is room for
pub grown : (told : Bool) (len n m most : ℕ) → len ≡ (if told then n + m else n) → n + m ≤ most → len ≤ most
grown true len n m most is few = omega (arith, is, few)
grown false len n m most is few = omega (arith, is, few)

-- the outcomes of its calls are there
pub all_there : {H C : Type 0} (gives : Giving H) (ticks : C → ℕ → C → Type 0) (w w' : World H C) (calls : List Call) (demand : Demand) (waiting : Waiting) (n : ℕ) (olds news : List Unended) (outcomes : List (Result Reply CallFault)) → n ≡ length outcomes → WaitsFor demand waiting
    → AreGathered gives ticks w (calls ++ calls_asked demand) olds outcomes w' news → awaited waiting ≤ n
all_there gives ticks w w' calls demand waiting n olds news outcomes all is g =
    let count = as_many gives false w.knows (calls ++ calls_asked demand) outcomes g.between g.given in
    omega (arith, all, count, length-append calls (calls_asked demand), awaits demand waiting is)

-- its calls may be made
pub same_numbers : (demand back : Demand) → SameCalls demand back → All AreNumbers (calls_asked demand) → All AreNumbers (calls_asked back)
same_numbers (Streams streams) (Streams others) (places, calls) all = subst (All AreNumbers) (sym calls) all
same_numbers (Streams streams) back never all = absurd never
same_numbers demand back same all = subst (λ d. All AreNumbers (calls_asked d)) (sym same) all

pub more_numbers : (old new more : List Call) → new ≡ old ++ more → All AreNumbers old → All AreNumbers more → All AreNumbers new
more_numbers old new more is all others = subst (All AreNumbers) (sym is) (All-append AreNumbers old more all others)

-- and so whether they were taken in or not
pub numbers_either_way : (A : Waiting → Type 0) (B : Demand → Type 0) (r : Result Waiting Demand) (old new more : List Call) → IfOk r (λ w. A w × (new ≡ old ++ more)) → IfErr r (λ b. B b × (new ≡ old)) → All AreNumbers old → All AreNumbers more → All AreNumbers new
numbers_either_way A B (Ok waiting) old new more ok err all others = more_numbers old new more ok.1 all others
numbers_either_way A B (Err back) old new more ok err all others = subst (All AreNumbers) (sym err.1) all
