-- What was promised of one connection and of two shards, up to a turn that a crash cuts, is what the law asks for.
use Rattle.std.proofs.Common.{◌≡◌, ℕ, zero, suc, Bool, false, List, [], ◌∷◌, Result, Ok, Err, Some, None, refl, sym, ap, ◌∙◌, subst, inl, inr, ⊎_elim, append-nil, arith, slice_get}
use Rattle.atomic_table.specs.Seated.{TableId}
use Rattle.headline.proofs.Common.{Limits, Call, InDoubt, About, Sight, Follow, Sharded, Lead, Opening, IsBeginning, Passed, HaveMet, with_seen, opened_shard, with_next, closed_now, IsTold, Called, Met, Happening, Thread, IsThread, IsMet, IsOneOf, Between, Within, IsInTime, Stretch, IsStretch, Life, ShardEnd, CutAt, IsEnd, IsLife}
use Rattle.whole.proofs.Common.{ServeFault, Known, IsVisitedSo, AreVisitedSo, among, known, World, world, Visited, Closed, CallGives, Visit, Line, IsKeptOrNot, IsVisited, Two, IsIdle, AreOfOpening, AreOpened, HaveMetIn, IsCutTurn, opening_with, Worker, IsWorker, IsLine, AreThreadsOf, AreServing, FirstGives, IsFirstVisited, IsServedOnce, first_visit, line_sent}
use Rattle.answering.specs.Connections.{Unended}
use Rattle.answering.specs.Visits.{IsVisit}
use Rattle.one_life.proofs.Ending.{in_doubt, of_start, told_closed, time}
use Rattle.one_life.proofs.Staying.{idle_as, met_of, own_of}
use Rattle.whole.proofs.Calling.{first_book, second_book, one_idle}
use Rattle.answering.proofs.Seeing.{visit_seen}
use Rattle.whole.proofs.Working.{Crew, crew}
use Rattle.whole.proofs.Wholes.{is_whole}

-- the first pass, of what both shards and passes are
abbrev of_first : {D : Type 0} → Known (Two D) → Known Passed
of_first k = known k.knows.one k.doubt

-- the first visit of a connection, where contracts see both shards of what the pass knows
module _ {D C : Type 0} (ticks : C → ℕ → C → Type 0) (bytes : List ℕ) (come left : Unended) (came : come.came ≡ bytes) (none : come.text ≡ []) where
  seen_first : (w w' : World (Known (Two D)) C) → IsVisitedSo FirstGives ticks w come w' left → IsFirstVisited ticks bytes left (world (of_first w.knows) w.clock) (world (of_first w'.knows) w'.clock)
  seen_first w w' is =
      let before : World (Known Passed) C = world (of_first w.knows) w.clock in
      let after : World (Known Passed) C = world (of_first w'.knows) w'.clock in (
        is.result,
        subst (λ (b : List ℕ). IsVisit (among CallGives) ticks (Some []) (Some left.text) b before left.came after is.result) came
            (subst (λ (t : List ℕ). IsVisit (among CallGives) ticks (Some t) (Some left.text) come.came before left.came after is.result) none
            (visit_seen (of_first {D = D}) (among (FirstGives {D = D})) (among CallGives) (λ doubt k. Unit {0}) (λ doubt k k' call outcome at given. (given, tt)) ticks (λ k. tt) (Some come.text) (Some left.text) come.came w left.came w' is.result is.is)),
      )

  alone : (w w' : World (Known (Two D)) C) (rest : List Unended) → w.knows.doubt ≡ false → AreVisitedSo FirstGives ticks w (come ∷ []) w' (left ∷ rest) → IsFirstVisited ticks bytes left (world (of_first w.knows) w.clock) (world (of_first w'.knows) w'.clock)
  alone w w' (r ∷ rest) sure (start, mid, goes_on, is, never) = absurd never
  alone w w' [] sure (start, mid, goes_on, is, same) =
      let here : start ≡ w.knows = ⊎_elim (λ (e : start ≡ w.knows). e) (λ (e : start ≡ known w.knows.knows false). e ∙ ap (known w.knows.knows) (sym sure)) goes_on in
      seen_first w w' (subst (λ x. IsVisitedSo FirstGives ticks w come x left) (sym same) (subst (λ k. IsVisitedSo FirstGives ticks (world k w.clock) come mid left) here is))

  pub first_visited : (old new : Two D) (clock clock' : C) (doubt : Bool) (olds news rest : List Unended) → olds ≡ come ∷ [] → news ≡ left ∷ rest → AreVisitedSo FirstGives ticks (world (known old false) clock) olds (world (known new doubt) clock') news
      → (doubt : Bool) × IsFirstVisited ticks bytes left (world (known old.one false) clock) (world (known new.one doubt) clock')
  first_visited old new clock clock' doubt olds news rest one some are =
      let w = world (known old false) clock in
      let w' = world (known new doubt) clock' in
      (doubt, alone w w' rest refl (subst (λ l. AreVisitedSo FirstGives ticks w (come ∷ []) w' l) some (subst (λ l. AreVisitedSo FirstGives ticks w l w' news) one are)))

-- ---- both shards and both passes

module _ {D : Type 0} (sight : D → Sight) (follows : D → Type 0) (table : TableId) where
  -- they serve once they are opened
  pub serving_from : (limits : Limits) (capacity : ℕ) (slots : List (List D)) (it : Two D) → AreOpened sight follows limits capacity slots (opening_with it) it → it.first.book.table ≡ table → AreServing sight follows table (opening_with it) it
  serving_from limits capacity slots it opened same = record {
    same_table = same;
    two_shards = opened.shards ∙ opened.two_shards;
    first = of_start sight follows (opening_with it) 0 it.first refl opened.first;
    second = of_start sight follows (opening_with it) 1 it.second refl opened.second;
    one = idle_as (opening_with it) 0 it.one opened.one;
    two = opened.two;
  }

  -- and so they are of their opening
  of_opening : (opening : Opening D) (it : Two D) → AreServing sight follows table opening it → AreOfOpening table opening.about it
  of_opening opening it are = record {
    two_shards = are.two_shards;
    first = first_book sight follows table opening it are;
    second = second_book sight follows table opening it are;
    one = one_idle sight follows table opening it are;
    two = subst (λ (t : TableId). IsIdle t opening.about it.two) are.same_table (idle_as opening 1 it.two are.two);
  }

  -- also once their passes have met
  pub ready_to_cut : (opening : Opening D) (it : Two D) (one two : Passed) → AreServing sight follows table opening it → one ≡ record it.one { caller = with_seen it.one.caller one.caller.seen } → two ≡ record it.two { caller = with_seen it.two.caller two.caller.seen }
      → AreOfOpening table it.first.book.about (record it { one = one; two = two })
  ready_to_cut opening it one two are first second =
      own_of table opening.about (record it { one = one; two = two }) (met_of table opening.about it one two first second (of_opening opening it are))

  pub met_in : (opening : Opening D) (it : Two D) (one two : Passed) → AreServing sight follows table opening it → one ≡ record it.one { caller = with_seen it.one.caller one.caller.seen } → two ≡ record it.two { caller = with_seen it.two.caller two.caller.seen }
      → HaveMet it.one.caller it.two.caller it.one.caller.about.shards one.caller.seen two.caller.seen → HaveMetIn sight follows opening it.one it.two (record it { one = one; two = two })
  met_in opening it one two are first second met = record {
    one = first;
    two = second;
    met = subst (λ (a : About). HaveMet it.one.caller it.two.caller a.shards one.caller.seen two.caller.seen) are.one.same_about met;
  }

-- what is so of the end of each worker's pass is so of the end of its thread
each_end : {C : Type 0} (P : Passed → Type 0) (ws : List (Worker C)) (ts : List Thread) → AreThreadsOf ws ts → ((w : Worker C) → IsOneOf w ws → P w.end) → (t : Thread) → IsOneOf t ts → P t.end
each_end P [] [] are all t one = absurd one
each_end P (w ∷ ws) (u ∷ ts) (is, more) all t (inl e) = subst P (sym (ap (λ (x : Thread). x.end) e ∙ is.end)) (all w (inl refl))
each_end P (w ∷ ws) (u ∷ ts) (is, more) all t (inr one) = each_end P ws ts more (λ v of. all v (inr of)) t one
each_end P ws ts never all t one = absurd never

kept_or_not : (P Q : Type 0) (result : Result Visited ServeFault) → P → Q → IsKeptOrNot result P Q
kept_or_not P Q (Ok Closed) p q = q
kept_or_not P Q (Err fault) p q = q
kept_or_not P Q result p q = p

module _ {D : Type 0} (sight : D → Sight) (follows : D → Type 0) (only_now : (d : D) (c : List ℕ) → follows d → (sight d).left_since (sight d).moment c → (sight d).may_leave c) {C : Type 0} (ticks : C → ℕ → C → Type 0) (limits : Limits) (capacity : ℕ) (slots : List (List D)) (table : TableId)
    (start mid end : Two D) (one two : Passed) (opened : AreOpened sight follows limits capacity slots (opening_with start) start) (serving : AreServing sight follows table (opening_with start) mid) (bytes : List ℕ) (left : Unended) (clock clock' : C) (doubt : Bool) (result : Result Visited ServeFault)
    (visited : IsVisited ticks (first_visit bytes left (world (known start.one false) clock) (world (known mid.one doubt) clock') result)) (meeting : HaveMetIn sight follows (opening_with start) mid.one mid.two (record mid { one = one; two = two })) (last : Call)
    (cut : IsCutTurn sight follows (record mid { one = one; two = two }) end last) where
  abbrev opening : Opening D
  opening = opening_with start

  abbrev visit : Visit C
  visit = first_visit bytes left (world (known start.one false) clock) (world (known mid.one doubt) clock') result

  abbrev ended : Passed
  ended = closed_now (with_next one last)

  abbrev since : List Happening
  since = record { before = mid.one; what = Met mid.two.caller two.caller.seen; after = one } ∷ record { before = one; what = Called last (Err InDoubt); after = ended } ∷ []

  abbrev other_since : List Happening
  other_since = record { before = mid.two; what = Met mid.one.caller one.caller.seen; after = two } ∷ []

  abbrev worker : Worker C
  worker = record { number = 0; visits = visit ∷ []; since = since; end = ended }

  abbrev other : Worker C
  other = record { number = 1; visits = []; since = other_since; end = two }

  abbrev workers : List (Worker C)
  workers = worker ∷ other ∷ []

  of_two : (P : Worker C → Type 0) → P worker → P other → (w : Worker C) → IsOneOf w workers → P w
  of_two P a b w h = ⊎_elim (λ (e : w ≡ worker). subst P (sym e) a) (λ r. ⊎_elim (λ (e : w ≡ other). subst P (sym e) b) (λ (n : ⊥). absurd n) r) h

  one_meets : IsMet opening mid.one mid.two.caller two.caller.seen one
  one_meets = record { pass = meeting.one; met = inl meeting.met }

  two_meets : IsMet opening mid.two mid.one.caller one.caller.seen two
  two_meets = record { pass = meeting.two; met = inr meeting.met }

  worker_is : IsWorker ticks opening worker
  worker_is = record {
    between = known mid.one doubt;
    visits = (inl (ap (λ (p : Passed). known p false) opened.one), visited, refl);
    since = λ lost. (refl, one_meets, (refl, in_doubt one last cut.open, refl));
  }

  other_is : IsWorker ticks opening other
  other_is = record { between = known mid.two false; visits = ap (λ (p : Passed). known p false) serving.two; since = λ lost. (refl, two_meets, refl) }

  are_workers : (w : Worker C) → IsOneOf w workers → IsWorker ticks opening w
  are_workers = of_two (IsWorker ticks opening) worker_is other_is

  abbrev its : Crew ticks opening workers
  its = crew ticks opening workers are_workers

  -- ---- the connection

  abbrev no_visit : List (Visit C)
  no_visit = []

  abbrev no_bytes : List ℕ
  no_bytes = []

  line_is : (sent : List ℕ) → IsBeginning sent left.text → IsLine workers (line_sent visit sent)
  line_is sent is = record {
    joined = (refl, kept_or_not (Unit {0}) ((no_visit ≡ []) × (no_bytes ≡ [])) result tt (refl, refl));
    by_workers = λ v of. of;
    sent = subst (IsBeginning sent) (sym (append-nil left.text)) is;
  }

  lines_are : (sent : List ℕ) → IsBeginning sent left.text → (line : Line C) → IsOneOf line (line_sent visit sent ∷ []) → IsLine workers line
  lines_are sent is line h = ⊎_elim (λ (e : line ≡ line_sent visit sent). subst (IsLine workers) (sym e) (line_is sent is)) (λ (n : ⊥). absurd n) h

  -- ---- the shards

  told_one : (s : Sharded D) → IsTold s.book.shard s.book.items end.one → IsTold s.book.shard s.book.items ended
  told_one s t = told_closed s.book.shard s.book.items (with_next one last) (subst (IsTold s.book.shard s.book.items) cut.one t)

  told_two : (s : Sharded D) → IsTold s.book.shard s.book.items end.two → IsTold s.book.shard s.book.items two
  told_two s t = subst (IsTold s.book.shard s.book.items) cut.two t

  abbrev first_end : Stretch D
  first_end = record { turns = serving.first.turns; moment = Within cut.turn }

  abbrev second_end : Stretch D
  second_end = record { turns = serving.second.turns; moment = Between end.second }

  abbrev ends : List (ShardEnd D)
  ends = CutAt first_end ∷ CutAt second_end ∷ []

  -- with whichever threads are the workers'
  module _ (threads : List Thread) (are_of : AreThreadsOf workers threads) (are_threads : (t : Thread) → IsOneOf t threads → IsThread opening t) where
    first_stretch : Follow follows end.first.log → IsStretch sight follows opening threads 0 first_end
    first_stretch f = record {
      opened = mid.first.opened;
      opened_as = serving.first.opened;
      turned = subst (Lead sight follows (opened_shard opening 0 mid.first.opened) serving.first.turns) (sym cut.from) serving.first.turned;
      moment = cut.made;
      follow = subst (λ (s : Sharded D). Follow follows s.log) (sym cut.to) f;
      in_time = each_end (IsInTime 0 cut.turn.old.book.items) workers threads are_of (of_two (λ w. IsInTime 0 cut.turn.old.book.items w.end)
          (time 0 mid.first cut.turn.old ended serving.first.number cut.from (told_one mid.first cut.first_one))
          (time 0 mid.first cut.turn.old two serving.first.number cut.from (told_two mid.first cut.first_two)));
    }

    second_stretch : Follow follows end.second.log → IsStretch sight follows opening threads 1 second_end
    second_stretch f = record {
      opened = mid.second.opened;
      opened_as = serving.second.opened;
      turned = subst (Lead sight follows (opened_shard opening 1 mid.second.opened) serving.second.turns) (sym cut.second) serving.second.turned;
      moment = tt;
      follow = f;
      in_time = each_end (IsInTime 1 end.second.book.items) workers threads are_of (of_two (λ w. IsInTime 1 end.second.book.items w.end)
          (time 1 mid.second end.second ended serving.second.number cut.second (told_one mid.second cut.second_one))
          (time 1 mid.second end.second two serving.second.number cut.second (told_two mid.second cut.second_two)));
    }

    ends_are : Follow follows end.first.log → Follow follows end.second.log → (k : ℕ) (e : ShardEnd D) → slice_get ends k ≡ Some e → IsEnd sight follows opening threads k e
    ends_are f g zero e h = let same : CutAt first_end ≡ e = cc in subst (IsEnd sight follows opening threads 0) same (first_stretch f)
    ends_are f g (suc zero) e h = let same : CutAt second_end ≡ e = cc in subst (IsEnd sight follows opening threads 1) same (second_stretch g)
    ends_are f g (suc (suc k)) e h = let never : None ≡ Some e = h in absurd (cc)

    lives_with : Follow follows end.first.log → Follow follows end.second.log → IsLife sight follows (record { given = slots; opening = opening; threads = threads; ends = ends })
    lives_with f g = record {
      passes = 2;
      limits = limits;
      capacity = capacity;
      some_shard = let n = opened.two_shards in omega arith;
      shards = opened.shards;
      found = opened.found;
      about = opened.about;
      threads_are = are_threads;
      ends_of_all = sym opened.two_shards;
      ends_are = ends_are f g;
    }

  abbrev the_life : Life D
  the_life = record { given = slots; opening = opening; threads = its.threads; ends = ends }

  lives : Follow follows end.first.log → Follow follows end.second.log → IsLife sight follows the_life
  lives = lives_with its.threads its.are_of its.are_threads

  pub served : IsServedOnce sight follows ticks slots bytes (clock, clock') left.text last end
  served = record {
    life = the_life;
    given_are = refl;
    cut = cut.turn;
    cut_is = cut.to;
    turns = serving.first.turns;
    others = serving.second.turns;
    ends_are = refl;
    visit = visit;
    bytes_are = refl;
    text_is = refl;
    clocks_are = (refl, refl);
    worker = worker;
    visits_are = refl;
    since = (mid.two.caller, two.caller.seen, refl);
    other = other;
    no_visits = refl;
    other_since = (mid.one.caller, one.caller.seen, refl);
    are_workers = are_workers;
    is_line = line_is;
    are_threads = its.are_of;
    is_life = lives;
    lives_with = λ threads are_of are_threads. lives_with threads are_of are_threads;
    is_whole = λ f g sent is. is_whole sight follows only_now ticks slots opening ends workers (line_sent visit sent ∷ []) are_workers (lines_are sent is) (lives f g);
  }
