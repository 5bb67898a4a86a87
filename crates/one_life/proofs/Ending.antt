-- What was promised of two shards, up to a turn that a crash cuts, is a life.
use Rattle.std.proofs.Common.{◌≡◌, ℕ, zero, suc, true, false, List, [], ◌∷◌, refl, sym, ap, ◌∙◌, subst, inl, inr, ⊎_elim, arith, Some, None, slice_get, Result, Ok, Err}
use Rattle.std.specs.Result.{IsErrOf}
use Rattle.headline.proofs.Common.{Limits, Call, Reply, CallFault, PassClosed, InDoubt, Item, Sight, Wal, Follow, Sharded, Turn, Opening, Passed, is_closed_pass, IsMade, IsOf, opened_shard, IsGiven, with_next, closed_now, IsTold, Called, Met, Thread, IsThread, IsMet, IsOneOf, Between, Within, IsInTime, Stretch, IsStretch, ShardEnd, CutAt, IsEnd, false≢true}
use Rattle.owners.proofs.Turning.{turn_of}
use Rattle.headline.proofs.Owning.{in_time_told}
use Rattle.one_life.specs.declared.opening.Two.{Two}
use Rattle.one_life.specs.Cut.{AreOpened, IsMadeBy, HaveMetIn, IsCutTurn, IsCutOnce}

-- a call in doubt was not refused
not_refused : (a b : Result Reply CallFault) → a ≡ Err InDoubt → b ≡ Err PassClosed → a ≡ b → ⊥
not_refused a b x y e = cc

-- a call of whose outcome nobody learned is in doubt, and stays open
pub in_doubt : (pass : Passed) (call : Call) → is_closed_pass pass ≡ false → IsGiven pass call (Err InDoubt) (closed_now (with_next pass call))
in_doubt pass call up = record {
  answered = tt;
  refused = inr refl;
  closed = (
    λ (e : IsErrOf {T = Reply} {E = CallFault} (Err InDoubt) PassClosed). absurd (not_refused (Err InDoubt) (Err PassClosed) refl refl e),
    λ (e : is_closed_pass pass ≡ true). absurd (false≢true (sym up ∙ e)),
  );
}

-- a shard before any turn
pub of_start : {D : Type 0} (sight : D → Sight) (follows : D → Type 0) (opening : Opening D) (k : ℕ) (s : Sharded D) → slice_get opening.logs k ≡ Some s.opened → s ≡ opened_shard opening k s.opened → IsOf sight follows opening k s
of_start {D = D} sight follows opening k s there is = record {
  table = ap (λ (x : Sharded D). x.book.table) is;
  about = ap (λ (x : Sharded D). x.book.about) is;
  number = ap (λ (x : Sharded D). x.book.shard) is;
  opened = there;
  turns = [];
  turned = is;
}

-- the same is told of a pass that was closed
pub told_closed : (k : ℕ) (items : List Item) (pass : Passed) → IsTold k items pass → IsTold k items (closed_now pass)
told_closed k items pass t = record { begins = t.begins; steps = t.steps }

-- a pass that was compared with a shard is in time with it
pub time : {D : Type 0} (k : ℕ) (s t : Sharded D) (pass : Passed) → s.book.shard ≡ k → t ≡ s → IsTold s.book.shard s.book.items pass → IsInTime k t.book.items pass
time {D = D} k s t pass number same told = in_time_told pass k t.book.items (subst (λ (x : Sharded D). IsTold k x.book.items pass) (sym same) (subst (λ (j : ℕ). IsTold j s.book.items pass) number told))

module _ {D : Type 0} (sight : D → Sight) (follows : D → Type 0) (limits : Limits) (capacity : ℕ) (slots : List (List D)) (opening : Opening D)
    (start before end : Two D) (opened : AreOpened sight follows limits capacity slots opening start) (called answered : Passed) (first second last : Call) (reply other : Reply)
    (one : IsMadeBy sight follows start.first before.first start.one first reply called) (two : IsMadeBy sight follows start.second before.second start.two second other answered)
    (meeting : HaveMetIn sight follows opening called answered before)
    (cut : IsCutTurn sight follows before end last) where
  abbrev ended : Passed
  ended = closed_now (with_next before.one last)

  abbrev pub thread : Thread
  thread = record {
    number = 0;
    happened =
        record { before = start.one; what = Called first (Ok reply); after = called }
        ∷ record { before = called; what = Met answered.caller before.two.caller.seen; after = before.one }
        ∷ record { before = before.one; what = Called last (Err InDoubt); after = ended }
        ∷ [];
    end = ended;
  }

  abbrev pub other_thread : Thread
  other_thread = record {
    number = 1;
    happened =
        record { before = start.two; what = Called second (Ok other); after = answered }
        ∷ record { before = answered; what = Met called.caller before.one.caller.seen; after = before.two }
        ∷ [];
    end = before.two;
  }

  abbrev threads : List Thread
  threads = thread ∷ other_thread ∷ []

  of_two : (P : Thread → Type 0) → P thread → P other_thread → (t : Thread) → IsOneOf t threads → P t
  of_two P a b t h = ⊎_elim (λ (e : t ≡ thread). subst P (sym e) a) (λ r. ⊎_elim (λ (e : t ≡ other_thread). subst P (sym e) b) (λ (n : ⊥). absurd n) r) h

  one_meets : IsMet opening called answered.caller before.two.caller.seen before.one
  one_meets = record { pass = meeting.one; met = inl meeting.met }

  two_meets : IsMet opening answered called.caller before.one.caller.seen before.two
  two_meets = record { pass = meeting.two; met = inr meeting.met }

  thread_is : IsThread opening thread
  thread_is = record { happen = (opened.one, one.given, (refl, one_meets, (refl, in_doubt before.one last cut.open, refl))) }

  other_is : IsThread opening other_thread
  other_is = record { happen = (opened.two, two.given, (refl, two_meets, refl)) }

  -- ---- both shards

  first_there : slice_get opening.logs 0 ≡ Some start.first.opened
  first_there = ap (λ (l : List (Wal D)). slice_get l 0) opened.logs

  second_there : slice_get opening.logs 1 ≡ Some start.second.opened
  second_there = ap (λ (l : List (Wal D)). slice_get l 1) opened.logs

  made_of : (k : ℕ) (old new : Sharded D) (turn : Turn D) → turn.old ≡ old → turn.new ≡ new → IsMade sight follows turn → IsOf sight follows opening k old → IsOf sight follows opening k new
  made_of k old new turn from to made is = subst (IsOf sight follows opening k) to (turn_of sight follows opening turn k made (subst (IsOf sight follows opening k) (sym from) is))

  first_of : IsOf sight follows opening 0 before.first
  first_of = made_of 0 start.first before.first one.turn one.from one.to one.made (of_start sight follows opening 0 start.first first_there opened.first)

  second_of : IsOf sight follows opening 1 before.second
  second_of = made_of 1 start.second before.second two.turn two.from two.to two.made (of_start sight follows opening 1 start.second second_there opened.second)

  one_told : (s : Sharded D) → IsTold s.book.shard s.book.items end.one → IsTold s.book.shard s.book.items ended
  one_told s t = told_closed s.book.shard s.book.items (with_next before.one last) (subst (IsTold s.book.shard s.book.items) cut.one t)

  two_told : (s : Sharded D) → IsTold s.book.shard s.book.items end.two → IsTold s.book.shard s.book.items before.two
  two_told s t = subst (IsTold s.book.shard s.book.items) cut.two t

  abbrev first_end : Stretch D
  first_end = record { turns = one.turn ∷ []; moment = Within cut.turn }

  abbrev second_end : Stretch D
  second_end = record { turns = two.turn ∷ []; moment = Between end.second }

  first_stretch : Follow follows end.first.log → IsStretch sight follows opening threads 0 first_end
  first_stretch f = record {
    opened = start.first.opened;
    opened_as = first_there;
    turned = (one.from ∙ opened.first, one.made, cut.from ∙ sym one.to);
    moment = cut.made;
    follow = subst (λ (s : Sharded D). Follow follows s.log) (sym cut.to) f;
    in_time = of_two (λ t. IsInTime 0 cut.turn.old.book.items t.end)
        (time 0 before.first cut.turn.old ended first_of.number cut.from (one_told before.first cut.first_one))
        (time 0 before.first cut.turn.old before.two first_of.number cut.from (two_told before.first cut.first_two));
  }

  second_stretch : Follow follows end.second.log → IsStretch sight follows opening threads 1 second_end
  second_stretch f = record {
    opened = start.second.opened;
    opened_as = second_there;
    turned = (two.from ∙ opened.second, two.made, cut.second ∙ sym two.to);
    moment = tt;
    follow = f;
    in_time = of_two (λ t. IsInTime 1 end.second.book.items t.end)
        (time 1 before.second end.second ended second_of.number cut.second (one_told before.second cut.second_one))
        (time 1 before.second end.second before.two second_of.number cut.second (two_told before.second cut.second_two));
  }

  abbrev ends : List (ShardEnd D)
  ends = CutAt first_end ∷ CutAt second_end ∷ []

  ends_are : Follow follows end.first.log → Follow follows end.second.log → (k : ℕ) (e : ShardEnd D) → slice_get ends k ≡ Some e → IsEnd sight follows opening threads k e
  ends_are f g zero e h = let same : CutAt first_end ≡ e = cc in subst (IsEnd sight follows opening threads 0) same (first_stretch f)
  ends_are f g (suc zero) e h = let same : CutAt second_end ≡ e = cc in subst (IsEnd sight follows opening threads 1) same (second_stretch g)
  ends_are f g (suc (suc k)) e h = let never : None ≡ Some e = h in absurd (cc)

  pub cut_life : IsCutOnce sight follows slots first second last (reply, other) end
  cut_life = record {
    life = record { given = slots; opening = opening; threads = threads; ends = ends };
    is_life = λ f g. record {
      passes = 2;
      limits = limits;
      capacity = capacity;
      some_shard = let n = opened.two_shards in omega arith;
      shards = opened.shards;
      found = opened.found;
      about = opened.about;
      threads_are = of_two (IsThread opening) thread_is other_is;
      ends_of_all = sym opened.two_shards;
      ends_are = ends_are f g;
    };
    given_are = refl;
    cut = cut.turn;
    cut_is = cut.to;
    one = one.turn;
    other = two.turn;
    ends_are = refl;
    thread = thread;
    other_thread = other_thread;
    threads_are = refl;
    happened = (answered.caller, before.two.caller.seen, refl);
    also_happened = (called.caller, before.one.caller.seen, refl);
  }
