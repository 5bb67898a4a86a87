-- What is found in the end, after any events.
use Rattle.std.proofs.Common.{◌≡◌, ℕ, zero, suc, ◌+◌, ◌<◌, List, [], ◌∷◌, ◌++◌, length, refl, sym, ap, ◌∙◌, subst, inl, length-append, arith, Option}
use Rattle.std.specs.FinMap as finite
use Rattle.headline.proofs.Common.{Streams, Limits, Ask, Item, History, About, Sight, Wal, place_of, Recovers, Covers, IsAfter, slots_of, AllFollow, AreOpenedFrom, IsLegalAt, base_at, terms_of, history_of, RefusedShard, IsForDeviceOrMemory, IsReplay, Life, ShardEnd, IsLife, AreLeftAt, LogsFollow, writing_at, writing_in, legal_front}
use Rattle.accept.proofs.Meanings.{meaning-nothing}
use Rattle.wal.proofs.OneImage.{one_image}
use Rattle.wal.proofs.Opened.{seen_stay}
use Rattle.split.specs.Maps.{map_at}
use Rattle.split.specs.Splits.{pair_at}
use Rattle.headline.specs.Events.{Splitting, Event, Lived, Refused, Killed, Split, Unsplit, given_to, Makes, AreMade, AllFollowIn, ArePairsLeft, ArePairsLeftSince, AreLeftAfter, WasSplit, IsEvent, AreEvents, AreLeftLast, AreFoundLast, IsRefusedLast, AreHeadlinesOf, IsHeadlineOfEvents}
use Rattle.headline.proofs.Leaving.{covered_left, left_length, given_at}
use Rattle.headline.proofs.Turning.{index_get}
use Rattle.headline.proofs.Telling.{part_of, plain_more}
use Rattle.headline.proofs.Ending.{for_device_or_memory, history_at, histories, replays, says}
use Rattle.headline.proofs.Pairing.{AreAtRest, opened_pair, left_pair, rests_attempt, covers_by, covers_since}

-- a shard of these streams, before any call
abbrev alone : Streams → History
alone m = record { base = m; items = [] }

-- without calls in doubt there is one state
one_state : (limits : Limits) (m n : Streams) → IsAfter limits (alone m) [] n → n ≡ m
one_state limits m n (zero, le, is) = is ∙ meaning-nothing m
one_state limits m n (suc j, le, is) = absurd (omega arith)

two : {A : Type 0} (xs : List A) → length xs ≡ 2 → (a : A) × (b : A) × (xs ≡ a ∷ b ∷ [])
two (a ∷ b ∷ []) e = (a, b, refl)
two xs e = absurd (omega arith)

module _ {D : Type 0} (sight : D → Sight) (follows : D → Type 0) (only_now : (d : D) (c : List ℕ) → follows d → (sight d).left_since (sight d).moment c → (sight d).may_leave c)
    (stay : (d : D) → follows d → (sight d).may_leave (sight d).seen) where
  -- each of n shards has slots that keep a history
  record Keep (limits : Limits) (h : ℕ → History) (doubt : ℕ → List Ask) (n : ℕ) (slots : List (List D)) : Type 0 where
    pub count : length slots ≡ n
    pub covers : (k : ℕ) → k < n → Covers (place_of k n) limits (slots_of sight (pair_at slots k)) (h k) (doubt k)

  -- what was found is after a beginning of the calls in doubt
  abbrev AreAfter : Limits → (ℕ → History) → (ℕ → List Ask) → ℕ → (ℕ → Streams) → Type 0
  AreAfter limits h doubt n found = (k : ℕ) → k < n → IsAfter limits (h k) (doubt k) (found k)

  -- what an event leaves, and what follows of what was there before it from what is found after it
  record IsStep (limits : Limits) (h : ℕ → History) (doubt : ℕ → List Ask) (n : ℕ) (e : Event D) (history : ℕ → List Item) : Type 0 where
    pub limits_then : Limits
    pub then_h : ℕ → History
    pub then_doubt : ℕ → List Ask
    pub then_n : ℕ
    pub keeps : (left : List (List D)) → AreLeftAfter sight follows e left → Keep limits_then then_h then_doubt then_n left
    pub back : (after : ℕ → Streams) → AreAfter limits_then then_h then_doubt then_n after → (between : ℕ → Streams) × AreAfter limits h doubt n between × Makes e history between after

  found_in : (limits : Limits) (h : ℕ → History) (doubt : ℕ → List Ask) (n capacity : ℕ) (left : List (List D)) (logs : List (Wal D)) (states : List Streams) → Keep limits h doubt n left → AreOpenedFrom sight follows (length left) capacity 0 left logs states → LogsFollow sight follows logs → AreAfter limits h doubt n (map_at states)
  found_in limits h doubt n capacity left logs states keep o f k lt =
      let counted = keep.count in
      let one = opened_pair sight follows (length left) capacity k 0 k left logs states (omega arith) o f (omega arith) in
      one.2.covered one.1 limits (h k) (doubt k) (subst (λ (m : ℕ). Covers (place_of k m) limits (slots_of sight (pair_at left k)) (h k) (doubt k)) (sym counted) (keep.covers k lt))

  -- ---- an opening that lived

  module _ (life : Life D) (is : IsLife sight follows life) where
    abbrev about : About
    about = life.opening.about

    abbrev its : ℕ → List Item
    its = histories sight follows only_now life is

    abbrev its_histories : ℕ → History
    its_histories k = history_of about k (its k)

    abbrev its_doubt : ℕ → List Ask
    its_doubt = writing_in life.ends its

    life_keeps : (left : List (List D)) → AreLeftAt sight follows life.ends left → Keep about.limits its_histories its_doubt about.shards left
    life_keeps left crash = record {
      count = left_length sight follows life.ends left crash ∙ is.ends_of_all ∙ sym is.shards;
      covers = λ k lt.
          let g = (history_at sight follows only_now life is k).1 lt in
          subst (λ (o : Option (ShardEnd D)). Covers (place_of k about.shards) about.limits (slots_of sight (pair_at left k)) (its_histories k) (writing_at o (its k))) (sym g.there)
          (g.good.covers (pair_at left k) (left_pair sight follows life.ends left k g.end crash g.there));
    }

    life_makes : (after : ℕ → Streams) → AreAfter about.limits its_histories its_doubt about.shards after → Makes (Lived life) its (base_at about) after
    life_makes after found k lt =
        let counted = is.shards in
        let here : k < about.shards = omega arith in
        let r : IsReplay about life.threads k (its k) (its_doubt k) (after k) = replays sight follows only_now life is k here (after k) (found k here) in
        let known = (says sight follows only_now life is).each_shards_calls k here in
        let legal : IsLegalAt about k r.beginning = legal_front about k r.beginning (its k) r.a_beginning_of_that_history known.0 in
        record {
          base = refl;
          part = record { beginning = r.beginning; more = r.more };
          part_is = part_of life k its (after k) r;
          the_state_after = r.the_state_after ∙ plain_more (terms_of about k) (base_at about k) r.beginning r.more (alone (base_at about k)) legal.is (meaning-nothing (base_at about k));
        }

    life_found : (limits : Limits) (h : ℕ → History) (doubt : ℕ → List Ask) (n : ℕ) → Keep limits h doubt n life.given → AreAfter limits h doubt n (base_at about)
    life_found limits h doubt n keep k lt =
        let counted = keep.count in
        let shards = is.shards in
        let g = ((history_at sight follows only_now life is k).1 (omega arith)).good in
        let at = given_at sight follows (length life.given) is.capacity k life.given life.opening.logs about.bases g.opened is.found g.opened_as in
        let pair : pair_at life.given k ≡ at.0 = index_get life.given k [] at.0 at.4 in
        let base : base_at about k ≡ at.1 = index_get about.bases k finite.empty at.1 at.2 in
        subst (IsAfter limits (h k) (doubt k)) (sym base) (at.3.covered g.follow limits (h k) (doubt k)
        (subst (λ (l : List D). Covers (place_of k (length life.given)) limits (slots_of sight l) (h k) (doubt k)) pair
        (subst (λ (m : ℕ). Covers (place_of k m) limits (slots_of sight (pair_at life.given k)) (h k) (doubt k)) (sym counted) (keep.covers k lt))))

  -- ---- any event

  -- the shards of events that wrote nothing keep what they kept
  kept_by : (limits : Limits) (h : ℕ → History) (doubt : ℕ → List Ask) (n : ℕ) (given backs left : List (List D)) → Keep limits h doubt n given → AreAtRest sight follows given backs → AllFollowIn sight follows backs → ArePairsLeft sight follows backs left → Keep limits h doubt n left
  kept_by limits h doubt n given backs left keep r f l =
      let counted = keep.count in
      let came = r.count in
      record {
        count = l.count ∙ came ∙ counted;
        covers = λ k lt.
            let in_given : k < length given = omega arith in
            let in_backs : k < length backs = omega arith in
            covers_by sight follows (place_of k n) limits (pair_at given k) (pair_at backs k) (pair_at left k) (h k) (doubt k) (r.each k in_given) (f k in_backs) (keep.covers k lt) (l.each k in_backs);
      }

  kept_since : (limits : Limits) (h : ℕ → History) (doubt : ℕ → List Ask) (n : ℕ) (given backs left : List (List D)) → Keep limits h doubt n given → AreAtRest sight follows given backs → AllFollowIn sight follows backs → ArePairsLeftSince sight follows given backs left → Keep limits h doubt n left
  kept_since limits h doubt n given backs left keep r f l =
      let counted = keep.count in
      let came = r.count in
      record {
        count = l.count ∙ counted;
        covers = λ k lt.
            let in_given : k < length given = omega arith in
            let in_backs : k < length backs = omega arith in
            covers_since sight follows (place_of k n) limits (pair_at given k) (pair_at backs k) (pair_at left k) (h k) (doubt k) (r.each k in_given) (f k in_backs) (keep.covers k lt) (l.each k in_given);
      }

  -- the history of an opening that lived; no other event has one
  abbrev history_in : (e : Event D) → IsEvent sight follows e → ℕ → List Item
  history_in (Lived life) is = its life is
  history_in e is = λ k. []

  module _ (limits : Limits) (h : ℕ → History) (doubt : ℕ → List Ask) (n : ℕ) where
    -- what an old shard was read as
    old_found : (s : Splitting D) → Keep limits h doubt n s.old → (w : WasSplit sight follows s) → AreAfter limits h doubt n w.are_split.division.olds
    old_found s keep w k lt =
        let counted = keep.count in
        let came = w.old.count in
        let in_old : k < length s.old = omega arith in
        let in_back : k < length s.old_back = omega arith in
        let d = w.are_split.division in
        let follow = w.old.follow k in_back in
        let pair = two (pair_at s.old k) (w.two_slots k in_old) in
        let p = slots_of sight (pair_at s.old k) in
        let at = subst (AllFollow follows) pair.2 ((w.old.rests k in_old).before follow) in
        let there = seen_stay sight (pair_at s.old k) pair.0 pair.1 pair.2 (stay pair.0 at.0) (stay pair.1 at.1.0) in
        let covered = keep.covers k lt p.first.seen p.second.seen there.0 there.1 in (
          covered.0,
          covered.1,
          one_image (place_of k n) p.first.seen p.second.seen (d.olds k) _ (subst (λ (m : ℕ). Recovers (place_of k m) p.first.seen p.second.seen (d.olds k)) counted ((d.read k in_old).recovers follow)) covered.2,
        )

    split_step : (s : Splitting D) (history : ℕ → List Item) → Keep limits h doubt n s.old → (w : WasSplit sight follows s) → IsStep limits h doubt n (Split s) history
    split_step s history keep w =
        let d = w.are_split.division in
        record {
          limits_then = limits;
          then_h = λ k. alone (d.news k);
          then_doubt = λ k. [];
          then_n = length s.new;
          keeps = λ left l. record {
            count = l.count ∙ w.count;
            covers = λ k lt.
                let came = w.count in
                let in_back : k < length s.new_back = omega arith in
                let started = w.are_split.started k lt in
                let holds : Covers (place_of k (length s.new)) limits (slots_of sight (pair_at s.new_back k)) (alone (d.news k)) [] = λ a b x y. (
                  0,
                  omega arith,
                  subst (Recovers (place_of k (length s.new)) a b) (sym (meaning-nothing (d.news k))) (started.keeps (w.follow k in_back) a b x y),
                ) in
                covered_left sight follows (place_of k (length s.new)) limits (pair_at s.new_back k) (pair_at left k) (alone (d.news k)) [] (l.each k in_back) holds;
          };
          back = λ after found. (
            d.olds,
            old_found s keep w,
            λ i k lt. ap (λ (m : Streams). finite.get m k) (one_state limits (d.news i) (after i) (found i lt)) ∙ d.split i k lt,
          );
        }

    same_step : (e : Event D) (history : ℕ → List Item) → ((left : List (List D)) → AreLeftAfter sight follows e left → Keep limits h doubt n left) → ((after : ℕ → Streams) → Makes e history after after) → IsStep limits h doubt n e history
    same_step e history keeps makes = record {
      limits_then = limits;
      then_h = h;
      then_doubt = doubt;
      then_n = n;
      keeps = keeps;
      back = λ after found. (after, found, makes after);
    }

    step : (e : Event D) → (is : IsEvent sight follows e) → Keep limits h doubt n (given_to e) → IsStep limits h doubt n e (history_in e is)
    step (Lived life) is keep = record {
      limits_then = life.opening.about.limits;
      then_h = its_histories life is;
      then_doubt = its_doubt life is;
      then_n = life.opening.about.shards;
      keeps = life_keeps life is;
      back = λ after found. (base_at life.opening.about, life_found life is limits h doubt n keep, life_makes life is after found);
    }
    step (Refused a) is keep = same_step (Refused a) _ (λ left l. kept_by limits h doubt n a.given a.backs left keep (rests_attempt sight follows only_now a (inl is.0)) is.1 l) (λ after k lt. refl)
    step (Killed a) is keep = same_step (Killed a) _ (λ left l. kept_since limits h doubt n a.given a.backs left keep (rests_attempt sight follows only_now a is.0) is.1 l) (λ after k lt. refl)
    step (Split s) is keep = split_step s _ keep is
    step (Unsplit s) is keep = same_step (Unsplit s) _ (λ left l. kept_since limits h doubt n s.old s.old_back left keep (record { count = is.count; each = is.rests }) is.follow l) (λ after k lt. refl)

  -- ---- events one after another

  abbrev all_histories : (e : Event D) (events : List (Event D)) → AreEvents sight follows e events → List (ℕ → List Item)
  all_histories e [] are = history_in e are ∷ []
  all_histories e (f ∷ events) are = history_in e are.0 ∷ all_histories f events are.2

  -- what is found in the end was made of what the first event began with
  goes_on : (limits : Limits) (h : ℕ → History) (doubt : ℕ → List Ask) (n : ℕ) (e : Event D) (events : List (Event D)) (are : AreEvents sight follows e events) → Keep limits h doubt n (given_to e) → (states : List Streams) → AreFoundLast sight follows e events states
      → (between : ℕ → Streams) × AreAfter limits h doubt n between × AreMade (e ∷ events) (all_histories e events are) between (map_at states)
  goes_on limits h doubt n e [] are keep states found =
      let s = step limits h doubt n e are keep in
      let now = found_in s.limits_then s.then_h s.then_doubt s.then_n found.capacity found.left found.logs states (s.keeps found.left found.crash) found.found found.follow in
      let b = s.back (map_at states) now in
      (b.0, b.1, (map_at states, b.2, λ k. refl))
  goes_on limits h doubt n e (f ∷ events) are keep states found =
      let s = step limits h doubt n e are.0 keep in
      let rest = goes_on s.limits_then s.then_h s.then_doubt s.then_n f events are.2 (s.keeps (given_to f) are.1) states (record { left = found.left; crash = found.crash; capacity = found.capacity; logs = found.logs; found = found.found; follow = found.follow }) in
      let b = s.back rest.0 rest.1 in
      (b.0, b.1, (rest.0, b.2, rest.2))

  -- what is left in the end keeps some history
  record IsKept (left : List (List D)) : Type 0 where
    pub limits : Limits
    pub h : ℕ → History
    pub doubt : ℕ → List Ask
    pub n : ℕ
    pub keep : Keep limits h doubt n left

  kept_on : (limits : Limits) (h : ℕ → History) (doubt : ℕ → List Ask) (n : ℕ) (e : Event D) (events : List (Event D)) → AreEvents sight follows e events → Keep limits h doubt n (given_to e) → (left : List (List D)) → AreLeftLast sight follows e events left → IsKept left
  kept_on limits h doubt n e [] are keep left crash =
      let s = step limits h doubt n e are keep in
      record { limits = s.limits_then; h = s.then_h; doubt = s.then_doubt; n = s.then_n; keep = s.keeps left crash }
  kept_on limits h doubt n e (f ∷ events) are keep left crash =
      let s = step limits h doubt n e are.0 keep in
      kept_on s.limits_then s.then_h s.then_doubt s.then_n f events are.2 (s.keeps (given_to f) are.1) left crash

  pair_there : (front : List (List D)) (x : List D) (behind : List (List D)) → pair_at (front ++ x ∷ behind) (length front) ≡ x
  pair_there [] x behind = refl
  pair_there (y ∷ front) x behind = pair_there front x behind

  gives : (e : Event D) (events : List (Event D)) (k : ℕ) (shown : RefusedShard) (r : IsRefusedLast sight follows e events k shown) → IsKept r.left → IsForDeviceOrMemory shown
  gives e events k shown r kept =
      let f = r.refused in
      let counted = kept.keep.count in
      let parts : length r.left ≡ length f.front + suc (length f.behind) = ap length f.all_are ∙ length-append f.front (f.given ∷ f.behind) in
      let number : length f.front ≡ k = f.number in
      let pair : pair_at r.left k ≡ f.given = ap (λ (i : ℕ). pair_at r.left i) (sym number) ∙ ap (λ (l : List (List D)). pair_at l (length f.front)) f.all_are ∙ pair_there f.front f.given f.behind in
      let covers = subst (λ (l : List D). Covers (place_of k (length r.left)) kept.limits (slots_of sight l) (kept.h k) (kept.doubt k)) pair
      (subst (λ (m : ℕ). Covers (place_of k m) kept.limits (slots_of sight (pair_at r.left k)) (kept.h k) (kept.doubt k)) (sym counted) (kept.keep.covers k (omega arith))) in
      for_device_or_memory shown (slots_of sight f.given) (slots_of sight f.back) r.before r.after f.refusal.counted (f.refusal.covered r.follow kept.limits (kept.h k) (kept.doubt k) covers)

  -- ---- from the first opening on

  first_made : (life : Life D) (events : List (Event D)) (are : AreEvents sight follows (Lived life) events) (states : List Streams) → AreFoundLast sight follows (Lived life) events states
      → AreMade (Lived life ∷ events) (all_histories (Lived life) events are) (base_at life.opening.about) (map_at states)
  first_made life [] are states found =
      let now = found_in life.opening.about.limits (its_histories life are) (its_doubt life are) life.opening.about.shards found.capacity found.left found.logs states (life_keeps life are found.left found.crash) found.found found.follow in
      (map_at states, life_makes life are (map_at states) now, λ k. refl)
  first_made life (f ∷ events) are states found =
      let rest = goes_on life.opening.about.limits (its_histories life are.0) (its_doubt life are.0) life.opening.about.shards f events are.2 (life_keeps life are.0 (given_to f) are.1) states
      (record { left = found.left; crash = found.crash; capacity = found.capacity; logs = found.logs; found = found.found; follow = found.follow }) in
      (rest.0, life_makes life are.0 rest.0 rest.1, rest.2)

  first_kept : (life : Life D) (events : List (Event D)) → AreEvents sight follows (Lived life) events → (left : List (List D)) → AreLeftLast sight follows (Lived life) events left → IsKept left
  first_kept life [] are left crash = record { limits = life.opening.about.limits; h = its_histories life are; doubt = its_doubt life are; n = life.opening.about.shards; keep = life_keeps life are left crash }
  first_kept life (f ∷ events) are left crash = kept_on life.opening.about.limits (its_histories life are.0) (its_doubt life are.0) life.opening.about.shards f events are.2 (life_keeps life are.0 (given_to f) are.1) left crash

  headlines : (e : Event D) (events : List (Event D)) (are : AreEvents sight follows e events) → AreHeadlinesOf sight follows (e ∷ events) (all_histories e events are)
  headlines (Lived life) [] are = (says sight follows only_now life are, tt)
  headlines (Lived life) (f ∷ events) are = (says sight follows only_now life are.0, headlines f events are.2)
  headlines e [] are = tt
  headlines e (f ∷ events) are = headlines f events are.2

  pub events_say : (first : Life D) (events : List (Event D)) → AreEvents sight follows (Lived first) events → IsHeadlineOfEvents sight follows first events
  events_say first events are = record {
    histories = all_histories (Lived first) events are;
    each = headlines (Lived first) events are;
    whatever_crash_comes = first_made first events are;
    replay_gives = λ k r refused. gives (Lived first) events k r refused (first_kept first events are refused.left refused.crash);
  }
