-- The headline of an opening, until it is closed or cut.
use Rattle.std.proofs.Common.{◌≡◌, ℕ, suc, ◌+◌, ◌<◌, ◌≤◌, List, [], ◌∷◌, true, length, refl, inl, inr, ◌⊎◌, sym, ap, ◌∙◌, subst, ⊎_elim, arith, Option, Some, None, length-append, slice_get}
use Rattle.std.proofs.lemmas.Option.{slice_get_cases}
use Rattle.headline.proofs.Common.{Streams, Item, Sight, Wal, OpenFault, ShardPlace, Opening, is_marked, place_of, Device, Memory, Follow, slots, Pair, HasFailed, HasNoFailure, Recovers, Covers, IsAfter, slots_of, CountsCause, base_at, history_of, doubt_of, fresh_book, opened_shard, IsHandedOut, Thread, last_passes, RefusedShard, IsForDeviceOrMemory, IsReplay, shard_then, Life, ShardEnd, HandedOut, CutAt, IsLife, IsEnd, WereRead, HasFailedSince, MayBeReplayed, MayBeRefused, IsHeadlineOf, failures_of, slots_then, LeftAt, AreLeftAt, writing_at, writing_in}
use Rattle.wal.proofs.OneImage.{settled_seen}
use Rattle.headline.proofs.Leaving.{covered_left, found_at, left_length, left_at, opened_at, given_at}
use Rattle.headline.proofs.Marking.{lead_marks, lead_follows, fresh_marks, follow_before}
use Rattle.headline.proofs.Saying.{IsKnown, end_among, says as said}
use Rattle.headline.proofs.Turning.{index_get, stretch_rests, stretch_covers}
use Rattle.headline.proofs.Having.{thread_told}

both_same : (old new : Pair) → HasNoFailure old new → failures_of new ≡ failures_of old
both_same old new h = λ i. (h.0 i, h.1 i)

both_differ : (old new : Pair) → HasFailed old new → failures_of new ≡ failures_of old → ⊥
both_differ old new (inl f) e = f (ap (λ (c : ℕ × ℕ). c.0) e)
both_differ old new (inr f) e = f (ap (λ (c : ℕ × ℕ). c.1) e)

-- a shard is refused for one of two causes, each with its counts
pub for_device_or_memory : (r : RefusedShard) (old new : Pair) → r.failures_before ≡ failures_of old → r.failures_after ≡ failures_of new → CountsCause r.fault old new → (r.fault ≡ Device) ⊎ (r.fault ≡ Memory) → IsForDeviceOrMemory r
for_device_or_memory r old new before after counted cause = ⊎_elim
    (λ (e : r.fault ≡ Device). inl (e, λ same. both_differ old new (subst (λ (x : OpenFault). CountsCause x old new) e counted) (sym after ∙ same ∙ before)))
    (λ (e : r.fault ≡ Memory). inr (e, after ∙ both_same old new (subst (λ (x : OpenFault). CountsCause x old new) e counted) ∙ sym before))
    cause

module _ {D : Type 0} (sight : D → Sight) (follows : D → Type 0) (only_now : (d : D) (c : List ℕ) → follows d → (sight d).left_since (sight d).moment c → (sight d).may_leave c)
    (lived : Life D) (life : IsLife sight follows lived) where
  abbrev given : List (List D)
  given = lived.given

  abbrev opening : Opening D
  opening = lived.opening

  abbrev threads : List Thread
  threads = lived.threads

  abbrev ends : List (ShardEnd D)
  ends = lived.ends

  -- the history of a shard at its end
  pub record IsGood (k : ℕ) (end : ShardEnd D) (items : List Item) : Type 0 where
    pub known : IsKnown opening threads k items
    pub covers : (left : List D) → LeftAt sight follows end left → Covers (place_of k opening.about.shards) opening.about.limits (slots_of sight left) (history_of opening.about k items) (writing_at (Some end) items)
    pub opened : Wal D
    pub opened_as : slice_get opening.logs k ≡ Some opened
    pub follow : Follow follows opened
    pub marks : is_marked items ≡ true → HasFailed (slots sight opened) (slots_then sight follows end)

  pub good_end : (k : ℕ) (end : ShardEnd D) → IsEnd sight follows opening threads k end → (items : List Item) × IsGood k end items
  good_end k (HandedOut it) is =
      let out : IsHandedOut sight follows opening (last_passes threads) k it = is.0 in (
        out.items,
        record {
          known = record { legal = out.legal; by_passes = out.by_passes; told = λ t h. let i = end_among t threads h in out.told i.0 t.end i.1 };
          covers = λ left l. covered_left sight follows (place_of k opening.about.shards) opening.about.limits it.0 left (history_of opening.about k out.items) (doubt_of out.items) l (out.covers is.1);
          opened = out.opened;
          opened_as = out.opened_as;
          follow = out.before is.1;
          marks = λ e. out.failed (out.marked_is ∙ e);
        },
      )
  good_end k (CutAt st) is = (
    (shard_then st.moment).book.items,
    let o = opened_at sight follows (length given) life.capacity k given opening.logs opening.about.bases is.opened life.found is.opened_as in
        let rests = stretch_rests sight follows only_now opening threads (length given) life.capacity k st is life.shards o in
        record {
          known = record { legal = rests.legal; by_passes = rests.by_passes; told = λ t h. thread_told opening t k (shard_then st.moment).book.items (life.threads_are t h) rests.legal (is.in_time t h) };
          covers = λ left l. stretch_covers sight follows only_now opening threads (length given) life.capacity k st left is life.shards o l;
          opened = is.opened;
          opened_as = is.opened_as;
          follow = lead_follows sight follows (opened_shard opening k is.opened) (shard_then st.moment) st.turns is.turned (follow_before sight follows st.moment is.moment is.follow);
          marks = (lead_marks sight follows is.opened (opened_shard opening k is.opened) (shard_then st.moment) st.turns (fresh_marks sight follows is.opened (fresh_book opening.table opening.about k) refl) is.turned).marked;
        },
  )

  pub record IsGoodAt (k : ℕ) (items : List Item) : Type 0 where
    pub end : ShardEnd D
    pub there : slice_get ends k ≡ Some end
    pub good : IsGood k end items

  pub history_at : (k : ℕ) → (items : List Item) × (k < opening.about.shards → IsGoodAt k items)
  history_at k = ⊎_elim
      (λ (t : (end : ShardEnd D) × (k < length ends) × (slice_get ends k ≡ Some end) × _).
      let g = good_end k t.0 (life.ends_are k t.0 t.2) in
      (g.0, λ lt. record { end = t.0; there = t.2; good = g.1 }))
      (λ (t : (length ends ≤ k) × (slice_get ends k ≡ None)). ([], λ lt. absurd (let all = life.ends_of_all in let shards = life.shards in let le = t.0 in omega arith)))
      (slice_get_cases ends k).1

  abbrev pub histories : ℕ → List Item
  histories k = (history_at k).0

  pub some_shard : 0 < opening.about.shards
  some_shard = let a = life.some_shard in let b = life.shards in omega arith

  after : (k : ℕ) → k < opening.about.shards → (state : Streams) → MayBeReplayed sight follows ends k state → IsAfter opening.about.limits (history_of opening.about k (histories k)) (writing_in ends histories k) state
  after k lt state r =
      let g = (history_at k).1 lt in
      let found = found_at sight follows (length r.left) r.capacity k ends r.left r.logs r.states g.end state r.crash r.found r.follow g.there r.there in
      let counted : opening.about.shards ≡ length r.left = life.shards ∙ sym life.ends_of_all ∙ sym (left_length sight follows ends r.left r.crash) in
      let covers = subst (λ (n : ℕ). Covers (place_of k n) opening.about.limits (slots_of sight found.left) (history_of opening.about k (histories k)) (writing_at (Some g.end) (histories k))) counted (g.good.covers found.left found.crash) in
      subst (λ (o : Option (ShardEnd D)). IsAfter opening.about.limits (history_of opening.about k (histories k)) (writing_at o (histories k)) state) (sym g.there)
      (found.opened.covered found.follow opening.about.limits (history_of opening.about k (histories k)) (writing_at (Some g.end) (histories k)) covers)

  -- what each shard began with stood in its slots
  reads : (k : ℕ) → k < opening.about.shards → WereRead sight follows lived k (base_at opening.about k)
  reads k lt =
      let g = ((history_at k).1 lt).good in
      let at = given_at sight follows (length given) life.capacity k given opening.logs opening.about.bases g.opened life.found g.opened_as in
      let from = at.3 in
      let base : at.1 ≡ base_at opening.about k = sym (index_get opening.about.bases k _ at.1 at.2) in
      let rests = from.rests g.follow in
      record {
        given = at.0;
        given_as = at.4;
        stood = subst (Recovers (place_of k (length given)) (slots_of sight at.0).first.seen (slots_of sight at.0).second.seen) base
            (subst (λ (a : List ℕ). Recovers (place_of k (length given)) a (slots_of sight at.0).second.seen at.1) rests.first.same
            (subst (λ (b : List ℕ). Recovers (place_of k (length given)) (slots sight g.opened).first.seen b at.1) rests.second.same
            (subst (λ (w : ShardPlace). Recovers w (slots sight g.opened).first.seen (slots sight g.opened).second.seen at.1) from.same_owner (settled_seen sight g.opened at.1 (from.settled g.follow)))));
      }

  marks : (k : ℕ) → k < opening.about.shards → is_marked (histories k) ≡ true → HasFailedSince sight follows lived k
  marks k lt e =
      let at = (history_at k).1 lt in
      record { opened = at.good.opened; opened_as = at.good.opened_as; end = at.end; ended_as = at.there; failed = at.good.marks e }

  -- the slots of a shard that is refused keep its history, so they have no fault
  gives : (k : ℕ) (r : RefusedShard) → MayBeRefused sight follows ends k r → IsForDeviceOrMemory r
  gives k shown r =
      let f = r.refused in
      let counted : opening.about.shards ≡ length r.left = life.shards ∙ sym life.ends_of_all ∙ sym (left_length sight follows ends r.left r.crash) in
      let parts : length r.left ≡ length f.front + suc (length f.behind) = ap length f.all_are ∙ length-append f.front (f.given ∷ f.behind) in
      let number : length f.front ≡ k = f.number in
      let g = (history_at k).1 (omega arith) in
      let crash : LeftAt sight follows g.end f.given = left_at sight follows ends f.front f.behind f.given g.end (subst (AreLeftAt sight follows ends) f.all_are r.crash) (ap (slice_get ends) number ∙ g.there) in
      let covers = subst (λ (n : ℕ). Covers (place_of k n) opening.about.limits (slots_of sight f.given) (history_of opening.about k (histories k)) (writing_at (Some g.end) (histories k))) counted (g.good.covers f.given crash) in
      for_device_or_memory shown (slots_of sight f.given) (slots_of sight f.back) r.before r.after f.refusal.counted
      (f.refusal.covered r.follow opening.about.limits (history_of opening.about k (histories k)) (writing_at (Some g.end) (histories k)) covers)

  pub says : IsHeadlineOf sight follows lived histories
  says = said opening threads life.threads_are some_shard histories (λ k lt. ((history_at k).1 lt).good.known) (writing_in ends histories) (WereRead sight follows lived) reads (HasFailedSince sight follows lived) marks (MayBeReplayed sight follows ends) after (MayBeRefused sight follows ends) gives

  -- what is found after the history, and after a beginning of the calls that were being written, is a replay
  pub replays : (k : ℕ) → k < opening.about.shards → (state : Streams) → IsAfter opening.about.limits (history_of opening.about k (histories k)) (writing_in ends histories k) state → IsReplay opening.about threads k (histories k) (writing_in ends histories k) state
  replays = (said opening threads life.threads_are some_shard histories (λ k lt. ((history_at k).1 lt).good.known) (writing_in ends histories) (WereRead sight follows lived) reads (HasFailedSince sight follows lived) marks
      (λ k state. IsAfter opening.about.limits (history_of opening.about k (histories k)) (writing_in ends histories k) state) (λ k lt state r. r) (MayBeRefused sight follows ends) gives).whatever_crash_comes
