-- Until its first turn a shard has its slots as they were opened.
use Rattle.std.proofs.Common.{◌≡◌, ℕ, List, [], length, sym, ap, ◌∙◌, subst, Some, slice_get}
use Rattle.std.proofs.lemmas.Option.{same_Some}
use Rattle.headline.proofs.Common.{Sight, Wal, Sharded, Lead, Follow, slots, slots_of, PairRests, opened_shard, shard_then, Life, ShardEnd, HandedOut, CutAt, IsLife, IsEnd, MadeNoTurn, WritesNothingBefore, slots_then}
use Rattle.openings.proofs.Ordered.{ordered}
use Rattle.headline.proofs.Leaving.{given_at}
use Rattle.headline.proofs.Marking.{lead_follows, follow_before}

module _ {D : Type 0} (sight : D → Sight) (follows : D → Type 0) where
  -- without a turn the shard is as it was opened
  no_turn : (start end : Sharded D) (ts : List _) → Lead sight follows start ts end → ts ≡ [] → end.log ≡ start.log
  no_turn start end ts lead none = ap (λ (s : Sharded D). s.log) (subst (λ l. Lead sight follows start l end) none lead)

  module _ (life : Life D) (is : IsLife sight follows life) where
    -- what was opened, where its slots rest at these
    rests_at : (k : ℕ) (opened : Wal D) → slice_get life.opening.logs k ≡ Some opened → Follow follows opened → (given : List D) → slice_get life.given k ≡ Some given → PairRests (slots_of sight given) (slots sight opened)
    rests_at k opened there f given here =
        let at = given_at sight follows (length life.given) is.capacity k life.given life.opening.logs life.opening.about.bases opened is.found there in
        subst (λ (l : List D). PairRests (slots_of sight l) (slots sight opened)) (same_Some at.0 given (sym at.4 ∙ here)) (at.3.rests f)

    rests : (k : ℕ) (end : ShardEnd D) (ends : IsEnd sight follows life.opening life.threads k end) → MadeNoTurn sight follows life.opening life.threads k end ends → (given : List D) → slice_get life.given k ≡ Some given → PairRests (slots_of sight given) (slots_then sight follows end)
    rests k (HandedOut it) ends none given here =
        let out = ends.0 in
        let log : out.shard.log ≡ out.opened = no_turn (opened_shard life.opening k out.opened) out.shard out.turns out.turned none in
        (ordered sight follows out.shard.log it.0 out.slots_are).rests given
        (subst (λ (w : Wal D). PairRests (slots_of sight given) (slots sight w)) (sym log) (rests_at k out.opened out.opened_as (out.before ends.1) given here))
    rests k (CutAt st) ends none given here =
        let log : (shard_then st.moment).log ≡ ends.opened = no_turn (opened_shard life.opening k ends.opened) (shard_then st.moment) st.turns ends.turned none in
        let f : Follow follows ends.opened = lead_follows sight follows (opened_shard life.opening k ends.opened) (shard_then st.moment) st.turns ends.turned (follow_before sight follows st.moment ends.moment ends.follow) in
        subst (λ (w : Wal D). PairRests (slots_of sight given) (slots sight w)) (sym log) (rests_at k ends.opened ends.opened_as f given here)

    pub nothing_before : WritesNothingBefore sight follows life is
    nothing_before k end ends none given here = rests k end (is.ends_are k end ends) none given here
