use Rattle.std.proofs.Common.{◌≡◌, ℕ, ◌+◌, ◌<◌, ◌≤◌, ◌∷◌, [], length, length-append, sym, ap, ◌∙◌, subst, arith}
use Rattle.keyed.specs.Queues.{receives_as}
use Rattle.keyed.specs.declared.binding.Binding.TheVariants.{Bound}
use Rattle.owners.specs.Homes.{home_with}
use Rattle.owners.specs.Openings.{Opening, opening_of, home_of}
use Rattle.owners.specs.Owners.{HasEndsOf}
use Rattle.owners.specs.QueueEnds.{IsShardQueues}
use Rattle.owners.proofs.Each.{each_first, each_next}
use Rattle.owners.proofs.plan.make_all_ends.Goals as goal

none_left : (k n end : ℕ) → k + n ≡ end → k < end → n ≡ 0 → ⊥
none_left k n end left under none = omega arith

one_less : (k n fewer end : ℕ) → fewer + 1 ≡ n → k + n ≡ end → (k + 1) + fewer ≡ end
one_less k n fewer end less left = omega arith

has_room : (len k end room : ℕ) → len ≡ k → k < end → end ≤ room → len < room
has_room len k end room same under much = omega arith

at_end : (k n end : ℕ) → k + n ≡ end → end ≤ k → k ≡ end
at_end k n end left over = omega arith

pub unreachable-requires : goal.unreachable-requires
unreachable-requires g c =
    none_left _ _ _ c.loop-shard.invariant.left c.loop-shard-test.true c.in_default.ensures.cases.0

pub make_ends-requires : goal.make_ends-requires
make_ends-requires g c =
    let home = home_with c.args.first.now in
    let k = c.loop-shard.shard in
    let queues = (each_first (IsShardQueues home c.args.passes) k c.loop-shard.all_queues.items c.pop_front.new.self.items c.in-Some.queues c.in-Some.ensures.items c.loop-shard.invariant.all_queues).0 in
    record { queues = subst (λ (o : Opening g.row.D.Denot). IsShardQueues (home_of o) c.args.passes k c.in-Some.queues) (sym c.of.ensures) queues }

pub push_back_reserved-requires : goal.push_back_reserved-requires
push_back_reserved-requires g c =
    let inv = c.loop-shard.invariant in
    has_room _ _ _ _ (c.loop-shard.all_ends.ok.0 ∙ inv.ends_len) c.loop-shard-test.true inv.ends_room

pub push_reserved-requires : goal.push_reserved-requires
push_reserved-requires g c =
    let inv = c.loop-shard.invariant in
    has_room _ _ _ _ (c.loop-shard.backs.ok.0 ∙ inv.backs_len) c.loop-shard-test.true inv.backs_room

pub loop-shard-preserved : goal.loop-shard-preserved
loop-shard-preserved g c =
    let inv = c.loop-shard.invariant in
    let k = c.loop-shard.shard in
    let home = home_with c.args.first.now in
    let opening = opening_of c.args.first.now c.args.logs.now.items in
    let first = each_first (IsShardQueues home c.args.passes) k c.loop-shard.all_queues.items c.pop_front.new.self.items c.in-Some.queues c.in-Some.ensures.items inv.all_queues in
    let made = c.in_ok-ends.ensures in
    let ends = subst (λ (o : Opening g.row.D.Denot). HasEndsOf o k c.in_ok-ends.ends) c.of.ensures made.ends in
    let back = subst (λ (o : Opening g.row.D.Denot). receives_as c.in_ok-ends.back ≡ Bound o k) c.of.ensures made.back in
    record {
      all_queues = first.1;
      left = one_less _ _ _ _ c.in-Some.ensures.cases inv.left;
      ends = each_next (HasEndsOf opening) c.loop-shard.all_ends.items c.push_back_reserved.new.self.items c.in_ok-ends.ends k inv.ends_len c.push_back_reserved.ensures.items inv.ends ends;
      ends_len = ap length c.push_back_reserved.ensures.items ∙ (length-append c.loop-shard.all_ends.items (c.in_ok-ends.ends ∷ []) ∙ ap (λ n. n + 1) inv.ends_len);
      ends_room = subst (λ n. c.len-shard-end.result ≤ n) (sym c.push_back_reserved.ensures.capacity) inv.ends_room;
      backs = each_next (λ n end. receives_as end ≡ Bound opening n) c.loop-shard.backs.items c.push_reserved.new.self.items c.in_ok-ends.back k inv.backs_len c.push_reserved.ensures.items inv.backs back;
      backs_len = ap length c.push_reserved.ensures.items ∙ (length-append c.loop-shard.backs.items (c.in_ok-ends.back ∷ []) ∙ ap (λ n. n + 1) inv.backs_len);
      backs_room = subst (λ n. c.len-shard-end.result ≤ n) (sym c.push_reserved.ensures.capacity) inv.backs_room;
    }

pub returns-clause-ends : goal.returns-clause-ends
returns-clause-ends g c =
    let inv = c.loop-shard.invariant in
    let all = at_end _ _ _ inv.left c.loop-shard-test.false ∙ c.len-shard-end.ensures in
    (inv.ends, c.loop-shard.all_ends.ok.0 ∙ (inv.ends_len ∙ all))

pub returns-clause-backs : goal.returns-clause-backs
returns-clause-backs g c =
    let inv = c.loop-shard.invariant in
    let all = at_end _ _ _ inv.left c.loop-shard-test.false ∙ c.len-shard-end.ensures in
    (inv.backs, inv.backs_len ∙ all)
