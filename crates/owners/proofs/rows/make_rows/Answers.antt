use Rattle.std.proofs.Common.{◌≡◌, ℕ, ◌+◌, ◌<◌, ◌≤◌, ◌∷◌, [], length, length-append, sym, ap, ◌∙◌, subst, arith}
use Rattle.std.specs.VecDeque.{deque_len}
use Rattle.owners.specs.QueueEnds.{IsShardQueues, IsRow}
use Rattle.owners.proofs.Each.{each_next}
use Rattle.owners.proofs.rows.make_rows.Goals as goal

has_room : (len k end room : ℕ) → len ≡ k → k < end → end ≤ room → len < room
has_room len k end room same under much = omega arith

pub push_back_reserved-requires : goal.push_back_reserved-requires
push_back_reserved-requires c =
    let inv = c.loop-shard.invariant in
    has_room _ _ _ _ (c.loop-shard.all_queues.ok.0 ∙ inv.len) c.loop-shard-test.true inv.room

pub push_reserved-requires : goal.push_reserved-requires
push_reserved-requires c =
    let inv = c.loop-pass.invariant in
    has_room _ _ _ _ (c.loop-pass.rows.ok.0 ∙ inv.count) c.loop-pass-test.true inv.room

pub loop-shard-preserved : goal.loop-shard-preserved
loop-shard-preserved c =
    let inv = c.loop-shard.invariant in
    record {
      all_queues = each_next (IsShardQueues c.args.home.now 0) c.loop-shard.all_queues.items c.push_back_reserved.new.self.items c.in_ok-make_queues.field-0 c.loop-shard.shard inv.len c.push_back_reserved.ensures.items inv.all_queues c.in_ok-make_queues.ensures.queues;
      len = ap length c.push_back_reserved.ensures.items ∙ (length-append c.loop-shard.all_queues.items (c.in_ok-make_queues.field-0 ∷ []) ∙ ap (λ n. n + 1) inv.len);
      room = subst (λ n. c.args.shards ≤ n) (sym c.push_back_reserved.ensures.capacity) inv.room;
    }

pub loop-pass-preserved : goal.loop-pass-preserved
loop-pass-preserved c =
    let inv = c.loop-pass.invariant in
    let made = c.in_ok-make_row.ensures in
    let home = c.args.home.now in
    let old = inv.len in
    let long-old : deque_len c.loop-pass.all_queues ≡ c.args.shards = c.loop-pass.all_queues.ok.0 ∙ old in
    let long : length c.make_row.new.all_queues.items ≡ length c.loop-pass.all_queues.items = sym c.make_row.new.all_queues.ok.0 ∙ (made.len ∙ c.loop-pass.all_queues.ok.0) in
    record {
      all_queues = made.all_queues;
      len = long ∙ inv.len;
      rows = each_next (λ p row. IsRow home c.args.shards p row.items) c.loop-pass.rows.items c.push_reserved.new.self.items c.in_ok-make_row.field-0 c.loop-pass.pass inv.count c.push_reserved.ensures.items inv.rows
          (subst (λ n. IsRow home n c.loop-pass.pass c.in_ok-make_row.field-0.items) long-old made.row);
      count = ap length c.push_reserved.ensures.items ∙ (length-append c.loop-pass.rows.items (c.in_ok-make_row.field-0 ∷ []) ∙ ap (λ n. n + 1) inv.count);
      room = subst (λ n. c.args.passes ≤ n) (sym c.push_reserved.ensures.capacity) inv.room;
    }
