use Rattle.std.proofs.Common.{◌≡◌, ℕ, suc, ◌+◌, ◌<◌, ◌≤◌, ◌∷◌, [], length, length-append, refl, sym, ap, ◌∙◌, subst, arith}
use Rattle.owners.specs.Routes.{IsIdleRoute}
use Rattle.owners.specs.Lists.{AreEach}
use Rattle.owners.specs.QueueEnds.{IsShardQueues}
use Rattle.owners.proofs.Each.{each_first, each_next, routes_next}
use Rattle.owners.proofs.rows.make_row.Goals as goal

has_room : (len row done all_queues fewer count room : ℕ) → len ≡ row → row ≡ done → done + all_queues ≡ count → all_queues ≡ suc fewer → count ≤ room → len < room
has_room len row done all_queues fewer count room long same all less much = omega arith

pub push_reserved-requires : goal.push_reserved-requires
push_reserved-requires c =
    let inv = c.loop-queues.invariant in
    has_room _ _ _ _ (length c.pop_front.new.self.items) _ _ c.loop-queues.row.ok.0 inv.same inv.count (ap length c.in-Some.ensures.items) inv.room

pub push_back_reserved-requires : goal.push_back_reserved-requires
push_back_reserved-requires c =
    let inv = c.loop-queues.invariant in
    has_room _ _ _ _ (length c.pop_front.new.self.items) _ _ c.loop-queues.done.ok.0 refl inv.count (ap length c.in-Some.ensures.items) inv.room_done

pub make_route-requires : goal.make_route-requires
make_route-requires c =
    let inv = c.loop-queues.invariant in
    let home = c.args.home.now in
    let p = c.args.pass in
    let n : length c.loop-queues.done.items ≡ c.len.result = sym (c.len.ensures ∙ c.loop-queues.done.ok.0) in
    subst (λ k. IsShardQueues home p k c.in-Some.queues) n (each_first (IsShardQueues home p) (length c.loop-queues.done.items) c.loop-queues.all_queues.items c.pop_front.new.self.items c.in-Some.queues c.in-Some.ensures.items inv.left).0

pub loop-queues-preserved : goal.loop-queues-preserved
loop-queues-preserved c =
    let inv = c.loop-queues.invariant in
    let home = c.args.home.now in
    let p = c.args.pass in
    let n : length c.loop-queues.done.items ≡ c.len.result = sym (c.len.ensures ∙ c.loop-queues.done.ok.0) in
    let same = inv.same in
    let row_now = ap length c.push_reserved.ensures.items ∙ length-append c.loop-queues.row.items (c.in_ok-route.route ∷ []) in
    let done_now = ap length c.push_back_reserved.ensures.items ∙ length-append c.loop-queues.done.items (c.make_route.new.queues ∷ []) in
    let first = each_first (IsShardQueues home p) (length c.loop-queues.done.items) c.loop-queues.all_queues.items c.pop_front.new.self.items c.in-Some.queues c.in-Some.ensures.items inv.left in
    let count = inv.count in
    let taken : length c.loop-queues.all_queues.items ≡ length c.pop_front.new.self.items + 1 = ap length c.in-Some.ensures.items ∙ omega arith in
    record {
      row = routes_next (IsIdleRoute home p) c.loop-queues.row.items c.push_reserved.new.self.items c.in_ok-route.route c.len.result (same ∙ n) c.push_reserved.ensures.items inv.row c.in_ok-route.ensures.route;
      same = row_now ∙ (ap (λ k. k + 1) same ∙ sym done_now);
      done = each_next (IsShardQueues home (p + 1)) c.loop-queues.done.items c.push_back_reserved.new.self.items c.make_route.new.queues c.len.result n c.push_back_reserved.ensures.items inv.done c.in_ok-route.ensures.queues;
      left = subst (λ k. AreEach (IsShardQueues home p) k c.pop_front.new.self.items) (sym done_now) first.1;
      count = omega arith;
      room = subst (λ k. c.len-count.result ≤ k) (sym c.push_reserved.ensures.capacity) inv.room;
      room_done = subst (λ k. c.len-count.result ≤ k) (sym c.push_back_reserved.ensures.capacity) inv.room_done;
    }
