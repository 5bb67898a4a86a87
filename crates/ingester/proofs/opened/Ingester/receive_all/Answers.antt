use Rattle.std.proofs.Common.{rules, ◌≡◌, ◌+◌, ◌<◌, ◌≤◌, ℕ, [], add-zero, append-nil, length, length-set, refl, sym, ap, ◌∙◌, subst, arith}
use Rattle.std.specs.Prelude.{Some, slice_index_or}
use Rattle.std.proofs.lemmas.Option.{slice_get-get_or}
use Rattle.std.specs.VecDeque.{deque_len}
use Rattle.history.specs.Handles.{Passed}
use Rattle.ingester.specs.Batches.{IsUnderWay, AreReceived}
use Rattle.owners.specs.Openings.{home_of}
use Rattle.owners.specs.Routes.{IsRoute}
use Rattle.owners.proofs.Each.{routes_set}
use Rattle.ingester.proofs.Batching.{below_at}
use Rattle.ingester.proofs.Receiving.{taken_behind, receiving_more, received_more}
use Rattle.ingester.proofs.opened.Ingester.receive_all.Goals as goal

has_place : (len had done count cap room : ℕ) → len ≡ had + done → done < count → had + count ≤ cap → room ≡ cap → len < room
has_place len had done count cap room so_far fewer much same = omega arith

all_taken : (i count : ℕ) → count ≤ i → i ≤ count → i ≡ count
all_taken i count over under = omega arith

pub receive_next-requires-clause-route : goal.receive_next-requires-clause-route
receive_next-requires-clause-route g c =
    let inv = c.loop-i.invariant in
    let home = home_of c.args.self.now in
    let items = c.loop-i.routes.items in
    let k = slice_index_or c.args.round.now.shards c.loop-i.i 0 in
    let within : c.loop-i.i < length c.args.round.now.shards = search rules in
    let low = below_at c.args.self.now.about.shards c.args.round.now.shards c.loop-i.i inv.round.below within in
    let lt : k < length items = subst (λ n. k < n) (sym inv.long) low in
    (k, subst (λ p. IsRoute home p k c.index_mut.result.now) inv.round.own (inv.routes k c.index_mut.result.now (slice_get-get_or items k c.index_mut.result.now lt ∙ ap Some (sym c.index_mut.ensures.value))))

pub returns-in-None-clause-routes : goal.returns-in-None-clause-routes
returns-in-None-clause-routes g c =
    let inv = c.loop-i.invariant in
    let home = home_of c.args.self.now in
    let items = c.loop-i.routes.items in
    let k = slice_index_or c.args.round.now.shards c.loop-i.i 0 in
    let within : c.loop-i.i < length c.args.round.now.shards = search rules in
    let low = below_at c.args.self.now.about.shards c.args.round.now.shards c.loop-i.i inv.round.below within in
    let lt : k < length items = subst (λ n. k < n) (sym inv.long) low in (
      routes_set (IsRoute home c.args.round.now.pass) items k c.receive_next.new.route lt inv.routes (subst (λ p. IsRoute home p k c.receive_next.new.route) (sym inv.round.own) (c.in-None.ensures.route k (subst (λ p. IsRoute home p k c.index_mut.result.now) inv.round.own (inv.routes k c.index_mut.result.now (slice_get-get_or items k c.index_mut.result.now lt ∙ ap Some (sym c.index_mut.ensures.value)))))),
      length-set items k c.receive_next.new.route ∙ inv.long,
    )

pub loop-i-preserved : goal.loop-i-preserved
loop-i-preserved g c =
    let inv = c.loop-i.invariant in
    let now = c.args.self.now in
    let was = c.loop-i.pass in
    let new = c.receive_next.new.pass in
    let home = home_of now in
    let items = c.loop-i.routes.items in
    let k = slice_index_or c.args.round.now.shards c.loop-i.i 0 in
    let within : c.loop-i.i < length c.args.round.now.shards = search rules in
    let low = below_at c.args.self.now.about.shards c.args.round.now.shards c.loop-i.i inv.round.below within in
    let lt : k < length items = subst (λ n. k < n) (sym inv.long) low in
    let taken = c.in-Some.ensures.taken in
    let behind = taken_behind now was new c.in-Some.came taken in
    let more = receiving_more now was new c.args.round.now.first c.loop-i.i c.args.round.now.count behind inv.round.numbers inv.round.long (omega arith) in
    record {
      received = received_more now c.args.pass.now was new c.args.outcomes.now.items c.loop-i.outcomes.items c.push_back_reserved.new.self.items c.loop-i.i c.in-Some.came inv.received c.push_back_reserved.ensures.items taken;
      round = record {
        table = behind.table ∙ inv.round.table;
        about = behind.about ∙ inv.round.about;
        rested = behind.rested inv.round.rested;
        own = inv.round.own ∙ sym behind.pass;
        numbers = more.numbers;
        long = more.waiting;
        few = inv.round.few;
        fits = inv.round.fits;
        below = inv.round.below;
      };
      routes = routes_set (IsRoute home c.args.round.now.pass) items k c.receive_next.new.route lt inv.routes (subst (λ p. IsRoute home p k c.receive_next.new.route) (sym inv.round.own) (c.in-Some.ensures.route k (subst (λ p. IsRoute home p k c.index_mut.result.now) inv.round.own (inv.routes k c.index_mut.result.now (slice_get-get_or items k c.index_mut.result.now lt ∙ ap Some (sym c.index_mut.ensures.value))))));
      long = length-set items k c.receive_next.new.route ∙ inv.long;
      len = let had = inv.len in let long = c.push_back_reserved.ensures.len in omega arith;
      capacity = c.push_back_reserved.ensures.capacity ∙ inv.capacity;
    }

pub loop-i-init : goal.loop-i-init
loop-i-init g c = record {
  received = record { came = []; outcomes_are = sym (append-nil c.args.outcomes.now.items); counted = refl; taken = refl };
  round = c.requires.round;
  routes = c.requires.routes.0;
  long = c.requires.routes.1;
  len = sym (add-zero (deque_len c.args.outcomes.now));
  capacity = refl;
}

pub receive_next-requires-clause-table : goal.receive_next-requires-clause-table
receive_next-requires-clause-table g c = c.loop-i.invariant.round.table

pub receive_next-requires-clause-about : goal.receive_next-requires-clause-about
receive_next-requires-clause-about g c = c.loop-i.invariant.round.about

pub receive_next-requires-clause-rested : goal.receive_next-requires-clause-rested
receive_next-requires-clause-rested g c = c.loop-i.invariant.round.rested

pub push_back_reserved-requires : goal.push_back_reserved-requires
push_back_reserved-requires g c =
    let inv = c.loop-i.invariant in
    has_place _ _ _ _ _ _ inv.len c.loop-i-test.true c.requires.room inv.capacity

pub returns-in-None-clause-received : goal.returns-in-None-clause-received
returns-in-None-clause-received g c = subst (λ (p : Passed). AreReceived c.args.pass.now p c.args.outcomes.now.items c.loop-i.outcomes.items c.loop-i.i) (sym (c.in-None.ensures.none refl)) c.loop-i.invariant.received

pub returns-in-None-clause-round : goal.returns-in-None-clause-round
returns-in-None-clause-round g c = subst (λ (p : Passed). IsUnderWay c.args.self.now p c.args.round.now c.loop-i.i) (sym (c.in-None.ensures.none refl)) c.loop-i.invariant.round

pub returns-in-None-clause-len : goal.returns-in-None-clause-len
returns-in-None-clause-len g c = c.loop-i.invariant.len

pub returns-in-None-clause-capacity : goal.returns-in-None-clause-capacity
returns-in-None-clause-capacity g c = c.loop-i.invariant.capacity

pub returns-clause-received : goal.returns-clause-received
returns-clause-received g c = subst (λ (n : ℕ). AreReceived c.args.pass.now c.loop-i.pass c.args.outcomes.now.items c.loop-i.outcomes.items n) (all_taken _ _ c.loop-i-test.false c.loop-i.auto.i-end) c.loop-i.invariant.received

pub returns-clause-round : goal.returns-clause-round
returns-clause-round g c = subst (λ (n : ℕ). IsUnderWay c.args.self.now c.loop-i.pass c.args.round.now n) (all_taken _ _ c.loop-i-test.false c.loop-i.auto.i-end) c.loop-i.invariant.round

pub returns-clause-routes : goal.returns-clause-routes
returns-clause-routes g c = (c.loop-i.invariant.routes, c.loop-i.invariant.long)

pub returns-clause-capacity : goal.returns-clause-capacity
returns-clause-capacity g c = c.loop-i.invariant.capacity
