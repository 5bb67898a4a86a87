use Rattle.std.proofs.Common.{◌≡◌, ◌<◌, ap, sym, subst, ◌∙◌, length, length-set, arith}
use Rattle.std.specs.Prelude.{slice_set}
use Rattle.history.specs.Handles.{Passed}
use Rattle.owners.specs.Openings.{home_of}
use Rattle.ingester.specs.Batches.{AreBatchesOf}
use Rattle.ingester.proofs.Batching.{batches_joined, batches_alike, ready_still}
use Rattle.ingester.proofs.opened.Ingester.announce_next.Goals as goal

pub returns-in_err-number-clause-messages : goal.returns-in_err-number-clause-messages
returns-in_err-number-clause-messages g c =
    let now = c.args.self.now in
    let k = c.shard_number-shard.result in
    let items = c.args.routes.now.items in
    let was = c.index_mut.result.now in
    let messages = c.requires.messages in
    let shards : now.about.shards ≡ c.self.inside.count = ap (λ o. o.about.shards) (sym c.self.view_is) ∙ c.self.invariant.is_opening.shards in
    let some = c.self.invariant.is_opening.some_shard in
    let long = messages.count in
    let routed_to = c.shard_number-shard.ensures in
    let within : k < length items = omega arith in
    let none = c.in_err-number.ensures.not in
    record {
      batches = subst (λ (p : Passed). AreBatchesOf now.table now.about p.caller (slice_set items k c.join.new.route)) (sym none.0)
          (batches_alike now.table now.about c.args.pass.now.caller items k was c.join.new.route within c.index_mut.ensures.value none.2 messages.batches);
      ready = ready_still (home_of now) c.args.pass.now.caller.pass items k was c.join.new.route within c.index_mut.ensures.value c.in_err-number.ensures.rest messages.ready;
      count = length-set items k c.join.new.route ∙ long;
    }

pub returns-clause-messages : goal.returns-clause-messages
returns-clause-messages g c =
    let now = c.args.self.now in
    let k = c.shard_number-shard.result in
    let items = c.args.routes.now.items in
    let was = c.index_mut.result.now in
    let messages = c.requires.messages in
    let shards : now.about.shards ≡ c.self.inside.count = ap (λ o. o.about.shards) (sym c.self.view_is) ∙ c.self.invariant.is_opening.shards in
    let some = c.self.invariant.is_opening.some_shard in
    let long = messages.count in
    let routed_to = c.shard_number-shard.ensures in
    let within : k < length items = omega arith in
    record {
      batches = batches_joined now.table now.about c.args.pass.now c.join.new.pass c.args.calls.now.items c.join.new.calls.items items k c.self.inside.count c.in_ok-number.number was c.join.new.route c.in_ok-front.field-0.now
          c.requires.pass.1 shards c.in_ok-front.ensures.lookup routed_to within c.index_mut.ensures.value messages.batches c.in_ok-number.ensures.joined;
      ready = ready_still (home_of now) c.args.pass.now.caller.pass items k was c.join.new.route within c.index_mut.ensures.value c.in_ok-number.ensures.rest messages.ready;
      count = length-set items k c.join.new.route ∙ long;
    }

pub join-requires-clause-table : goal.join-requires-clause-table
join-requires-clause-table g c = c.requires.pass.0

pub join-requires-clause-few : goal.join-requires-clause-few
join-requires-clause-few g c = c.requires.few

pub join-requires-clause-numbers : goal.join-requires-clause-numbers
join-requires-clause-numbers g c = c.requires.numbers

pub returns-clause-not : goal.returns-clause-not
returns-clause-not g c = c.in_ok-number.ensures.not

pub returns-clause-capacity : goal.returns-clause-capacity
returns-clause-capacity g c = c.join.ensures.capacity

pub returns-in_err-number-clause-capacity : goal.returns-in_err-number-clause-capacity
returns-in_err-number-clause-capacity g c = c.join.ensures.capacity
