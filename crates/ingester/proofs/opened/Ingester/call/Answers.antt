use Rattle.std.proofs.Common.{◌≡◌, ◌+◌, ◌<◌, length, length-set, refl, sym, ap, ◌∙◌, subst, arith}
use Rattle.std.specs.Prelude.{Some, slice_set}
use Rattle.std.proofs.lemmas.Option.{slice_get-get_or}
use Rattle.history.specs.declared.views.About.{About}
use Rattle.history.specs.Plays.{ask_of}
use Rattle.owners.specs.Openings.{home_of}
use Rattle.owners.specs.Routes.{IsIdleRoute}
use Rattle.owners.proofs.Each.{routes_set}
use Rattle.ingester.specs.Calls.{IsPassOf, shard_for}
use Rattle.ingester.proofs.Passing.{idle_routes, routes_back}
use Rattle.ingester.proofs.Routing.{routed}
use Rattle.ingester.proofs.opened.Ingester.call.Goals as goal

pub call_by_route-requires-clause-route : goal.call_by_route-requires-clause-route
call_by_route-requires-clause-route g c =
    let now = c.args.self.now in
    let seat = c.pass.inside.seat in
    let is = subst (IsPassOf now) (sym c.pass.view_is) c.requires.pass in
    let row = idle_routes now seat c.pass.inside.routes.items is c.pass.invariant in
    let items = c.pass.inside.routes.items in
    let k = c.shard_number-shard.result in
    let shards : now.about.shards ≡ c.self.inside.count = ap (λ o. o.about.shards) (sym c.self.view_is) ∙ c.self.invariant.is_opening.shards in
    let some = c.self.invariant.is_opening.some_shard in
    let long = row.count in
    let routed_to = c.shard_number-shard.ensures in
    let within : k < length items = omega arith in
    let here : k ≡ shard_for seat.caller c.args.call = sym (routed seat.caller.about (ask_of seat.caller (seat.caller.last + 1) c.args.call) c.args.call c.self.inside.count k refl (ap (λ (a : About). a.shards) is.about ∙ shards) c.shard_number-shard.ensures) in
    subst (λ n. IsIdleRoute (home_of now) seat.caller.pass n c.index_mut.result.now) here (row.idle k c.index_mut.result.now (slice_get-get_or items k c.index_mut.result.now within ∙ ap Some (sym c.index_mut.ensures.value)))

pub invariant_of-pass : goal.invariant_of-pass
invariant_of-pass g c =
    let now = c.args.self.now in
    let seat = c.pass.inside.seat in
    let is = subst (IsPassOf now) (sym c.pass.view_is) c.requires.pass in
    let row = idle_routes now seat c.pass.inside.routes.items is c.pass.invariant in
    let items = c.pass.inside.routes.items in
    let k = c.shard_number-shard.result in
    let shards : now.about.shards ≡ c.self.inside.count = ap (λ o. o.about.shards) (sym c.self.view_is) ∙ c.self.invariant.is_opening.shards in
    let some = c.self.invariant.is_opening.some_shard in
    let long = row.count in
    let routed_to = c.shard_number-shard.ensures in
    let within : k < length items = omega arith in
    let here : k ≡ shard_for seat.caller c.args.call = sym (routed seat.caller.about (ask_of seat.caller (seat.caller.last + 1) c.args.call) c.args.call c.self.inside.count k refl (ap (λ (a : About). a.shards) is.about ∙ shards) c.shard_number-shard.ensures) in
    let made = c.call_by_route.ensures in
    routes_back now c.call_by_route.new.pass seat.caller.pass (slice_set items k c.call_by_route.new.route) made.pass made.own (record {
      idle = routes_set (IsIdleRoute (home_of now) seat.caller.pass) items k c.call_by_route.new.route within row.idle (subst (λ n. IsIdleRoute (home_of now) seat.caller.pass n c.call_by_route.new.route) (sym here) made.route);
      count = length-set items k c.call_by_route.new.route ∙ row.count;
    })
