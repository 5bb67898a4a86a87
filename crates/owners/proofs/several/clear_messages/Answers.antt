use Rattle.std.proofs.Common.{rules, ◌≡◌, ◌<◌, length, refl, sym, ap, ◌∙◌, arith}
use Rattle.std.specs.Prelude.{Some}
use Rattle.std.proofs.lemmas.Option.{slice_get-get_or}
use Rattle.owners.specs.Routes.{IsRoute, IsIdleRoute}
use Rattle.owners.proofs.Each.{routes_done, routes_all, routes_begin}
use Rattle.owners.proofs.several.clear_messages.Goals as goal

pub loop-shard-init : goal.loop-shard-init
loop-shard-init c = record { len = refl; routes = λ home p are. routes_begin (IsRoute home p) (IsIdleRoute home p) c.args.routes.now.items are }

pub loop-shard-preserved : goal.loop-shard-preserved
loop-shard-preserved c =
    let items = c.loop-shard.routes.items in
    let k = c.loop-shard.shard in
    let lt : k < length items = search rules in
    let here = slice_get-get_or items k c.index_mut.result.now lt ∙ ap Some (sym c.index_mut.ensures.value) in
    record {
      len = c.loop-shard.invariant.len;
      routes = λ home p are.
          let all = c.loop-shard.invariant.routes home p are in
          routes_done (IsRoute home p) (IsIdleRoute home p) items k c.clear.new.self lt all (c.clear.ensures home p k ((all k c.index_mut.result.now here).1 (omega arith)));
    }

pub returns-clause-routes : goal.returns-clause-routes
returns-clause-routes c =
    let items = c.loop-shard.routes.items in
    let same : length items ≡ c.loop-shard.shard = search rules in
    λ home p are. routes_all (IsRoute home p) (IsIdleRoute home p) items c.loop-shard.shard same (c.loop-shard.invariant.routes home p are)
