use Rattle.std.proofs.Common.{rules, ◌<◌, length, sym, ap, ◌∙◌}
use Rattle.std.specs.Prelude.{Some}
use Rattle.std.proofs.lemmas.Option.{slice_get-get_or}
use Rattle.owners.specs.Routes.{IsIdleRoute}
use Rattle.owners.proofs.Each.{routes_set}
use Rattle.owners.proofs.several.end_owners.Goals as goal

pub end-requires : goal.end-requires
end-requires g c =
    let items = c.loop-shard.routes.items in
    let k = c.loop-shard.shard in
    let lt : k < length items = search rules in
    let all = c.loop-shard.invariant.routes c.requires.0 c.requires.1 c.requires.2 in
    (c.requires.0, k, (all k c.index_mut.result.now (slice_get-get_or items k c.index_mut.result.now lt ∙ ap Some (sym c.index_mut.ensures.value))).orders)

pub loop-shard-preserved : goal.loop-shard-preserved
loop-shard-preserved g c =
    let items = c.loop-shard.routes.items in
    let k = c.loop-shard.shard in
    let lt : k < length items = search rules in
    let here = slice_get-get_or items k c.index_mut.result.now lt ∙ ap Some (sym c.index_mut.ensures.value) in
    record {
      len = c.loop-shard.invariant.len;
      routes = λ home p are.
          let all = c.loop-shard.invariant.routes home p are in
          routes_set (IsIdleRoute home p) items k c.end.new.self lt all (c.end.ensures home p k (all k c.index_mut.result.now here));
    }
