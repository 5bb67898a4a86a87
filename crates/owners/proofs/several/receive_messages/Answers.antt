use Rattle.std.proofs.Common.{rules, ◌<◌, vec_len, length, sym, ap, subst, ◌∙◌}
use Rattle.std.specs.Prelude.{Some}
use Rattle.std.proofs.lemmas.Option.{slice_get-get_or}
use Rattle.owners.specs.Routes.{IsRoute, AreRoutes}
use Rattle.owners.proofs.Each.{routes_set}
use Rattle.owners.proofs.several.receive_messages.Goals as goal
use Rattle.owners.proofs.several.receive_messages.Goals.{then-index, else-index}

pub loop-shard-preserved : goal.loop-shard-preserved
loop-shard-preserved g c =
    let inv = c.loop-shard.invariant in
    let items = c.loop-shard.routes.items in
    let k = c.loop-shard.shard in
    let lt : k < length items = search rules in
    elim c.if-index.branch [
      | then-index w ↦
          let here = slice_get-get_or items k w.index_mut.result.now lt ∙ ap Some (sym w.index_mut.ensures.value) in
          record {
            len = ap vec_len w.routes-is ∙ inv.len;
            routes = λ home p are.
                let all = inv.routes home p are in
                subst (λ v. AreRoutes home p v.items) (sym w.routes-is) (routes_set (IsRoute home p) items k w.receive.new.self lt all (w.receive.ensures home p k (all k w.index_mut.result.now here)));
          }
      | else-index w ↦ record {
        len = ap vec_len w.routes-is ∙ inv.len;
        routes = λ home p are. subst (λ v. AreRoutes home p v.items) (sym w.routes-is) (inv.routes home p are);
      }
    ]
