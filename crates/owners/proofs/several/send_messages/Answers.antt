use Rattle.std.proofs.Common.{rules, ◌≡◌, ◌+◌, ◌<◌, ◌≤◌, ℕ, vec_len, length, refl, sym, ap, subst, ◌∙◌, arith}
use Rattle.std.specs.Prelude.{Some, slice_get}
use Rattle.std.proofs.lemmas.Option.{slice_get-get_or}
use Rattle.owners.specs.declared.routes.ShardRoute.{ShardRoute}
use Rattle.owners.specs.Routes.{IsRoute, IsLoaded}
use Rattle.owners.proofs.Each.{routes_done, routes_kept, routes_all, routes_begin}
use Rattle.owners.proofs.Loading.{route_of_loaded}
use Rattle.owners.proofs.several.send_messages.Goals as goal
use Rattle.owners.proofs.several.send_messages.Goals.{then-not-is_empty, else-not-is_empty}

pub loop-shard-init : goal.loop-shard-init
loop-shard-init g c = record { len = refl; routes = λ home p are. routes_begin (IsLoaded home p) (IsRoute home p) c.args.routes.now.items are }

pub send-requires : goal.send-requires
send-requires g c =
    let items = c.loop-shard.routes.items in
    let k = c.loop-shard.shard in
    let lt : k < length items = search rules in
    let home = c.requires.0 in
    let all = c.loop-shard.invariant.routes home c.requires.1 c.requires.2 in
    let is = (all k c.index_mut.result.now (slice_get-get_or items k c.index_mut.result.now lt ∙ ap Some (sym c.index_mut.ensures.value))).1 (omega arith) in
    (home, k, subst (λ n. IsLoaded home n k c.index_mut.result.now) (sym is.ready.pass) is)

pub loop-shard-preserved : goal.loop-shard-preserved
loop-shard-preserved g c =
    let inv = c.loop-shard.invariant in
    let items = c.loop-shard.routes.items in
    let k = c.loop-shard.shard in
    let lt : k < length items = search rules in
    elim c.if-not-is_empty.branch [
      | then-not-is_empty w ↦
          let here = slice_get-get_or items k w.index_mut.result.now lt ∙ ap Some (sym w.index_mut.ensures.value) in
          record {
            len = ap vec_len w.routes-is ∙ inv.len;
            routes = λ home p are.
                let all = inv.routes home p are in
                subst (λ v. (n : ℕ) (x : ShardRoute) → slice_get v.items n ≡ Some x → (n < k + 1 → IsRoute home p n x) × (k + 1 ≤ n → IsLoaded home p n x)) (sym w.routes-is)
                (routes_done (IsLoaded home p) (IsRoute home p) items k w.send.new.self lt all (w.send.ensures home p k ((all k w.index_mut.result.now here).1 (omega arith))));
          }
      | else-not-is_empty w ↦ record {
        len = ap vec_len w.routes-is ∙ inv.len;
        routes = λ home p are.
            subst (λ v. (n : ℕ) (x : ShardRoute) → slice_get v.items n ≡ Some x → (n < k + 1 → IsRoute home p n x) × (k + 1 ≤ n → IsLoaded home p n x)) (sym w.routes-is)
            (routes_kept (IsLoaded home p) (IsRoute home p) items k (inv.routes home p are) (route_of_loaded home p));
      }
    ]

pub returns-clause-routes : goal.returns-clause-routes
returns-clause-routes g c =
    let items = c.loop-shard.routes.items in
    let same : length items ≡ c.loop-shard.shard = search rules in
    λ home p are. routes_all (IsLoaded home p) (IsRoute home p) items c.loop-shard.shard same (c.loop-shard.invariant.routes home p are)
