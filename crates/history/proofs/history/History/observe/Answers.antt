use Rattle.std.proofs.Common.{◌<◌, sym, ap, ◌∙◌, subst, arith}
use Rattle.history.specs.Handles.{caller_in}
use Rattle.history.proofs.Looking.{looks_as}
use Rattle.history.proofs.history.History.observe.Goals as goal

pub load-requires : goal.load-requires
load-requires c =
    let pass = c.pass.invariant in
    let at_table = ap (λ p. p.table) c.pass.view_is ∙ c.requires.table ∙ sym c.self.view_is ∙ ap (λ t. t.shared.table_id) (sym c.deref.ensures) in
    let k = caller_in c.pass.inside.seat.me.0.role in
    let there : c.args.shard < k.about.shards = subst (λ p. c.args.shard < p.caller.about.shards) (sym c.pass.view_is) c.requires.shard in
    let within : c.args.shard < c.pass.inside.seat.table_id.words = let e = pass.2 in let w = pass.4 in omega arith in
    (at_table, subst (λ z. c.args.shard < z.words) at_table within, looks_as _ _ _ k _ pass.0 there)
