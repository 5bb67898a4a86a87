use Rattle.std.proofs.Common.{◌<◌, sym, ap, ◌∙◌, subst, arith}
use Rattle.history.specs.Handles.{about_in}
use Rattle.history.proofs.Starts.{next_passes_as}
use Rattle.history.proofs.new_table.deal_passes.Goals as goal

pub split_seat-requires : goal.split_seat-requires
split_seat-requires c =
    let inv = c.loop-pass.invariant in
    let at_table = c.requires.table.0 ∙ ap (λ t. t.shared.table_id) (sym c.deref.ensures) in
    let test = c.loop-pass-test.true in
    let passes = c.requires.passes in (
      inv.0 ∙ at_table,
      subst (λ z. 0 < z.words) at_table (let w = c.requires.table.1 in let a = c.requires.shards.0 in omega arith),
      next_passes_as _ (about_in c.args.seat.now.me.0.role) c.args.shards _ _ (ap (λ m. m.0) inv.1) (let b = passes.0 in omega arith),
    )
