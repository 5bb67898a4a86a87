use Rattle.std.proofs.Common.{◌+◌, ◌<◌, length, sym, ap, ◌∙◌, subst}
use Rattle.history.specs.Handles.{caller_in}
use Rattle.history.proofs.HandOvers.{gives}
use Rattle.history.proofs.Calls.{announces_as}
use Rattle.history.proofs.Fits.{pass_fits}
use Rattle.history.proofs.history.History.announce_under.Goals as goal

pub store-requires : goal.store-requires
store-requires g c =
    let pass = c.pass.invariant in
    let at_table = ap (λ p. p.table) c.pass.view_is ∙ c.requires.table ∙ sym c.self.view_is ∙ ap (λ t. t.shared.table_id) (sym c.deref.ensures) in
    let k = caller_in c.pass.inside.seat.me.0.role in
    let above = subst (λ p. p.caller.last < c.args.number) (sym c.pass.view_is) c.requires.number.0 in (
      at_table,
      subst (λ z. c.pass.inside.word < z.words) at_table (pass_fits c.pass.inside.seat _ _ _ _ pass).1,
      announces_as _ _ _ _ k _ _ pass.0 (ap (λ n. n + k.pass) pass.2 ∙ pass.3) (subst (λ p. length p.caller.pending < 64) (sym c.pass.view_is) c.requires.few) above c.requires.number.1,
    )

pub split_seat-requires : goal.split_seat-requires
split_seat-requires g c =
    let at_table = ap (λ p. p.table) c.pass.view_is ∙ c.requires.table ∙ sym c.self.view_is ∙ ap (λ t. t.shared.table_id) (sym c.deref.ensures) in
    (c.store.ensures.0 ∙ at_table, subst (λ z. 0 < z.words) at_table (pass_fits c.pass.inside.seat _ _ _ _ c.pass.invariant).0, gives _ _)
