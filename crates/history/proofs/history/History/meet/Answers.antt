use Rattle.std.proofs.Common.{◌<◌, sym, ap, ◌∙◌, subst}
use Rattle.history.specs.Handles.{caller_in}
use Rattle.history.proofs.HandOvers.{gives, sits_as, pass_leaves}
use Rattle.history.proofs.Fits.{pass_fits}
use Rattle.history.proofs.history.History.meet.Goals as goal

pub split_seat-blank-requires : goal.split_seat-blank-requires
split_seat-blank-requires c =
    let at_table = ap (λ p. p.table) c.one.view_is ∙ c.requires.table.0 ∙ sym c.self.view_is ∙ ap (λ t. t.shared.table_id) (sym c.deref.ensures) in
    (at_table, subst (λ z. 0 < z.words) at_table (pass_fits c.one.inside.seat _ _ _ _ c.one.invariant).0, gives _ _)

pub join_seat-requires : goal.join_seat-requires
join_seat-requires c =
    let there = sym c.self.view_is ∙ ap (λ t. t.shared.table_id) (sym c.deref.ensures) in
    let at_table = ap (λ p. p.table) c.one.view_is ∙ c.requires.table.0 ∙ there in
    let guest = c.replace-guest.ensures.value in (
      c.split_seat-blank.ensures.0 ∙ at_table,
      ap (λ s. s.table_id) guest ∙ ap (λ p. p.table) c.two.view_is ∙ c.requires.table.1 ∙ there,
      ap (λ s. s.me.1) guest ∙ ap (λ m. m.1) c.two.invariant.0,
      subst (λ z. 0 < z.words) at_table (pass_fits c.one.inside.seat _ _ _ _ c.one.invariant).0,
      sits_as _ _ _ _ (caller_in c.two.inside.seat.me.0.role) (ap (λ s. s.me.0) guest ∙ ap (λ m. m.0) c.two.invariant.0),
    )

pub split_seat-requires : goal.split_seat-requires
split_seat-requires c =
    let at_table = ap (λ p. p.table) c.one.view_is ∙ c.requires.table.0 ∙ sym c.self.view_is ∙ ap (λ t. t.shared.table_id) (sym c.deref.ensures) in
    let looked = c.look_together.ensures in (
      looked.table ∙ c.join_seat.ensures.0 ∙ c.split_seat-blank.ensures.0 ∙ at_table,
      subst (λ z. 0 < z.words) at_table (pass_fits c.one.inside.seat _ _ _ _ c.one.invariant).0,
      pass_leaves _ _ _ _ (ap (λ m. m.0) looked.passes),
    )
