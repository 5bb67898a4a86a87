use Rattle.std.proofs.Common.{◌+◌, ◌<◌, sym, ap, ◌∙◌, subst}
use Rattle.history.proofs.Common.{IsNextSaid, behind_first, number_of, taken, Passed, Received, caller_in, step_in, upto_in, moment_in}
use Rattle.history.proofs.HandOvers.{takes}
use Rattle.history.proofs.Calls.{collects_as}
use Rattle.history.proofs.Fits.{pass_fits}
use Rattle.history.proofs.history.History.collect_first.Goals as goal

pub join_seat-requires : goal.join_seat-requires
join_seat-requires c =
    let there = ap (λ t. t.shared.table_id) (sym c.deref.ensures) in
    let at_table = ap (λ p. p.table) c.pass.view_is ∙ c.requires.table.0 ∙ sym c.self.view_is ∙ there in (
      at_table,
      ap (λ r. r.table) c.receipt.view_is ∙ c.requires.table.1 ∙ sym c.self.view_is ∙ there,
      ap (λ m. m.1) c.receipt.invariant.0,
      subst (λ z. 0 < z.words) at_table (pass_fits c.pass.inside.seat _ _ _ _ c.pass.invariant).0,
      takes _ _ _ _,
    )

pub store-requires : goal.store-requires
store-requires c =
    let pass = c.pass.invariant in
    let at_table = ap (λ p. p.table) c.pass.view_is ∙ c.requires.table.0 ∙ sym c.self.view_is ∙ ap (λ t. t.shared.table_id) (sym c.deref.ensures) in
    let k = caller_in c.pass.inside.seat.me.0.role in
    let hand = c.receipt.inside.seat.me.0.hand in (
      c.join_seat.ensures.0 ∙ at_table,
      subst (λ z. c.pass.inside.word < z.words) at_table (pass_fits c.pass.inside.seat _ _ _ _ pass).1,
      collects_as _ _ _ _ k (step_in hand) (upto_in hand) (moment_in hand) _
          (c.join_seat.ensures.2 ∙ (λ i. (taken (pass.0 i).0 (c.receipt.invariant.0 i).0, (pass.0 i).1)))
          (ap (λ n. n + k.pass) pass.2 ∙ pass.3)
          (ap (λ r. r.step.ask.pass) c.receipt.view_is ∙ c.requires.pass ∙ ap (λ p. p.caller.pass) (sym c.pass.view_is))
          (subst (λ (z : Passed × Received). IsNextSaid z.0.caller z.1.step.ask) (λ i. (sym c.pass.view_is i, sym c.receipt.view_is i)) c.requires.next)
          (c.word_behind_first-word.ensures ∙ ap (λ p. number_of p.caller.last (behind_first p.caller.pending)) (sym c.pass.view_is)),
    )
