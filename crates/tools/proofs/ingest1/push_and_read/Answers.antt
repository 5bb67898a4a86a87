use Rattle.std.proofs.Common.{◌≡◌, ℕ, List, subst}
use Rattle.memory_disk.specs.MemDisk.{memory_sight}
use Rattle.tools.specs.Endings.{IsBodyOf}
use Rattle.tools.proofs.EmptySlots.{none_found}
use Rattle.tools.proofs.Outputs.{on_empty}
use Rattle.tools.proofs.ingest1.push_and_read.Goals as goal

pub returns-clause-pushed : goal.returns-clause-pushed
returns-clause-pushed g c =
    let opening = c.in_ok-ingester.ingester in
    let slots = c.in_ok-empty_slots.field-0 in
    let value = c.deref.ensures.value in
    let same : c.in_ok-body.body.items ≡ c.deref.result.now = cc in
    on_empty c.push_body-done.result opening c.args.limits c.args.now (g.I.Read.remaining c.args.input.now) (g.W.Write.contents c.args.output.now) (g.W.Write.contents c.push_body-done.new.output) c.deref.result.now
    (none_found memory_sight (λ disk. Unit {0}) (λ disk. tt) _ _ slots.items opening.logs opening.about.bases c.in_ok-empty_slots.ensures.empty c.in_ok-ingester.ensures.found)
    c.in_ok-ingester.ensures.opened.limits_are
    (subst (λ (body : List ℕ). IsBodyOf (g.I.Read.remaining c.args.input.now) body) same (record { whole = c.in_ok-body.ensures.whole; short = c.in_ok-body.ensures.short })) c.push_body-done.ensures.pushed
