use Rattle.std.proofs.Common.{ap, sym, ◌∙◌}
use Rattle.history.specs.Handles.{Passed}
use Rattle.owners.specs.Openings.{home_of}
use Rattle.ingester.proofs.Batching.{routes_idle, none_is, either_ways}
use Rattle.ingester.proofs.Chaining.{idle_of}
use Rattle.ingester.proofs.opened.Ingester.announce_some.Goals as goal

pub returns-clause-routes : goal.returns-clause-routes
returns-clause-routes g c =
    let now = c.args.self.now in
    let made = c.announce_all.ensures in
    let messages = made.messages in
    let idle = idle_of now c.args.pass.now c.requires.pass (sym c.is_closed.ensures ∙ c.if-is_closed.false) in
    either_ways _ _ c.announce_all.result
    (λ none.
    let kept = none_is _ _ c.announce_all.result none made.count in
    record {
      idle = routes_idle now.table now.about (home_of now) c.args.pass.now.caller.pass c.announce_all.new.pass.caller c.announce_all.new.routes.items (ap (λ (p : Passed). p.caller.pending) kept.0 ∙ idle) messages.batches messages.ready;
      count = messages.count;
    }) messages
