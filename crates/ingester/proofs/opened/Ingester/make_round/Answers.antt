use Rattle.std.proofs.Common.{◌≤◌, length, sym, ap, ◌∙◌, subst, arith, vec_len}
use Rattle.owners.specs.Openings.{home_of}
use Rattle.owners.specs.Routes.{AreRoutes, AreLoaded, AreReadyRoutes}
use Rattle.ingester.proofs.Batching.{routes_loaded}
use Rattle.ingester.proofs.opened.Ingester.make_round.Goals as goal
use Rattle.ingester.proofs.opened.Ingester.make_round.Goals.{then-received-round, else-received-round}

pub send_messages-requires : goal.send_messages-requires
send_messages-requires g c =
    let now = c.args.self.now in
    let items = c.args.routes.now.items in
    let round = c.requires.round in
    let messages = c.requires.messages in
    let few : length c.args.pass.now.caller.pending ≤ 64 = omega (arith, round.long, round.few) in
    let loaded : AreLoaded (home_of now) c.args.round.pass items = subst (λ p. AreLoaded (home_of now) p items) (sym round.own)
    (routes_loaded (home_of now) c.args.pass.now.caller items few messages.batches (subst (λ p. AreReadyRoutes (home_of now) p items) round.own messages.ready)) in
    (home_of now, c.args.round.pass, loaded)

pub receive_all-received-requires-clause-routes : goal.receive_all-received-requires-clause-routes
receive_all-received-requires-clause-routes g c =
    let now = c.args.self.now in
    let items = c.args.routes.now.items in
    let round = c.requires.round in
    let messages = c.requires.messages in
    let few : length c.args.pass.now.caller.pending ≤ 64 = omega (arith, round.long, round.few) in
    let loaded : AreLoaded (home_of now) c.args.round.pass items = subst (λ p. AreLoaded (home_of now) p items) (sym round.own)
    (routes_loaded (home_of now) c.args.pass.now.caller items few messages.batches (subst (λ p. AreReadyRoutes (home_of now) p items) round.own messages.ready)) in (
      c.receive_messages.ensures.routes (home_of now) c.args.round.pass (c.send_messages.ensures.routes (home_of now) c.args.round.pass loaded),
      omega (arith, c.receive_messages.ensures.len, c.send_messages.ensures.len, messages.count, c.args.routes.now.ok.0, c.receive_messages.new.routes.ok.0),
    )

pub returns-clause-routes : goal.returns-clause-routes
returns-clause-routes g c =
    let now = c.args.self.now in
    elim c.if-received-round.branch [
      | then-received-round w ↦ record {
        idle = c.clear_messages.ensures.routes (home_of now) c.args.round.pass (subst (λ v. AreRoutes (home_of now) c.args.round.pass v.items) (sym w.routes-is) w.lose.ensures.routes.0);
        count = sym c.clear_messages.new.routes.ok.0 ∙ (c.clear_messages.ensures.len ∙ (ap vec_len w.routes-is ∙ (w.lose.new.routes.ok.0 ∙ w.lose.ensures.routes.1)));
      }
      | else-received-round w ↦ record {
        idle = c.clear_messages.ensures.routes (home_of now) c.args.round.pass (subst (λ v. AreRoutes (home_of now) c.args.round.pass v.items) (sym w.routes-is) c.receive_all-received.ensures.routes.0);
        count = sym c.clear_messages.new.routes.ok.0 ∙ (c.clear_messages.ensures.len ∙ (ap vec_len w.routes-is ∙ (c.receive_all-received.new.routes.ok.0 ∙ c.receive_all-received.ensures.routes.1)));
      }
    ]
