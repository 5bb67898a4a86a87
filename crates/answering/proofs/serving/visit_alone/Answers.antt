use Rattle.std.proofs.Common.{◌≡◌, ◌∷◌, [], ◌++◌, map, ap, ◌∙◌}
use Rattle.answering.proofs.Alone.{alone}
use Rattle.answering.proofs.serving.visit_alone.Goals as goal

pub returns-clause-turned : goal.returns-clause-turned
returns-clause-turned g c =
    let (doubt, are) = c.answer_connections.ensures.visits in
    let old = c.args.connection in
    let new = c.in-Some.connection in
    let one : c.push_back_reserved.new.self.items ≡ old ∷ [] = c.push_back_reserved.ensures.items ∙ ap (λ l. l ++ old ∷ []) c.requires.empty in
    alone (g.S.Calls.gives c.args.service.now) g.C.Clock.ticks c.args.pass.now c.answer_connections.new.pass c.args.clock.now c.answer_connections.new.clock doubt old new (map (λ k. k) c.push_back_reserved.new.self.items) (map (λ k. k) c.answer_connections.new.connections.items) (map (λ k. k) c.pop_front.new.self.items)
    (ap (map (λ k. k)) one) (ap (map (λ k. k)) c.in-Some.ensures.items) are
