use Rattle.std.proofs.Common.{◌≡◌, List, ◌∷◌, [], ◌++◌, map, ap, subst, ◌∙◌}
use Rattle.answering.specs.Connections.{Unended, with_bytes}
use Rattle.whole.specs.declared.serving.LoneConnection.{LoneConnection}
use Rattle.whole.proofs.ServedOnce.{first_visited}
use Rattle.whole.proofs.by_turns.ByTurns.visit.Goals as goal

pub returns-in-Some : goal.returns-in-Some
returns-in-Some g c =
    let come = c.in-Ok.ensures.ok ∙ ap (with_bytes c.args.bytes.now) c.new-connection.ensures in
    let come_so : LoneConnection = record { connection = c.take_in.new.self } in
    let pushed : List LoneConnection = c.push_back.new.self.items in
    let one : pushed ≡ come_so ∷ [] = subst (λ (l : List LoneConnection). pushed ≡ l ++ come_so ∷ []) c.new-connections.ensures.items c.in-Ok-push_back.ensures.items in
    let kept = λ (alone : LoneConnection). alone.connection in
    let (doubt, are) = c.answer_connections.ensures.visits in
    record {
      serving = c.answer_connections.ensures.pass;
      visited = first_visited g.C.Clock.ticks c.args.bytes.now c.take_in.new.self c.in-Some.alone.connection (ap (λ (u : Unended). u.came) come) (ap (λ (u : Unended). u.text) come)
          c.args.it.now c.answer_connections.new.pass c.args.clock.now c.answer_connections.new.clock doubt
          (map kept pushed) (map kept c.answer_connections.new.connections.items) (map kept c.pop_front.new.self.items)
          (ap (map kept) one) (ap (map kept) c.in-Some.ensures.items) are;
    }
