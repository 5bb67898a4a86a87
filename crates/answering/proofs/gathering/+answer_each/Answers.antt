use Rattle.std.proofs.Common.{◌≡◌, ◌∷◌, [], map, sym, ap, subst, ◌∙◌, slice_range, arith}
use Rattle.std.proofs.lemmas.Grind.{common_steps}
use Rattle.std.specs.VecDeque.{deque_len}
use Rattle.answering.specs.Beginning.{IsAnsweredSo}
use Rattle.answering.specs.Calls.{CallsGive}
use Rattle.answering.specs.Gathering.{AreGathered}
use Rattle.answering.specs.Serving.{world}
use Rattle.answering.specs.declared.gathering.Window.{Window}
use Rattle.answering.proofs.Together.{all_there, first_alone, first_apart, first_joins, none_left, same_demand, same_numbers}
use Rattle.answering.proofs.gathering.+answer_each.Goals.{in-None, in-Some-begin+in-Ok, in-Some-begin+in-Err}
use Rattle.answering.proofs.gathering.+answer_each.Goals as goal

pub returns-in_default-clause-gathered : goal.returns-in_default-clause-gathered
returns-in_default-clause-gathered g t c =
    let gives = g.S.Calls.gives c.args.service.now in
    let calls = c.args.workspace.now.window.calls.items in
    let none : c.args.connections.now.items ≡ [] = grind (arith, common_steps) in
    let none_new : c.pop_front.new.self.items ≡ [] = grind (arith, common_steps) in
    let is = none_left gives g.C.Clock.ticks c.args.pass.now c.make.new.pass c.args.clock.now calls c.make.new.self.outcomes.items c.make.ensures.given in
    rw (none, none_new) is

pub tell-answered-requires : goal.tell-answered-requires
tell-answered-requires g t c =
    let gives = g.S.Calls.gives c.args.service.now in
    let calls = c.args.workspace.now.window.calls.items in
    let demand = c.in-Some-begin.demand in
    let after = c.answer_each-in-Ok.new in
    let olds = map g.T.KeepsConnection.kept c.pop_front.new.self.items in
    let news = map g.T.KeepsConnection.kept after.connections.items in
    let outcomes = after.workspace.window.outcomes in
    let w = world c.args.pass.now c.begin.new.clock in
    let w' = world after.pass after.clock in
    let gathered = subst (λ l. AreGathered gives g.C.Clock.ticks w l olds outcomes.items w' news) c.in-Ok.ensures.ok.1 c.answer_each-in-Ok.ensures.gathered in
    record { there = all_there gives g.C.Clock.ticks w w' calls demand c.in-Ok.waiting (deque_len outcomes) olds news outcomes.items (omega (arith, outcomes.ok.0)) c.in-Ok.ensures.ok.0 gathered }

pub make_calls-answered-requires-clause-numbers : goal.make_calls-answered-requires-clause-numbers
make_calls-answered-requires-clause-numbers g t c = same_numbers c.in-Some-begin.demand c.in-Err.demand c.in-Err.ensures.err.0 c.in-Some-begin.ensures.numbers

pub returns-clause-gathered : goal.returns-clause-gathered
returns-clause-gathered g t c =
    let kept = g.T.KeepsConnection.kept in
    let gives = g.S.Calls.gives c.args.service.now in
    let ticks = g.C.Clock.ticks in
    let p = c.args.pass.now in
    let c0 = c.args.clock.now in
    let c1 = c.begin.new.clock in
    let calls = c.args.workspace.now.window.calls.items in
    let old = c.into_connection-connection.result in
    let olds = map kept c.pop_front.new.self.items in
    let joined = c.match-begin in
    let front : map kept c.args.connections.now.items ≡ old ∷ olds = ap (map kept) c.in-Some.ensures.items ∙ ap (λ k. k ∷ olds) (sym c.into_connection-connection.ensures) in
    let back : map kept c.push_front_reserved.new.self.items ≡ joined.connection ∷ map kept joined.connections.items = ap (map kept) c.push_front_reserved.ensures.items ∙ ap (λ k. k ∷ map kept joined.connections.items) c.of_connection.ensures in
    let all : AreGathered gives ticks (world p c0) calls (old ∷ olds) joined.workspace.window.outcomes.items (world joined.pass joined.clock) (joined.connection ∷ map kept joined.connections.items) = elim joined.branch [
      | in-None w ↦
          rw (w.pass-is, w.clock-is, w.connections-is, w.workspace-is, w.connection-is) (first_alone gives ticks p w.answer_each.new.pass c0 c1 w.answer_each.new.clock calls old c.begin.new.self olds (map kept w.answer_each.new.connections.items) w.answer_each.new.workspace.window.outcomes.items
          w.in-None.ensures.over w.answer_each.ensures.gathered)
      | in-Some-begin+in-Ok w ↦
          let (waits, same) = w.in-Some-begin.ensures.waits in
          let m = w.in-Some-begin.message in
          let after = w.answer_each-in-Ok.new in
          let outcomes = after.workspace.window.outcomes in
          let news = map kept after.connections.items in
          let answered = w.tell-answered.result in
          rw (w.pass-is, w.clock-is, w.connections-is, w.workspace-is, w.connection-is) (first_joins gives ticks p after.pass c0 c1 after.clock calls old w.end.new.self olds news m w.in-Some-begin.demand waits answered (subst (λ o. IsAnsweredSo m answered o w.end.new.self) same w.end.ensures)
          w.in-Ok.waiting (deque_len outcomes) outcomes.items w.tell-answered.new.self.outcomes.items (omega (arith, outcomes.ok.0)) w.in-Ok.ensures.ok.0
          (subst (λ l. AreGathered gives ticks (world p c1) l olds outcomes.items (world after.pass after.clock) news) w.in-Ok.ensures.ok.1 w.answer_each-in-Ok.ensures.gathered)
          w.tell-answered.ensures.told w.tell-answered.ensures.left)
      | in-Some-begin+in-Err w ↦
          let (waits, same) = w.in-Some-begin.ensures.waits in
          let m = w.in-Some-begin.message in
          let demand = w.in-Some-begin.demand in
          let made = w.make-in-Err.new in
          let called = w.make_calls-answered in
          let after = w.answer_each-in-Err.new in
          let news = map kept after.connections.items in
          let answered = called.result in
          let body = slice_range old.came m.start m.end in
          let ends = called.ensures.responds waits.route waits.now waits.tenant body (same_demand waits.route waits.now waits.tenant body demand w.in-Err.demand w.in-Err.ensures.err.0 waits.demands) in
          let is = first_apart gives ticks p made.pass called.new.pass after.pass c0 c1 after.clock calls old w.end-in-Err.new.self olds news m demand waits answered made.self.outcomes.items after.workspace.window.outcomes.items
          (subst (λ o. IsAnsweredSo m answered o w.end-in-Err.new.self) same w.end-in-Err.ensures)
          (subst (λ l. CallsGive gives p l made.self.outcomes.items made.pass) w.in-Err.ensures.err.1 w.make-in-Err.ensures.given)
          ends
          (subst (λ l. AreGathered gives ticks (world called.new.pass c1) l olds after.workspace.window.outcomes.items (world after.pass after.clock) news) (ap (λ (x : Window). x.calls.items) w.replace-made.ensures.after ∙ w.new.ensures.0) w.answer_each-in-Err.ensures.gathered) in
          rw (w.pass-is, w.clock-is, w.connections-is, w.workspace-is, w.connection-is) (subst (λ (x : Window). AreGathered gives ticks (world p c0) calls (old ∷ olds) x.outcomes.items (world after.pass after.clock) (w.end-in-Err.new.self ∷ news)) (sym w.replace-made.ensures.value) is)
    ] in
    rw (front, back) all
