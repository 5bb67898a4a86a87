use Rattle.std.proofs.Common.{◌≡◌, ◌+◌, ◌≤◌, ℕ, [], ◌∷◌, ap, sym, ◌∙◌, subst, arith}
use Rattle.std.specs.VecDeque.{deque_len, deque_capacity}
use Rattle.std.specs.declared.alloc.Global.{Global}
use Rattle.std.specs.declared.collections.VecDeque.{VecDeque}
use Rattle.accept.specs.declared.call.Call.{Call}
use Rattle.history.specs.Handles.{Passed}
use Rattle.ingester.specs.Calls.{IsPassOf}
use Rattle.ingester.specs.Batches.{HasMessages, HasIdleRoutes, IsNextRefused}
use Rattle.ingester.proofs.Receiving.{announced_ahead, round_more, refused_more, refused_pass, ended_pass, rest_numbers}
use Rattle.ingester.proofs.opened.Ingester.call_by.Goals as goal

fewer_left : (outcomes calls had most : ℕ) → outcomes + calls ≡ had → had ≤ most → calls ≤ most
fewer_left outcomes calls had most lens few = omega arith

round_fits : (outcomes calls had left count cap room : ℕ) → outcomes + calls ≡ had → left + count ≡ calls → had ≤ cap → room ≡ cap → outcomes + count ≤ room
round_fits outcomes calls had left count cap room lens begun much same = omega arith

pub make_round-requires-clause-messages : goal.make_round-requires-clause-messages
make_round-requires-clause-messages g c =
    let begun = c.in-Some.ensures.round in
    let ahead = announced_ahead c.loop-alloc.pass c.announce_some.new.pass begun.some.front begun.some.announced in
    subst (λ p. HasMessages c.args.self.now p c.announce_some.new.pass.caller c.announce_some.new.routes.items) (sym (begun.under_way.own ∙ ahead.pass)) c.in-Some.ensures.routes

pub loop-alloc-preserved-in-Some : goal.loop-alloc-preserved-in-Some
loop-alloc-preserved-in-Some g c =
    let inv = c.loop-alloc.invariant in
    let begun = c.in-Some.ensures.round in
    let some = begun.some in
    let ahead = announced_ahead c.loop-alloc.pass c.announce_some.new.pass some.front some.announced in
    let came = c.make_round.ensures in
    let round = c.in-Some.round in
    let left = c.announce_some.new.calls in
    let new = c.make_round.new.pass in
    let more = round_more c.args.self.now c.args.pass.now c.loop-alloc.pass c.announce_some.new.pass new c.args.calls.now.items c.loop-alloc.calls.items left.items round.first round.count c.loop-alloc.outcomes.items c.make_round.new.outcomes.items inv.given inv.pass some came.ended in
    record {
      given = more.so_far;
      pass = more.pass;
      own = ended_pass c.args.self.now c.announce_some.new.pass new c.loop-alloc.outcomes.items c.make_round.new.outcomes.items round.count came.ended ∙ (ahead.pass ∙ inv.own);
      routes = subst (λ p. HasIdleRoutes c.args.self.now p c.make_round.new.routes.items) (begun.under_way.own ∙ (ahead.pass ∙ inv.own)) came.routes;
      lens = let had = inv.lens in let fewer_are : deque_len left + round.count ≡ deque_len c.loop-alloc.calls = c.in-Some.ensures.count in let long = came.len in omega arith;
      calls = c.in-Some.ensures.capacity ∙ inv.calls;
      outcomes = came.capacity ∙ inv.outcomes;
      numbers = rest_numbers c.loop-alloc.calls.items some.front left.items some.calls_are inv.numbers;
    }

pub loop-alloc-preserved : goal.loop-alloc-preserved
loop-alloc-preserved g c =
    let inv = c.loop-alloc.invariant in
    let now = c.args.self.now in
    let none = c.in-None.ensures.count in
    let new = c.refuse_next-fault.new.pass in
    let left = c.refuse_next-fault.new.calls in
    let fault = c.refuse_next-fault.result in
    let refused = subst (λ (z : Passed × VecDeque Call Global). IsNextRefused now z.0 new z.1.items left.items fault) (λ i. (none.0 i, none.1 i)) c.refuse_next-fault.ensures.refused in
    let more = refused_more now c.args.pass.now c.loop-alloc.pass new c.args.calls.now.items c.loop-alloc.calls.items left.items c.loop-alloc.outcomes.items c.push_back_reserved.new.self.items fault inv.given refused c.push_back_reserved.ensures.items in
    record {
      given = more.so_far;
      pass = more.pass;
      own = refused_pass c.loop-alloc.pass new refused.call fault refused.given.refused ∙ inv.own;
      routes = subst (λ p. HasIdleRoutes now p c.announce_some.new.routes.items) inv.own c.in-None.ensures.routes;
      lens =
          let had = inv.lens in
          let same : deque_len c.announce_some.new.calls ≡ deque_len c.loop-alloc.calls = ap (λ d. deque_len d) none.1 in
          let fewer = c.refuse_next-fault.ensures.len in
          let long = c.push_back_reserved.ensures.len in
          omega arith;
      calls = c.refuse_next-fault.ensures.capacity ∙ ap (λ d. deque_capacity d) none.1 ∙ inv.calls;
      outcomes = c.push_back_reserved.ensures.capacity ∙ inv.outcomes;
      numbers = rest_numbers c.loop-alloc.calls.items (refused.call ∷ []) left.items refused.calls_are inv.numbers;
    }

pub announce_some-requires-clause-pass : goal.announce_some-requires-clause-pass
announce_some-requires-clause-pass g c = c.loop-alloc.invariant.pass

pub announce_some-requires-clause-numbers : goal.announce_some-requires-clause-numbers
announce_some-requires-clause-numbers g c = c.loop-alloc.invariant.numbers

pub announce_some-requires-clause-few : goal.announce_some-requires-clause-few
announce_some-requires-clause-few g c = fewer_left _ _ _ _ c.loop-alloc.invariant.lens c.requires.calls.0

pub announce_some-requires-clause-routes : goal.announce_some-requires-clause-routes
announce_some-requires-clause-routes g c = subst (λ (p : ℕ). HasIdleRoutes c.args.self.now p c.loop-alloc.routes.items) (sym c.loop-alloc.invariant.own) c.loop-alloc.invariant.routes

pub make_round-requires-clause-round : goal.make_round-requires-clause-round
make_round-requires-clause-round g c = c.in-Some.ensures.round.under_way

pub make_round-requires-clause-room : goal.make_round-requires-clause-room
make_round-requires-clause-room g c = round_fits _ _ _ _ _ _ _ c.loop-alloc.invariant.lens c.in-Some.ensures.count c.requires.outcomes.1 c.loop-alloc.invariant.outcomes

pub refuse_next-fault-requires-clause-pass : goal.refuse_next-fault-requires-clause-pass
refuse_next-fault-requires-clause-pass g c = subst (λ (p : Passed). IsPassOf c.args.self.now p) (sym c.in-None.ensures.count.0) c.loop-alloc.invariant.pass

pub returns-clause-pass : goal.returns-clause-pass
returns-clause-pass g c = c.loop-alloc.invariant.pass
