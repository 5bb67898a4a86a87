use Rattle.std.proofs.Common.{◌≡◌, ◌+◌, ◌<◌, ◌≤◌, ℕ, List, length, length-set, add-zero, refl, ap, sym, ◌∙◌, subst, arith}
use Rattle.std.specs.VecDeque.{deque_len}
use Rattle.accept.specs.declared.call.Call.{Call}
use Rattle.history.specs.Handles.{Passed}
use Rattle.owners.proofs.Each.{routes_set}
use Rattle.ingester.specs.Batches.{HasMessages, HasBegunRound, AreCountedFrom}
use Rattle.ingester.proofs.Batching.{below_same}
use Rattle.ingester.proofs.Receiving.{announced_ahead}
use Rattle.ingester.proofs.Gathering.{some_first, some_more, first_waits, more_wait, left_numbers}
use Rattle.ingester.proofs.opened.Ingester.announce_all.Goals as goal

none_open : (waiting calls most : ℕ) → waiting ≡ 0 → calls ≤ most → waiting + calls ≤ most
none_open waiting calls most none few = omega arith

pub loop-shard-init : goal.loop-shard-init
loop-shard-init g c =
    let first = c.in_ok-first.ensures.next in
    let next = first.0 in
    let was = c.args.pass.now in
    record {
      some = some_first was c.announce_next.new.pass c.args.calls.now.items c.announce_next.new.calls.items c.in_ok-first.first c.requires.idle next;
      messages = c.in_ok-first.ensures.messages;
      positive = omega arith;
      waiting = first_waits was c.announce_next.new.pass next.call c.requires.idle next.pass;
      calls = c.in_ok-first.ensures.not;
      capacity = c.in_ok-first.ensures.capacity;
      next = ap (λ (n : ℕ). n + 1) (next.number_is ∙ sym (ap (λ (p : Passed). p.caller.last) next.pass));
      fits = let low = first.1 in omega arith;
      table = ap (λ (p : Passed). p.table) next.pass ∙ c.requires.pass.table;
      about = ap (λ (p : Passed). p.caller.about) next.pass ∙ c.requires.pass.about;
      pass = ap (λ (p : Passed). p.caller.pass) next.pass;
      numbers = left_numbers c.args.calls.now.items next.call c.announce_next.new.calls.items next.calls_are c.requires.numbers;
      below = below_same c.args.self.now.about.shards c.in_ok-first.shard 64 first.2;
      places = refl;
    }

pub loop-shard-preserved : goal.loop-shard-preserved
loop-shard-preserved g c =
    let inv = c.loop-shard.invariant in
    let came = c.in-Some.ensures.next in
    let next = came.0 in
    let was = c.loop-shard.pass in
    let now = c.announce_next-in-loop-shard.new.pass in
    let left = c.announce_next-in-loop-shard.new.calls in
    let had = inv.calls in
    let fewer : deque_len left + 1 ≡ deque_len c.loop-shard.calls = c.in-Some.ensures.not in
    let few = c.requires.few in
    let places = inv.places in
    let within : c.loop-shard.count < length c.loop-shard.shards = omega arith in
    record {
      some = some_more c.args.pass.now was now c.args.calls.now.items c.loop-shard.calls.items left.items c.in_ok-first.first c.loop-shard.count c.in-Some.field-0-0 inv.some inv.waiting inv.next next;
      messages = subst (λ p. HasMessages c.args.self.now p now.caller c.announce_next-in-loop-shard.new.routes.items) inv.pass c.in-Some.ensures.messages;
      positive = omega arith;
      waiting = more_wait was now next.call c.loop-shard.count inv.waiting next.pass;
      calls = let had = inv.calls in let fewer : deque_len left + 1 ≡ deque_len c.loop-shard.calls = c.in-Some.ensures.not in omega arith;
      capacity = c.in-Some.ensures.capacity ∙ inv.capacity;
      next = let last : now.caller.last ≡ was.caller.last + 1 = ap (λ (p : Passed). p.caller.last) next.pass in let had = inv.next in omega arith;
      fits = let low = came.1 in let is = next.number_is in let had = inv.next in omega arith;
      table = ap (λ (p : Passed). p.table) next.pass ∙ inv.table;
      about = ap (λ (p : Passed). p.caller.about) next.pass ∙ inv.about;
      pass = ap (λ (p : Passed). p.caller.pass) next.pass ∙ inv.pass;
      numbers = left_numbers c.loop-shard.calls.items next.call left.items next.calls_are inv.numbers;
      below = routes_set (λ _ shard. shard < c.args.self.now.about.shards) c.loop-shard.shards c.loop-shard.count c.in-Some.shard within inv.below came.2;
      places = length-set c.loop-shard.shards c.loop-shard.count c.in-Some.shard ∙ inv.places;
    }

pub returns-clause-round : goal.returns-clause-round
returns-clause-round g c =
    let inv = c.loop-shard.invariant in
    let was = c.args.pass.now in
    let now = c.loop-shard.pass in
    let none = c.in_default.ensures.not in
    let ahead = announced_ahead was now inv.some.front inv.some.announced in
    subst (λ (z : Passed × List Call). HasBegunRound c.args.self.now was z.0 c.args.calls.now.items z.1 (record { pass = c.number-own.result; first = c.in_ok-first.first; count = c.loop-shard.count; shards = c.loop-shard.shards }))
    (λ i. (sym none.0 i, sym (ap (λ d. d.items) none.1) i)) (record {
      some = inv.some;
      idle = c.requires.idle;
      positive = inv.positive;
      under_way = record {
        table = inv.table;
        about = inv.about;
        rested = ahead.rested inv.some.rested;
        own = c.number-own.ensures.0 ∙ sym inv.pass;
        numbers = subst (λ n. AreCountedFrom n now.caller.pending) (sym (add-zero c.in_ok-first.first)) inv.some.numbers;
        long = omega (arith, inv.waiting);
        few = omega (arith, inv.calls, c.requires.few);
        fits = inv.fits;
        below = inv.below;
      };
    })

pub announce_next-requires-clause-numbers : goal.announce_next-requires-clause-numbers
announce_next-requires-clause-numbers g c = c.requires.numbers

pub announce_next-requires-clause-pass : goal.announce_next-requires-clause-pass
announce_next-requires-clause-pass g c = (c.requires.pass.table, c.requires.pass.about)

pub announce_next-requires-clause-few : goal.announce_next-requires-clause-few
announce_next-requires-clause-few g c = none_open _ _ _ (ap length c.requires.idle) c.requires.few

pub announce_next-requires-in-loop-shard-clause-pass : goal.announce_next-requires-in-loop-shard-clause-pass
announce_next-requires-in-loop-shard-clause-pass g c = (c.loop-shard.invariant.table, c.loop-shard.invariant.about)

pub announce_next-requires-in-loop-shard-clause-numbers : goal.announce_next-requires-in-loop-shard-clause-numbers
announce_next-requires-in-loop-shard-clause-numbers g c = c.loop-shard.invariant.numbers

pub returns-clause-messages : goal.returns-clause-messages
returns-clause-messages g c =
    let last = c.announce_next-in-loop-shard.new in
    subst (λ (p : ℕ). HasMessages c.args.self.now p last.pass.caller last.routes.items) c.loop-shard.invariant.pass c.in_default.ensures.messages

pub returns-clause-count : goal.returns-clause-count
returns-clause-count g c = ap (λ d. deque_len d + c.loop-shard.count) c.in_default.ensures.not.1 ∙ c.loop-shard.invariant.calls

pub returns-clause-capacity : goal.returns-clause-capacity
returns-clause-capacity g c = c.in_default.ensures.capacity ∙ c.loop-shard.invariant.capacity
