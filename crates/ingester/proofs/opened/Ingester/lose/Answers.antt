use Rattle.std.proofs.Common.{rules, ◌≡◌, ℕ, ◌+◌, ◌-◌, ◌<◌, ◌≤◌, ◌++◌, ◌∷◌, [], length, length-set, sym, ap, ◌∙◌, subst, append_assoc, arith}
use Rattle.std.specs.Prelude.{Some, Err, slice_index_or}
use Rattle.std.proofs.lemmas.Option.{slice_get-get_or}
use Rattle.std.specs.VecDeque.{deque_len}
use Rattle.owners.specs.Openings.{home_of}
use Rattle.owners.specs.Routes.{IsRoute}
use Rattle.owners.proofs.Each.{routes_set}
use Rattle.accept.specs.declared.fault.CallFault.TheVariants.{InDoubt}
use Rattle.ingester.specs.Batches.{doubts}
use Rattle.ingester.proofs.Batching.{below_at}
use Rattle.ingester.proofs.Receiving.{first_waits_for, has_place, doubts_more}
use Rattle.ingester.proofs.opened.Ingester.lose.Goals as goal

at_end : (counter count from : ℕ) → count ≤ counter → (from ≤ count → counter ≤ count) → from < count → counter ≡ count
at_end counter count from over upto some = omega arith

pub take_back-requires-clause-route : goal.take_back-requires-clause-route
take_back-requires-clause-route g c =
    let items = c.args.routes.now.items in
    let k = slice_index_or c.args.round.now.shards c.args.from 0 in
    let within : c.args.from < length c.args.round.now.shards = search rules in
    let low = below_at c.args.self.now.about.shards c.args.round.now.shards c.args.from c.requires.round.below within in
    let lt : k < length items = subst (λ n. k < n) (sym c.requires.routes.1) low in
    (k, subst (λ p. IsRoute (home_of c.args.self.now) p k c.index_mut.result.now) c.requires.round.own (c.requires.routes.0 k c.index_mut.result.now (slice_get-get_or items k c.index_mut.result.now lt ∙ ap Some (sym c.index_mut.ensures.value))))

pub loop-preserved : goal.loop-preserved
loop-preserved g c =
    let inv = c.loop.invariant in
    let was = c.args.outcomes.now.items in
    let least = inv.least in
    let next : (c.loop.counter - c.args.from) + 1 ≡ (c.loop.counter + 1) - c.args.from = omega arith in
    record {
      least = omega arith;
      items = c.push_back_reserved.ensures.items ∙ (ap (λ l. l ++ Err InDoubt ∷ []) inv.items ∙ (append_assoc was (doubts (c.loop.counter - c.args.from)) (Err InDoubt ∷ []) ∙ ap (λ l. was ++ l) (sym (doubts_more (c.loop.counter - c.args.from)) ∙ ap doubts next)));
      len = let had = inv.len in let long = c.push_back_reserved.ensures.len in omega arith;
      capacity = c.push_back_reserved.ensures.capacity ∙ inv.capacity;
    }

pub returns-clause-routes : goal.returns-clause-routes
returns-clause-routes g c =
    let items = c.args.routes.now.items in
    let k = slice_index_or c.args.round.now.shards c.args.from 0 in
    let within : c.args.from < length c.args.round.now.shards = search rules in
    let low = below_at c.args.self.now.about.shards c.args.round.now.shards c.args.from c.requires.round.below within in
    let lt : k < length items = subst (λ n. k < n) (sym c.requires.routes.1) low in (
      routes_set (IsRoute (home_of c.args.self.now) c.args.round.now.pass) items k c.take_back.new.route lt c.requires.routes.0 (subst (λ p. IsRoute (home_of c.args.self.now) p k c.take_back.new.route) (sym c.requires.round.own) (c.take_back.ensures.route k (subst (λ p. IsRoute (home_of c.args.self.now) p k c.index_mut.result.now) c.requires.round.own (c.requires.routes.0 k c.index_mut.result.now (slice_get-get_or items k c.index_mut.result.now lt ∙ ap Some (sym c.index_mut.ensures.value)))))),
      length-set items k c.take_back.new.route ∙ c.requires.routes.1,
    )

pub take_back-requires-clause-table : goal.take_back-requires-clause-table
take_back-requires-clause-table g c = c.requires.round.table

pub take_back-requires-clause-about : goal.take_back-requires-clause-about
take_back-requires-clause-about g c = c.requires.round.about

pub take_back-requires-clause-number : goal.take_back-requires-clause-number
take_back-requires-clause-number g c =
    let round = c.requires.round in
    first_waits_for _ _ _ _ round.numbers round.long c.requires.some

pub push_back_reserved-requires : goal.push_back_reserved-requires
push_back_reserved-requires g c =
    let inv = c.loop.invariant in
    has_place _ _ _ _ _ _ _ inv.len c.loop-test.true c.requires.room inv.capacity

pub returns-clause-len : goal.returns-clause-len
returns-clause-len g c = c.loop.invariant.len ∙ ap (λ (n : ℕ). deque_len c.args.outcomes.now + n) (at_end _ _ _ c.loop-test.false c.loop.auto.counter-end c.requires.some)

pub returns-clause-capacity : goal.returns-clause-capacity
returns-clause-capacity g c = c.loop.invariant.capacity
