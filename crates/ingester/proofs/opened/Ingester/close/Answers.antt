use Rattle.std.proofs.Common.{rules, ◌≡◌, ◌+◌, ◌<◌, ◌≤◌, List, [], ◌∷◌, length, length-set, length-append, sym, ap, ◌∙◌, subst, arith}
use Rattle.std.specs.Prelude.{slice_get}
use Rattle.std.specs.Vec.{vec_capacity}
use Rattle.std.proofs.lemmas.Option.{slice_get_within}
use Rattle.owners.specs.Bonds.{ReceiveFrom}
use Rattle.history.specs.Handles.{Passed}
use Rattle.owners.specs.Openings.{Opening}
use Rattle.owners.proofs.MailboxSteps.{bound_at, bound_set}
use Rattle.owners.specs.Places.{IsOf}
use Rattle.ingester.specs.Closings.{IsLast, AreLast}
use Rattle.ingester.proofs.Comparing.{set_alike}
use Rattle.ingester.proofs.Lasting.{last_of, last_more, written_back}
use Rattle.ingester.proofs.opened.Ingester.close.Goals as goal

pub loop-number-init : goal.loop-number-init
loop-number-init g c =
    let inv = c.self.invariant in
    let closer = c.take_out-backs.ensures in
    let empty : length c.take_out-backs.result.room.items ≡ 0 = sym c.take_out-backs.result.room.ok.0 ∙ closer.none in
    record {
      backs = subst (λ (o : Opening g.row.D.Denot). ReceiveFrom o c.take_out-backs.result.backs.items) inv.closing_is closer.backs.0;
      many = closer.backs.1 ∙ (ap (λ (o : Opening g.row.D.Denot). o.about.shards) inv.closing_is ∙ inv.is_opening.shards);
      passes = set_alike c.args.passes.items 0 c.index_mut.result.now c.end_owners.new.self c.end_owners.ensures c.index_mut.ensures.value;
      room = subst (λ n. n ≤ vec_capacity c.take_out-backs.result.room) (ap (λ (o : Opening g.row.D.Denot). o.about.shards) inv.closing_is ∙ inv.is_opening.shards) closer.room;
      len = empty;
      last = λ k shard e. let lt = slice_get_within c.take_out-backs.result.room.items k shard e in absurd (omega arith);
    }

pub returns : goal.returns
returns g c =
    let inv = c.loop-number.invariant in
    let len = inv.len in
    let all : length c.loop-number.shards.items ≡ c.self.inside.count = search rules in
    let left = all ∙ (sym c.self.invariant.is_opening.shards ∙ ap (λ (o : Opening g.row.D.Denot). o.about.shards) c.self.view_is) in
    λ i. record { opening = c.self.view_is i; passes = inv.passes i; left = left i }

pub compare-requires : goal.compare-requires
compare-requires g c =
    let inv = c.loop-number.invariant in
    let k = c.loop-number.number in
    let lt : k < length c.loop-number.backs.items = subst (λ n. k < n) (sym inv.many) c.loop-number-test.true in
    let bound = bound_at c.self.inside.origin c.loop-number.backs.items k c.index_mut-in-loop-number.result.now inv.backs lt c.index_mut-in-loop-number.ensures.value in
    let table = (c.take_shard-shard.ensures.shard c.self.inside.origin k bound).table ∙ ap (λ o. o.table) c.self.view_is in
    let all = c.as_mut_slice.ensures.value ∙ inv.passes in
    record { table = λ i pass e. (c.requires.passes i pass (ap (λ l. slice_get l i) (sym all) ∙ e)).table ∙ sym table }

pub loop-number-preserved : goal.loop-number-preserved
loop-number-preserved g c =
    let inv = c.loop-number.invariant in
    let k = c.loop-number.number in
    let lt : k < length c.loop-number.backs.items = subst (λ n. k < n) (sym inv.many) c.loop-number-test.true in
    let bound = bound_at c.self.inside.origin c.loop-number.backs.items k c.index_mut-in-loop-number.result.now inv.backs lt c.index_mut-in-loop-number.ensures.value in
    let lent = c.as_mut_slice.ensures in
    let pushed = c.push_reserved.ensures in
    let taken = subst (λ (o : Opening g.row.D.Denot). IsOf g.D.Disk.sight g.D.Disk.follows o c.loop-number.number c.take_shard-shard.result) c.self.view_is (c.take_shard-shard.ensures.shard c.self.inside.origin k bound) in
    let last = last_of g.D.Disk.sight g.D.Disk.follows c.args.self c.args.passes.items _ c.loop-number.number c.take_shard-shard.result c.compare.new.shard taken c.compare.ensures.shard (lent.value ∙ inv.passes) c.compare.ensures.compared in
    record {
      backs = bound_set c.self.inside.origin c.loop-number.backs.items k c.take_shard-shard.new.back inv.backs (c.take_shard-shard.ensures.same ∙ bound);
      many = length-set c.loop-number.backs.items c.loop-number.number c.take_shard-shard.new.back ∙ inv.many;
      passes = written_back c.loop-number.passes.items c.compare.new.passes c.loop-number.passes.len (c.compare.ensures.passes ∙ lent.value) (sym lent.len ∙ ap length lent.value) ∙ inv.passes;
      room = subst (λ n. c.self.inside.count ≤ n) (sym pushed.capacity) inv.room;
      len = ap length pushed.items ∙ (length-append c.loop-number.shards.items (c.compare.new.shard ∷ []) ∙ ap (λ n. n + 1) inv.len);
      last = λ k z e. last_more g.D.Disk.sight g.D.Disk.follows c.args.self c.args.passes.items c.loop-number.shards.items c.compare.new.shard inv.last (subst (λ n. IsLast g.D.Disk.sight g.D.Disk.follows c.args.self c.args.passes.items n c.compare.new.shard) (sym inv.len) last) k z (ap (λ l. slice_get l k) (sym pushed.items) ∙ e);
    }

pub invariant_of-result : goal.invariant_of-result
invariant_of-result g c =
    let inv = c.loop-number.invariant in
    let some = c.requires.some in
    let some_pass : 0 < length c.args.passes.items = subst (λ n. 0 < n) c.args.passes.ok.0 some in (
      subst (λ (z : Opening g.row.D.Denot × List Passed). AreLast g.D.Disk.sight g.D.Disk.follows z.0 z.1 c.loop-number.shards.items) (λ i. (sym c.self.view_is i, sym inv.passes i))
          (record { some_pass = some_pass; each = inv.last }),
      c.end.ensures ∙ sym c.self.invariant.is_opening.same_table,
    )

pub index_mut-requires : goal.index_mut-requires
index_mut-requires g c = c.requires.some

pub index_mut-requires-in-loop-number : goal.index_mut-requires-in-loop-number
index_mut-requires-in-loop-number g c = subst (λ n. c.loop-number.number < n) (sym (c.loop-number.backs.ok.0 ∙ c.loop-number.invariant.many)) c.loop-number-test.true

pub push_reserved-requires : goal.push_reserved-requires
push_reserved-requires g c =
    let inv = c.loop-number.invariant in
    let len = inv.len in
    let room = inv.room in
    let items = c.loop-number.shards.ok.0 in
    let more = c.loop-number-test.true in
    omega arith
