use Rattle.std.proofs.Common.{ℕ, ◌≤◌, vec_len, sym, ap, ◌+◌, ◌∙◌, subst, arith}
use Rattle.ingester.proofs.building.sizes_of.Goals as goal

pub loop-place-init : goal.loop-place-init
loop-place-init g c = record { len = c.requires.0; room = c.requires.1 }

pub push_reserved-requires : goal.push_reserved-requires
push_reserved-requires g c =
    let inv = c.loop-place.invariant in
    let len = inv.len in
    let room = inv.room in
    let lt = c.loop-place-test.true in
    let all = c.args.shards.now.ok.0 in
    omega arith

pub loop-place-preserved : goal.loop-place-preserved
loop-place-preserved g c =
    let inv = c.loop-place.invariant in
    record { len = c.push_reserved.ensures.len ∙ ap (λ (n : ℕ). n + 1) inv.len; room = subst (λ n. vec_len c.args.shards.now ≤ n) (sym c.push_reserved.ensures.capacity) inv.room }
