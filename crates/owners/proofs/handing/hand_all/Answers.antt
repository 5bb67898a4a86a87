use Rattle.std.proofs.Common.{◌≡◌, ℕ, ◌+◌, ◌<◌, sym, ◌∙◌, subst, arith}
use Rattle.owners.specs.Places.{AreShardsOf}
use Rattle.owners.proofs.handing.hand_all.Goals as goal

all_left : (n end : ℕ) → end ≡ n → 0 + n ≡ end
all_left n end e = omega arith

some_left : (k n end : ℕ) → k + n ≡ end → k < end → 0 < n
some_left k n end left under = omega arith

one_less : (k n fewer end : ℕ) → fewer + 1 ≡ n → k + n ≡ end → (k + 1) + fewer ≡ end
one_less k n fewer end less left = omega arith

pub loop-number-init : goal.loop-number-init
loop-number-init g c =
    record {
      ends = λ o are. are;
      shards = λ o are. subst (AreShardsOf g.D.Disk.sight g.D.Disk.follows o) (sym c.from_vec-shards.ensures.items) are;
      left = all_left _ _ c.len-number-end.ensures;
      same = c.from_vec-shards.ensures.len ∙ sym c.requires.count;
    }

pub next_owner-owner-requires-clause-opening : goal.next_owner-owner-requires-clause-opening
next_owner-owner-requires-clause-opening g c =
    let o = c.requires.opening in
    (o.0, c.loop-number.invariant.shards o.0 o.1, c.loop-number.invariant.ends o.0 o.2)

pub next_owner-owner-requires-clause-some : goal.next_owner-owner-requires-clause-some
next_owner-owner-requires-clause-some g c = some_left _ _ _ c.loop-number.invariant.left c.loop-number-test.true

pub loop-number-preserved : goal.loop-number-preserved
loop-number-preserved g c =
    let next = c.next_owner-owner.ensures in
    record {
      ends = λ o are. next.ends o (c.loop-number.invariant.ends o are);
      shards = λ o are. next.shards o (c.loop-number.invariant.shards o are);
      left = one_less _ _ _ _ next.len c.loop-number.invariant.left;
      same = next.same;
    }
