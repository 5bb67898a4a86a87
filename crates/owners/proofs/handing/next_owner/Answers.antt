use Rattle.std.proofs.Common.{◌≡◌, ℕ, ◌+◌, ◌<◌, sym, ◌∙◌, subst, arith}
use Rattle.std.specs.Prelude.{Option}
use Rattle.shard.specs.Shards.{Sharded}
use Rattle.owners.specs.Openings.{Opening}
use Rattle.owners.specs.Owners.{HasEndsOf}
use Rattle.owners.specs.Places.{IsOf, IsShardAt}
use Rattle.owners.proofs.Each.{each_first}
use Rattle.owners.proofs.handing.next_owner.Goals as goal

none_left : (n : ℕ) → n ≡ 0 → 0 < n → ⊥
none_left n none some = omega arith

same_left : (a b c d : ℕ) → a + 1 ≡ b → c + 1 ≡ d → b ≡ d → a ≡ c
same_left a b c d one other same = omega arith

pub unreachable-requires : goal.unreachable-requires
unreachable-requires g c = none_left _ c.in_default.ensures.cases.0 c.requires.some

pub unreachable-requires-in_default-pop_front : goal.unreachable-requires-in_default-pop_front
unreachable-requires-in_default-pop_front g c =
    none_left _ (sym c.requires.same ∙ c.in_default-pop_front.ensures.cases.0) c.requires.some

pub unreachable-requires-in_default-place : goal.unreachable-requires-in_default-place
unreachable-requires-in_default-place g c =
    let there = each_first (IsShardAt g.D.Disk.sight g.D.Disk.follows c.requires.opening.0) c.args.number c.args.shards.now.items c.pop_front-2.new.self.items c.in-Some-pop_front.place c.in-Some-pop_front.ensures.items c.requires.opening.1 in
    subst (λ (place : Option (Sharded g.row.D.Denot)). IsShardAt g.D.Disk.sight g.D.Disk.follows c.requires.opening.0 c.args.number place) c.in_default-place.is there.0

pub invariant_of-result : goal.invariant_of-result
invariant_of-result g c =
    let there = each_first (IsShardAt g.D.Disk.sight g.D.Disk.follows c.requires.opening.0) c.args.number c.args.shards.now.items c.pop_front-2.new.self.items c.in-Some-pop_front.place c.in-Some-pop_front.ensures.items c.requires.opening.1 in
    let is_of = subst (λ (place : Option (Sharded g.row.D.Denot)). IsShardAt g.D.Disk.sight g.D.Disk.follows c.requires.opening.0 c.args.number place) c.in-Some-place.is there.0 in
    let has = (each_first (HasEndsOf c.requires.opening.0) c.args.number c.args.all_ends.now.items c.pop_front.new.self.items c.in-Some.ends c.in-Some.ensures.items c.requires.opening.2).0 in
    record {
      has_ends = has.0;
      is_of = subst (λ (o : Opening g.row.D.Denot). IsOf g.D.Disk.sight g.D.Disk.follows o c.args.number c.in-Some-place.state) (sym has.1) is_of;
    }

pub returns-clause-shards : goal.returns-clause-shards
returns-clause-shards g c = λ o are.
    (each_first (IsShardAt g.D.Disk.sight g.D.Disk.follows o) c.args.number c.args.shards.now.items c.pop_front-2.new.self.items c.in-Some-pop_front.place c.in-Some-pop_front.ensures.items are).1

pub returns-clause-ends : goal.returns-clause-ends
returns-clause-ends g c = λ o are.
    (each_first (HasEndsOf o) c.args.number c.args.all_ends.now.items c.pop_front.new.self.items c.in-Some.ends c.in-Some.ensures.items are).1

pub returns-clause-len : goal.returns-clause-len
returns-clause-len g c = c.in-Some.ensures.cases

pub returns-clause-same : goal.returns-clause-same
returns-clause-same g c =
    same_left _ _ _ _ c.in-Some-pop_front.ensures.cases c.in-Some.ensures.cases c.requires.same
