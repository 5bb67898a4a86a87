use Rattle.std.proofs.Common.{rules, ◌≡◌, ℕ, suc, ◌+◌, ◌<◌, ◌≤◌, ◌++◌, [], ◌∷◌, map, length, refl, sym, ap, ◌∙◌, subst, arith}
use Rattle.std.specs.Prelude.{Some, None}
use Rattle.std.proofs.lemmas.List.{nil_from_length}
use Rattle.wal.specs.Opening.{disks}
use Rattle.ingester.specs.Makings.{AreShardsIn, logs_of_shards}
use Rattle.ingester.proofs.Making.{in_front, in_last, moved_shard}
use Rattle.ingester.proofs.made_shards.return_shards.Goals as goal

has_place : (shards left slots all had cap room : ℕ) → left + 1 ≡ shards → shards + slots ≡ all + had → all + had ≤ cap → room ≡ cap → slots < room
has_place shards left slots all had cap room popped so_far much same = omega arith

one_back : (shards left slots more all had : ℕ) → shards + slots ≡ all + had → left + 1 ≡ shards → more ≡ slots + 1 → left + more ≡ all + had
one_back shards left slots more all had so_far popped pushed = omega arith

all_back : (shards slots all had : ℕ) → shards ≡ 0 → shards + slots ≡ all + had → slots ≡ all + had
all_back shards slots all had none so_far = omega arith

one_fewer : (shards left : ℕ) → left + 1 ≡ shards → suc left ≤ shards
one_fewer shards left popped = omega arith

pub loop-last-init : goal.loop-last-init
loop-last-init g c = record { items = refl; shards = c.requires.shards; len = refl; capacity = refl }

pub unreachable-requires : goal.unreachable-requires
unreachable-requires g c =
    in_last c.args.ended.now c.pop.new.self.items None (subst (AreShardsIn c.args.ended.now) (c.in-Some.ensures.items ∙ ap (λ x. c.pop.new.self.items ++ x ∷ []) c.in_default-last.is) c.loop-last.invariant.shards)

pub into_slots-requires : goal.into_slots-requires
into_slots-requires g c =
    let all = c.in-Some.ensures.items ∙ ap (λ x. c.pop.new.self.items ++ x ∷ []) c.in-Some-last.is in
    (search rules, sym (in_last c.args.ended.now c.pop.new.self.items (Some c.in-Some-last.shard) (subst (AreShardsIn c.args.ended.now) all c.loop-last.invariant.shards)).0)

pub push_front_reserved-requires : goal.push_front_reserved-requires
push_front_reserved-requires g c =
    let inv = c.loop-last.invariant in
    has_place _ _ _ _ _ _ _ c.in-Some.ensures.len inv.len c.requires.room inv.capacity

pub loop-last-preserved : goal.loop-last-preserved
loop-last-preserved g c =
    let inv = c.loop-last.invariant in
    let shard = c.in-Some-last.shard in
    let all = c.in-Some.ensures.items ∙ ap (λ x. c.pop.new.self.items ++ x ∷ []) c.in-Some-last.is in
    let front = c.push_front_reserved.ensures in
    record {
      items = ap (λ l. map disks (logs_of_shards c.pop.new.self.items) ++ l) (front.items ∙ ap (λ x. x ∷ c.loop-last.slots.items) c.into_slots.ensures.slots)
          ∙ (moved_shard c.pop.new.self.items c.loop-last.shards.items shard c.loop-last.slots.items all ∙ inv.items);
      shards = in_front c.args.ended.now c.pop.new.self.items _ (subst (AreShardsIn c.args.ended.now) all inv.shards);
      len = one_back _ _ _ _ _ _ inv.len c.in-Some.ensures.len front.len;
      capacity = front.capacity ∙ inv.capacity;
    }

pub returns-clause-items : goal.returns-clause-items
returns-clause-items g c =
    let none = c.in_default.ensures.cases.0 in
    let no_shards : length c.loop-last.shards.items ≡ 0 = sym c.loop-last.shards.ok.0 ∙ none in
    ap (λ s. map disks (logs_of_shards s) ++ c.loop-last.slots.items) (sym (nil_from_length _ no_shards)) ∙ c.loop-last.invariant.items

pub returns-clause-capacity : goal.returns-clause-capacity
returns-clause-capacity g c = c.loop-last.invariant.capacity

pub returns-clause-len : goal.returns-clause-len
returns-clause-len g c = all_back _ _ _ _ c.in_default.ensures.cases.0 c.loop-last.invariant.len

pub loop-last-smaller : goal.loop-last-smaller
loop-last-smaller g c = one_fewer _ _ c.in-Some.ensures.len
