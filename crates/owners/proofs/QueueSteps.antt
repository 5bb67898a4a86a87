-- How ends are put together.
use Rattle.std.proofs.Common.{◌≡◌, ℕ, ◌+◌, true, false, [], ◌∷◌, ◌++◌, length, length-append, refl, ap, ◌∙◌}
use Rattle.std.specs.Prelude.{Option, None, Some, is_some}
use Rattle.keyed.specs.declared.binding.Binding.TheVariants.{Bound}
use Rattle.keyed.specs.Queues.{sends_to, receives_as}
use Rattle.owners.specs.Homes.{Homed}
use Rattle.owners.specs.declared.rows.ShardQueues.{ShardQueues}
use Rattle.owners.specs.QueueEnds.{IsShardQueues}
use Rattle.owners.proofs.Each.{each_next}

-- one pass more
pub queues_more : (home : Homed) (p k : ℕ) (old now : ShardQueues) → IsShardQueues home p k old → sends_to now.orders ≡ sends_to old.orders → now.gets ≡ old.gets
    → (end : _) → now.answers.items ≡ old.answers.items ++ end ∷ [] → sends_to end ≡ Bound home p → IsShardQueues home (p + 1) k now
queues_more home p k old now h orders gets end items is = let long = length-append old.answers.items (end ∷ []) in let was = h.count in
    record {
      orders = orders ∙ h.orders;
      gets = ap (λ i. receives_as i) gets ∙ h.gets;
      answers = each_next (λ n e. sends_to e ≡ Bound home n) old.answers.items now.answers.items end p h.count items h.answers is;
      count = ap length items ∙ (long ∙ ap (λ n. n + 1) was);
    }

pub none_left : {A : Type 0} (o : Option A) → is_some o ≡ false → o ≡ None
none_left None e = refl
none_left (Some x) e = let t : true ≡ false = e in cc
