-- A turn leaves a book of the same shard.
use Rattle.std.proofs.Common.{List, inl, inr, ap, ◌∙◌}
use Rattle.accept.specs.declared.call.Reply.{Reply}
use Rattle.disk.specs.Sight.{Sight}
use Rattle.history.specs.Handles.{Announced, Booked, Received}
use Rattle.shard.specs.Parts.{IsApplied}
use Rattle.shard.specs.Shards.{Sharded}
use Rattle.shard.specs.Turns.{Turn, Span, span_of, AreStepped, IsTurn}
use Rattle.lone_shard.specs.Passes.{IsSameBook}

module _ {D : Type 0} (sight : D → Sight) (follows : D → Type 0) where
  pub stepped_same : (s : Span D) (front : List Announced) → AreStepped sight s front → IsSameBook s.old.book s.new.book
  stepped_same s front (inl made) = record { table = ap (λ (b : Booked). b.table) made.1; about = ap (λ (b : Booked). b.about) made.1; shard = ap (λ (b : Booked). b.shard) made.1 }
  stepped_same s front (inr lost) = record { table = ap (λ (b : Booked). b.table) lost.1; about = ap (λ (b : Booked). b.about) lost.1; shard = ap (λ (b : Booked). b.shard) lost.1 }

  pub alone_same : (old new : Sharded D) (t : Announced) (reply : Reply) (receipt : Received) → IsApplied sight follows old new t reply receipt → IsSameBook old.book new.book
  alone_same old new t reply receipt h = elim h.step [
    | inl m ↦ record { table = ap (λ (b : Booked). b.table) m.book; about = ap (λ (b : Booked). b.about) m.book; shard = ap (λ (b : Booked). b.shard) m.book }
    | inr l ↦ record { table = ap (λ (b : Booked). b.table) l.book; about = ap (λ (b : Booked). b.about) l.book; shard = ap (λ (b : Booked). b.shard) l.book }
  ]

  pub turn_same : (t : Turn D) → IsTurn sight follows t → IsSameBook t.old.book t.new.book
  turn_same t (inl h) = stepped_same (span_of t) h.front h.applied.stepped
  turn_same t (inr (inl h)) = alone_same t.old t.new h.job.ticket h.reply h.receipt h.applied
  turn_same t (inr (inr h)) = record { table = ap (λ (s : Sharded D). s.book.table) h.same; about = ap (λ (s : Sharded D). s.book.about) h.same; shard = ap (λ (s : Sharded D). s.book.shard) h.same }

pub same_both : (a b c : Booked) → IsSameBook a b → IsSameBook b c → IsSameBook a c
same_both a b c h k = record { table = k.table ∙ h.table; about = k.about ∙ h.about; shard = k.shard ∙ h.shard }
