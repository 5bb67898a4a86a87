-- What the definitions say of a worked group: a push, a read, and the same push again.
use Rattle.std.proofs.Common.{◌≡◌, ℕ, ◌+◌, ◌&&◌, Bool, cond, List, [], ◌∷◌, nat_lt, codes, None, refl, ap, ◌∙◌, arith}
use Rattle.std.specs.FinMap as finite
use Rattle.labels.specs.Keys.{key_cmp}
use Rattle.labels.specs.declared.key.StreamKey.{StreamKey}
use Rattle.atomic_table.specs.Seated.{TableId}
use Rattle.entries.specs.declared.entry.Entry.{Entry}
use Rattle.accept.specs.declared.image.StreamImage.{StreamImage}
use Rattle.accept.specs.declared.limits.Limits.{Limits}
use Rattle.accept.specs.declared.outcome.Outcome.TheVariants.{Repeat, Stored}
use Rattle.accept.specs.declared.call.Call.TheVariants.{Push, Read}
use Rattle.accept.specs.declared.call.Reply.{Reply}
use Rattle.accept.specs.declared.call.Reply.TheVariants.{Verdict, Entries, NoRoom, Unavailable}
use Rattle.accept.specs.declared.history.Ask.{Ask}
use Rattle.accept.specs.declared.history.Item.TheVariants.{Answered}
use Rattle.accept.specs.OneStream.{outcomes, image_of}
use Rattle.accept.specs.Rooms.{segment_bytes, room, room_at}
use Rattle.accept.specs.Histories.{changes, set_stream}
use Rattle.accept.specs.Calls.{answer_from, stream_after}
use Rattle.accept.proofs.Meanings.{after-set_stream, meaning-nothing}
use Rattle.accept.proofs.RoomLaws.{room-empty, room-insert}
use Rattle.history.specs.declared.views.About.{About}
use Rattle.history.specs.Histories.{reply_of, step_of}
use Rattle.history.specs.Handles.{Booked, history_in, longer}
use Rattle.shard.specs.Calls.{answer_in, after_in, reply_in}
use Rattle.shard.specs.Groups.{dues, changing_of, marked_by}

abbrev limits : Limits
limits = record { line = 262144; half_age = 3600000000000; max_old = 604800000000000; max_ahead = 600000000000 }

abbrev k : StreamKey
k = record { tenant = codes "t"; labels = codes "{a=\"1\"}" }

abbrev x : Entry
x = record { time = 10; line = codes "x"; meta = [] }

-- what the stream has after the push
abbrev one : StreamImage
one = record { highest = 10; last = x; kept = x ∷ [] }

-- a shard of this capacity, opened empty
abbrev opened : ℕ → About
opened capacity = record { shards = 1; passes = 1; limits = limits; capacity = capacity; bases = [] }

abbrev push : Ask
push = record { pass = 0; number = 1; call = Push k 20 (x ∷ []) }

abbrev read : Ask
read = record { pass = 0; number = 2; call = Read k 0 100 }

abbrev again : Ask
again = record { pass = 0; number = 3; call = Push k 20 (x ∷ []) }

abbrev asks : List Ask
asks = push ∷ read ∷ again ∷ []

no_base : finite.get (finite.empty {X = StreamImage} {R = key_cmp}) k ≡ None
no_base = finite.get-empty key_cmp k

room_of_one : room (finite.insert finite.empty k one) ≡ 82
room_of_one =
    let put_in = room-insert finite.empty k one in
    let none : finite.get (finite.empty {X = StreamImage} {R = key_cmp}) k ≡ None = no_base in
    done (room (finite.insert finite.empty k one)) (room finite.empty) _ put_in room-empty (ap (room_at k) none)
  where
    done : (n e r : ℕ) → n + r ≡ e + 55 → e ≡ segment_bytes → r ≡ 0 → n ≡ 82
    done n e r p q z = omega arith

abbrev pick : Bool → Ask → List Ask → List Ask
pick b a rest = cond b (a ∷ rest) rest

module _ (table : TableId) where
  abbrev empty : Booked
  empty = record { table = table; about = opened 4096; shard = 0; items = [] }

  -- with room for 81 bytes: one too few
  abbrev short : Booked
  short = record { table = table; about = opened 81; shard = 0; items = [] }

  answer_to_push : answer_in empty push.call ≡ Verdict (Stored ∷ [])
  answer_to_push = ap (λ s. Verdict (outcomes limits s [] 20 (x ∷ []))) no_base

  after_push : after_in empty push.call ≡ finite.insert finite.empty k one
  after_push =
      after-set_stream limits (history_in empty) push.call
      ∙ (λ i. set_stream (meaning-nothing finite.empty i) k (stream_after (no_base i) push.call (answer_to_push i)))

  due_to_push : reply_in empty push.call ≡ Verdict (Stored ∷ [])
  unfolding reply_of
  due_to_push =
      (λ i. cond (changes (answer_to_push i) && nat_lt 4096 (room (after_push i))) NoRoom (answer_to_push i))
      ∙ ap (λ n. cond (nat_lt 4096 n) NoRoom (Verdict (Stored ∷ []))) room_of_one

  no_room_for_push : reply_in short push.call ≡ NoRoom
  unfolding reply_of
  no_room_for_push =
      (λ i. cond (changes (answer_to_push i) && nat_lt 81 (room (after_push i))) NoRoom (answer_to_push i))
      ∙ ap (λ n. cond (nat_lt 81 n) NoRoom (Verdict (Stored ∷ []))) room_of_one

  abbrev once : Booked
  once = longer empty (Answered (step_of push (Verdict (Stored ∷ []))))

  -- the read finds what the push before it stored
  due_to_read : reply_in once read.call ≡ Entries (x ∷ [])
  unfolding reply_of
  due_to_read = ap (λ s. answer_from limits (image_of s (x ∷ []) 0) (Read k 0 100)) no_base

  abbrev twice : Booked
  twice = longer once (Answered (step_of read (Entries (x ∷ []))))

  -- the same push again is a repeat
  due_to_again : reply_in twice again.call ≡ Verdict (Repeat ∷ [])
  unfolding reply_of
  due_to_again =
      ap (λ s. cond (changes (Verdict (outcomes limits (image_of s (x ∷ []) 0) [] 20 (x ∷ []))) && nat_lt 4096 (room (after_in twice again.call))) NoRoom (Verdict (outcomes limits (image_of s (x ∷ []) 0) [] 20 (x ∷ [])))) no_base

  -- each is judged after those before it
  replies : dues empty asks ≡ Verdict (Stored ∷ []) ∷ Entries (x ∷ []) ∷ Verdict (Repeat ∷ []) ∷ []
  replies =
      ap (λ (r : Reply). r ∷ dues (longer empty (Answered (step_of push r))) (read ∷ again ∷ [])) due_to_push
      ∙ (ap (λ (r : Reply). Verdict (Stored ∷ []) ∷ r ∷ dues (longer once (Answered (step_of read r))) (again ∷ [])) due_to_read
      ∙ ap (λ (r : Reply). Verdict (Stored ∷ []) ∷ Entries (x ∷ []) ∷ r ∷ []) due_to_again)

  -- and the push alone changes something
  changing : changing_of empty asks ≡ push ∷ []
  changing =
      ap (λ (r : Reply). pick (changes r) push (changing_of (longer empty (Answered (step_of push r))) (read ∷ again ∷ []))) due_to_push
      ∙ (ap (λ (r : Reply). push ∷ pick (changes r) read (changing_of (longer once (Answered (step_of read r))) (again ∷ []))) due_to_read
      ∙ ap (λ (r : Reply). push ∷ pick (changes r) again []) due_to_again)

  -- in a full shard the push is refused, and the read finds nothing
  full : dues short (push ∷ []) ≡ NoRoom ∷ []
  full = ap (λ (r : Reply). r ∷ []) no_room_for_push

  -- where a device failed, each is refused
  lost : dues (marked_by empty asks) asks ≡ Unavailable ∷ Unavailable ∷ Unavailable ∷ []
  unfolding reply_of
  lost = refl
