-- What a disk in memory keeps over a write and a sync.
use Rattle.std.proofs.Common.{◌≡◌, ◌≤◌, ℕ, ◌+◌, List, [], ◌∷◌, ◌++◌, length, take, drop, Ok, Err, Result, OnOk, is_err, false, refl, inl, ap, sym, ◌∙◌, arith, length-append}
use Rattle.std.proofs.lemmas.List.{drop-append-le, length_push, drop_all}
use Rattle.memory_disk.specs.declared.memory.RecordedCall.{RecordedCall}
use Rattle.memory_disk.specs.declared.memory.RecordedCall.TheVariants.{Wrote, Synced}
use Rattle.disk.specs.State.{Act, Write, Sync, State, nothing, act, over, state_after, IsImage, sight_of}
use Rattle.memory_disk.specs.Memory.{acts, bytes_written, replayed, ranges_after}
use Rattle.disk.proofs.Acts.{state_after-push}
use Rattle.memory_disk.proofs.Steps.{acts-write, acts-sync, total-write, total-sync, ranges_after-write}
use Rattle.disk.specs.Laws.{sound_nothing}
use Rattle.disk.specs.Sight.{Writes, Looks, IsSynced}
use Rattle.disk.proofs.Crash.{made, is_write, writes-push, synced-push, looks-sync}

-- a write
pub write-push : (start : State) → IsImage start start.now → (acts : List Act) (at : ℕ) (bytes : List ℕ) (f f' : ℕ)
    → at ≤ length (state_after start acts).now
    → Writes at (length bytes) (sight_of start acts f) (sight_of start (acts ++ Write at bytes ∷ []) f')
write-push start sound acts at bytes f f' le =
    writes-push start sound acts (Write at bytes) at (length bytes) bytes f f' (is_write (state_after start acts) at bytes le)

-- of a call that did nothing
pub looks-same : (start : State) (acts : List Act) (f f' : ℕ) → Looks (sight_of start acts f) (sight_of start acts f')
looks-same start acts f f' = record {
  time = record { later = omega arith; nothing_else = λ t c le left. inl left; keeps = λ t c le left. left };
  same = refl;
  crash = λ c image. image;
}

-- the ghost fields of a disk in memory
pub record IsRecord (steps : List RecordedCall) (written bytes : List ℕ) (synced_steps synced_len : ℕ) : Type 0 where
  pub whole : bytes_written steps ≡ length written
  pub same : (replayed steps written).now ≡ bytes
  pub synced : length (replayed steps written).base ≡ synced_len
  pub within : synced_steps ≤ length steps
  pub since : (replayed steps written).ranges ≡ ranges_after [] (drop synced_steps steps)

-- what one more write makes of the state
pub replayed-write : (steps : List RecordedCall) (written b : List ℕ) (at : ℕ) → bytes_written steps ≡ length written → at ≤ length (replayed steps written).now
    → replayed (steps ++ Wrote at (length b) ∷ []) (written ++ b) ≡ over (replayed steps written) at (length b) b
replayed-write steps written b at whole le =
    ap (λ (xs : List Act). state_after nothing xs) (acts-write steps written b at whole)
    ∙ state_after-push nothing (acts steps written) (Write at b) ∙ made (replayed steps written) at (length b) b le

pub replayed-sync : (steps : List RecordedCall) (written : List ℕ) → replayed (steps ++ Synced ∷ []) written ≡ act (replayed steps written) Sync
replayed-sync steps written =
    ap (λ (xs : List Act). state_after nothing xs) (acts-sync steps written) ∙ state_after-push nothing (acts steps written) Sync

pub record-write : (steps steps' : List RecordedCall) (written written' bytes bytes' b : List ℕ) (k n at : ℕ) → IsRecord steps written bytes k n → at ≤ length bytes
    → steps' ≡ steps ++ Wrote at (length b) ∷ [] → written' ≡ written ++ b → bytes' ≡ take at bytes ++ b ++ drop (at + length b) bytes
    → IsRecord steps' written' bytes' k n
record-write steps steps' written written' bytes bytes' b k n at old le es ew eb =
    let there : replayed (steps ++ Wrote at (length b) ∷ []) (written ++ b) ≡ over (replayed steps written) at (length b) b
    = replayed-write steps written b at old.whole (omega (arith, ap length old.same)) in
    rw (es, ew, eb) (record {
      whole = omega (arith, total-write steps at (length b), length-append written b, old.whole);
      same = ap (λ (s : State). s.now) there ∙ ap (λ (xs : List ℕ). take at xs ++ b ++ drop (at + length b) xs) old.same;
      synced = ap (λ (s : State). length s.base) there ∙ old.synced;
      within = omega (arith, length_push steps (Wrote at (length b)), old.within);
      since = ap (λ (s : State). s.ranges) there ∙ ap (λ (xs : List (ℕ × ℕ)). (at, length b) ∷ xs) old.since
          ∙ sym (ap (λ (xs : List RecordedCall). ranges_after [] xs) (drop-append-le k steps (Wrote at (length b) ∷ []) old.within)
          ∙ ranges_after-write [] (drop k steps) at (length b));
    })

pub record-sync : (steps steps' : List RecordedCall) (written bytes : List ℕ) (k n k' n' : ℕ) → IsRecord steps written bytes k n
    → steps' ≡ steps ++ Synced ∷ [] → k' ≡ length steps' → n' ≡ length bytes → IsRecord steps' written bytes k' n'
record-sync steps steps' written bytes k n k' n' old es ek en =
    let there : replayed (steps ++ Synced ∷ []) written ≡ act (replayed steps written) Sync = replayed-sync steps written in
    rw (en, ek, es) (record {
      whole = total-sync steps ∙ old.whole;
      same = ap (λ (s : State). s.now) there ∙ old.same;
      synced = ap (λ (s : State). length s.base) there ∙ ap length old.same;
      within = omega arith;
      since = ap (λ (s : State). s.ranges) there
          ∙ sym (ap (λ (xs : List RecordedCall). ranges_after [] xs) (drop_all (length (steps ++ Synced ∷ [])) (steps ++ Synced ∷ []) (omega arith)));
    })

-- what a recorded write does to a disk
pub memory-write : (steps steps' : List RecordedCall) (written written' b : List ℕ) (at : ℕ) → bytes_written steps ≡ length written
    → (steps' ≡ steps ++ Wrote at (length b) ∷ []) × (written' ≡ written ++ b)
    → acts steps' written' ≡ acts steps written ++ Write at b ∷ []
memory-write steps steps' written written' b at whole es = rw (es.0, es.1) (acts-write steps written b at whole)

pub memory-writes : (old new : List Act) (at : ℕ) (b : List ℕ) (f f' : ℕ) → new ≡ old ++ Write at b ∷ []
    → at ≤ length (state_after nothing old).now → Writes at (length b) (sight_of nothing old f) (sight_of nothing new f')
memory-writes old new at b f f' e le = rw e (write-push nothing sound_nothing old at b f f' le)

-- of a call that did nothing
pub memory-idle : (old new : List Act) (at n f f' : ℕ) → new ≡ old → Writes at n (sight_of nothing old f) (sight_of nothing new f')
memory-idle old new at n f f' e = rw e (record {
  time = record { later = omega arith; nothing_else = λ t c le left. inl left; keeps = λ t c le left. left };
  crash = λ c image. (c, image, record { before = refl; after = refl; no_shorter = omega arith; no_longer = omega arith });
})

pub memory-sync : (steps steps' : List RecordedCall) (written written' : List ℕ) → (steps' ≡ steps ++ Synced ∷ []) × (written' ≡ written)
    → acts steps' written' ≡ acts steps written ++ Sync ∷ []
memory-sync steps steps' written written' es = rw (es.0, es.1) (acts-sync steps written)

pub memory-synced : (old new : List Act) (f : ℕ) → new ≡ old ++ Sync ∷ [] → IsSynced (sight_of nothing new f)
memory-synced old new f e = rw e (synced-push nothing old f)

pub memory-looks : (old new : List Act) (f f' : ℕ) → new ≡ old ++ Sync ∷ [] → Looks (sight_of nothing old f) (sight_of nothing new f')
memory-looks old new f f' e = rw e (looks-sync nothing sound_nothing old f f')

pub when_ok : {T E P : Type 0} (r : Result T E) → is_err r ≡ false → OnOk r P → P
when_ok (Ok x) e h = h
when_ok (Err y) e h = cc
