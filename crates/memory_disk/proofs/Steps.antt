-- One more step of a disk in memory.
use Rattle.std.proofs.Common.{◌≡◌, ◌≤◌, ℕ, ◌+◌, List, [], ◌∷◌, ◌++◌, length, take, drop, refl, ap, ◌∙◌, arith, length-drop}
use Rattle.std.proofs.lemmas.List.{take_all, take-append-le, drop-append-le, nil_from_length}
use Rattle.disk.specs.State.{Act, Write, Sync}
use Rattle.memory_disk.specs.declared.memory.RecordedCall.{RecordedCall}
use Rattle.memory_disk.specs.declared.memory.RecordedCall.TheVariants.{Wrote, Synced}
use Rattle.memory_disk.specs.Memory.{acts, bytes_written, ranges_after}

-- the acts of one more write
pub acts-write : (steps : List RecordedCall) (written bytes : List ℕ) (at : ℕ) → bytes_written steps ≡ length written
    → acts (steps ++ Wrote at (length bytes) ∷ []) (written ++ bytes) ≡ acts steps written ++ Write at bytes ∷ []
acts-write [] written bytes at whole =
    let e : written ≡ [] = nil_from_length written (omega arith) in
    ap (λ (xs : List ℕ). Write at xs ∷ []) (ap (λ (w : List ℕ). take (length bytes) (w ++ bytes)) e ∙ take_all (length bytes) bytes (omega arith))
acts-write ((Wrote a n) ∷ steps) written bytes at whole =
    let le : n ≤ length written = omega arith in
    let head : take n (written ++ bytes) ≡ take n written = take-append-le n written bytes le in
    let rest : drop n (written ++ bytes) ≡ drop n written ++ bytes = drop-append-le n written bytes le in
    let more : acts (steps ++ Wrote at (length bytes) ∷ []) (drop n written ++ bytes) ≡ acts steps (drop n written) ++ Write at bytes ∷ []
    = acts-write steps (drop n written) bytes at (omega (arith, length-drop n written)) in
    rw (head, rest) (ap (λ (xs : List Act). Write a (take n written) ∷ xs) more)
acts-write (Synced ∷ steps) written bytes at whole = ap (λ (xs : List Act). Sync ∷ xs) (acts-write steps written bytes at whole)

-- the acts of one more sync
pub acts-sync : (steps : List RecordedCall) (written : List ℕ) → acts (steps ++ Synced ∷ []) written ≡ acts steps written ++ Sync ∷ []
acts-sync [] written = refl
acts-sync ((Wrote a n) ∷ steps) written = ap (λ (xs : List Act). Write a (take n written) ∷ xs) (acts-sync steps (drop n written))
acts-sync (Synced ∷ steps) written = ap (λ (xs : List Act). Sync ∷ xs) (acts-sync steps written)

pub total-write : (steps : List RecordedCall) (at n : ℕ) → bytes_written (steps ++ Wrote at n ∷ []) ≡ bytes_written steps + n
total-write [] at n = omega arith
total-write ((Wrote a m) ∷ steps) at n = omega (arith, total-write steps at n)
total-write (Synced ∷ steps) at n = total-write steps at n

pub total-sync : (steps : List RecordedCall) → bytes_written (steps ++ Synced ∷ []) ≡ bytes_written steps
total-sync [] = refl
total-sync ((Wrote a m) ∷ steps) = omega (arith, total-sync steps)
total-sync (Synced ∷ steps) = total-sync steps

pub ranges_after-write : (ranges : List (ℕ × ℕ)) (steps : List RecordedCall) (at n : ℕ)
    → ranges_after ranges (steps ++ Wrote at n ∷ []) ≡ (at, n) ∷ ranges_after ranges steps
ranges_after-write ranges [] at n = refl
ranges_after-write ranges ((Wrote a m) ∷ steps) at n = ranges_after-write ((a, m) ∷ ranges) steps at n
ranges_after-write ranges (Synced ∷ steps) at n = ranges_after-write ranges steps at n
