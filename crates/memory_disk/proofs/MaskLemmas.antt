-- How the mask of the unsynced bytes grows.
use Rattle.std.proofs.Common.{◌≡◌, ◌≤◌, ◌<◌, ◌⊎◌, ℕ, zero, suc, ◌+◌, List, [], ◌∷◌, ◌++◌, length, get_or, take, drop, Bool, true, false, refl, ap, sym, inl, inr, ◌∙◌, arith, max, nat_le}
use Rattle.std.proofs.lemmas.Bool.{leb-true}
use Rattle.std.proofs.lemmas.List.{take_more}
use Rattle.memory_disk.specs.declared.memory.RecordedCall.{RecordedCall}
use Rattle.memory_disk.specs.declared.memory.RecordedCall.TheVariants.{Wrote, Synced}
use Rattle.disk.specs.State.{State, Sync, act, over, wrote, state_after, furthest, IsOutside}
use Rattle.disk.specs.Laws.{length-over}
use Rattle.memory_disk.specs.Memory.{acts, ranges_after, AreWithin}
use Rattle.memory_disk.specs.Beginnings.{IsMarked}
use Rattle.disk.proofs.Ranges.{within_or_not}
use Rattle.memory_disk.proofs.Steps.{ranges_after-write}

earlier-within : (ranges : List (ℕ × ℕ)) (steps : List RecordedCall) (len : ℕ) → AreWithin (ranges_after ranges steps) len → AreWithin ranges len
earlier-within ranges [] len all = all
earlier-within ranges ((Wrote at n) ∷ steps) len all = (earlier-within ((at, n) ∷ ranges) steps len all).1
earlier-within ranges (Synced ∷ steps) len all = earlier-within ranges steps len all

-- a range that was written ends within the length
pub range-within : (ranges : List (ℕ × ℕ)) (steps : List RecordedCall) (j at n len : ℕ) (d : RecordedCall) → AreWithin (ranges_after ranges steps) len → j < length steps
    → get_or steps j d ≡ Wrote at n → at + n ≤ len
range-within ranges [] j at n len d all h is = absurd (omega arith)
range-within ranges ((Wrote a m) ∷ steps) zero at n len d all h is =
    let place : a ≡ at = cc in
    let size : m ≡ n = cc in
    let ends : a + m ≤ len = (earlier-within ((a, m) ∷ ranges) steps len all).0 in
    omega (arith, ends)
range-within ranges (Synced ∷ steps) zero at n len d all h is = cc
range-within ranges ((Wrote a m) ∷ steps) (suc j) at n len d all h is = range-within ((a, m) ∷ ranges) steps j at n len d all (omega arith) is
range-within ranges (Synced ∷ steps) (suc j) at n len d all h is = range-within ranges steps j at n len d all (omega arith) is

ranges_after-sync : (ranges : List (ℕ × ℕ)) (steps : List RecordedCall) → ranges_after ranges (steps ++ Synced ∷ []) ≡ ranges_after ranges steps
ranges_after-sync ranges [] = refl
ranges_after-sync ranges ((Wrote at n) ∷ steps) = ranges_after-sync ((at, n) ∷ ranges) steps
ranges_after-sync ranges (Synced ∷ steps) = ranges_after-sync ranges steps

-- what marking a range does
pub record Marks (at n : ℕ) (old new : List Bool) : Type 0 where
  pub long : length new ≡ length old
  pub within : (i : ℕ) → at ≤ i → i < at + n → get_or new i false ≡ true
  pub outside : (i : ℕ) → (i < at) ⊎ (at + n ≤ i) → get_or new i false ≡ get_or old i false

marked-range : (low at n : ℕ) (ranges : List (ℕ × ℕ)) (old new : List Bool) → IsMarked low ranges old → Marks at n old new
    → IsMarked low ((at, n) ∷ ranges) new
marked-range low at n ranges old new was mark = record {
  marked = λ i h yes facts. was.marked i (omega (arith, mark.long)) (sym (mark.outside i facts.1.0) ∙ yes) (facts.0, facts.1.1);
  clear = λ i h no. elim (within_or_not at n i) [
    | inl inside ↦ (let yes : get_or new i false ≡ true = mark.within i inside.0 inside.1 in cc)
    | inr apart ↦ (let facts : (i < low) × IsOutside ranges i = was.clear i (omega (arith, mark.long)) (sym (mark.outside i apart) ∙ no) in (facts.0, (apart, facts.1)))
  ];
}

pub marked-write : (low at n j : ℕ) (since : List RecordedCall) (d : RecordedCall) (old new : List Bool) → IsMarked low (ranges_after [] (take j since)) old → Marks at n old new
    → j < length since → get_or since j d ≡ Wrote at n → IsMarked low (ranges_after [] (take (j + 1) since)) new
marked-write low at n j since d old new was mark h is =
    let e : ranges_after [] (take (j + 1) since) ≡ (at, n) ∷ ranges_after [] (take j since)
    = ap (λ (xs : List RecordedCall). ranges_after [] xs) (take_more since j d h ∙ ap (λ (s : RecordedCall). take j since ++ s ∷ []) is)
    ∙ ranges_after-write [] (take j since) at n in
    rw e (marked-range low at n (ranges_after [] (take j since)) old new was mark)

pub marked-sync : (low j : ℕ) (since : List RecordedCall) (d : RecordedCall) (mask : List Bool) → IsMarked low (ranges_after [] (take j since)) mask
    → j < length since → get_or since j d ≡ Synced → IsMarked low (ranges_after [] (take (j + 1) since)) mask
marked-sync low j since d mask was h is =
    let e : ranges_after [] (take (j + 1) since) ≡ ranges_after [] (take j since)
    = ap (λ (xs : List RecordedCall). ranges_after [] xs) (take_more since j d h ∙ ap (λ (s : RecordedCall). take j since ++ s ∷ []) is)
    ∙ ranges_after-sync [] (take j since) in
    rw e was

within-longer : (ranges : List (ℕ × ℕ)) (m n : ℕ) → m ≤ n → AreWithin ranges m → AreWithin ranges n
within-longer [] m n le all = tt
within-longer (range ∷ ranges) m n le all = (omega (arith, all.0), within-longer ranges m n le all.1)

within-wrote : (s : State) (at : ℕ) (bytes : List ℕ) (b : Bool) → nat_le at (length s.now) ≡ b → AreWithin s.ranges (length s.now)
    → AreWithin (wrote s at (length bytes) bytes).ranges (length (wrote s at (length bytes) bytes).now)
within-wrote s at bytes true e all =
    let size : length (over s at (length bytes) bytes).now ≡ max (length s.now) (at + length bytes) = length-over s.now bytes at (leb-true at (length s.now) e) in
    rw e (omega (arith, size), within-longer s.ranges (length s.now) (length (over s at (length bytes) bytes).now) (omega (arith, size)) all)
within-wrote s at bytes false e all = rw e all

-- each range that was written ends within the disk
pub within-after : (s : State) (steps : List RecordedCall) (written : List ℕ) → AreWithin s.ranges (length s.now)
    → AreWithin (state_after s (acts steps written)).ranges (length (state_after s (acts steps written)).now)
within-after s [] written all = all
within-after s ((Wrote at n) ∷ steps) written all =
    within-after (wrote s at (length (take n written)) (take n written)) steps (drop n written)
    (within-wrote s at (take n written) (nat_le at (length s.now)) refl all)
within-after s (Synced ∷ steps) written all = within-after (act s Sync) steps written tt

pub furthest-within : (ranges : List (ℕ × ℕ)) (n : ℕ) → AreWithin ranges n → furthest ranges ≤ n
furthest-within [] n all = omega arith
furthest-within (range ∷ ranges) n all = omega (arith, all.0, furthest-within ranges n all.1)
