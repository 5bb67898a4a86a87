use Rattle.std.proofs.Common.{arith, refl, Option, Some, None, IfSome, IsNone, sym, ap, subst, ◌∙◌, ◌≡◌, ◌≤◌, ◌<◌, ◌+◌, ◌-◌, [], ℕ, List, length, take, drop, Bool, Contains, AllPairs, ◌≢◌, ◌↔◌, ◌^◌}
use Rattle.std.proofs.lemmas.List.{take_rest}
use Rattle.memory_disk.specs.declared.memory.RecordedCall.{RecordedCall}
use Rattle.memory_disk.specs.declared.memory.MemDisk.{MemDisk}
use Rattle.disk.specs.State.{IsImage, nothing, furthest}
use Rattle.disk.specs.Laws.{always_sound, sound_nothing}
use Rattle.memory_disk.specs.Memory.{acts, ranges_after, AreWithin}
use Rattle.memory_disk.specs.MemDisk.{state_of}
use Rattle.memory_disk.specs.Images.{Lists, IsImageOf, contents}
use Rattle.memory_disk.specs.Beginnings.{IsMarked, open_bytes, of_lengths}
use Rattle.memory_disk.proofs.MaskLemmas.{within-after, furthest-within}
use Rattle.memory_disk.proofs.ImageLemmas.{all-listed}
use Rattle.memory_disk.proofs.memory.MemDisk.images.Goals as goal

sound_of : (m : MemDisk) → IsImage (state_of m) (state_of m).now
sound_of m = always_sound nothing sound_nothing (acts m.steps.items m.written.items)

synced_fits : (m : MemDisk) → m.synced_len ≤ length m.bytes.items
synced_fits m = omega (arith, (sound_of m).no_shorter, m.synced, ap length m.same)

within_of : (m : MemDisk) → AreWithin (ranges_after [] (drop m.synced_steps m.steps.items)) (length m.bytes.items)
within_of m = rw (← m.since, ← m.same) (within-after nothing m.steps.items m.written.items tt)

far_of : (m : MemDisk) → furthest (state_of m).ranges ≤ length (state_of m).now
far_of m = furthest-within _ _ (within-after nothing m.steps.items m.written.items tt)

-- the steps since the last sync, as the slice of them has it
since_of : (m : MemDisk) (steps : List RecordedCall) → steps ≡ m.steps.items
    → take (length steps - m.synced_steps) (drop m.synced_steps steps) ≡ drop m.synced_steps m.steps.items
since_of m steps e = take_rest steps m.synced_steps ∙ ap (λ (xs : List RecordedCall). drop m.synced_steps xs) e

-- what the mask and the values list
listed_by : (m : MemDisk) (values unique : List ℕ) (mask : List Bool) (steps : List RecordedCall) (len : ℕ) → steps ≡ m.steps.items → len ≡ length m.bytes.items
    → (length mask ≡ len) × IsMarked m.synced_len (ranges_after [] (take (length steps - m.synced_steps) (drop m.synced_steps steps))) mask
    → ((v : ℕ) → (Contains unique v) ↔ (Contains values v)) → AllPairs (λ x y. x ≢ y) unique
    → Lists (IsImageOf (state_of m) values) (of_lengths (open_bytes mask m.bytes.items unique) m.synced_len (length m.bytes.items - m.synced_len + 1))
listed_by m values unique mask steps len es el mark same once =
    all-listed (state_of m) mask values unique m.bytes.items (ranges_after [] (drop m.synced_steps m.steps.items)) m.synced_len (sound_of m) (far_of m)
    m.same m.synced m.since (mark.0 ∙ el)
    (subst (λ (xs : List RecordedCall). IsMarked m.synced_len (ranges_after [] xs) mask) (since_of m steps es) mark.1)
    (record { none_new = λ v. (same v).0; none_lost = λ v. (same v).1; once = once })

-- where there are more than the cap
above : (number : Option ℕ) (cap : ℕ) (count : List ℕ → ℕ) (now : List ℕ) → cap < 2 ^ 64
    → IfSome number (λ n. (xs : List ℕ) → n ≡ count xs) → (IsNone number → (xs : List ℕ) → 2 ^ 64 ≤ count xs)
    → IfSome number (λ n. cap < n) → cap < count now
above (Some n) cap count now fits exact none more = omega (arith, exact now, more)
above None cap count now fits exact none more = omega (arith, none refl now, fits)

pub unsynced-requires-clause-synced : goal.unsynced-requires-clause-synced
unsynced-requires-clause-synced c = omega (arith, synced_fits c.args.self.now)

pub unsynced-requires-clause-within : goal.unsynced-requires-clause-within
unsynced-requires-clause-within c =
    let size : c.len-len.result ≡ length c.args.self.now.bytes.items = omega arith in
    rw (since_of c.args.self.now c.deref.result.now c.deref.ensures.value, size) (within_of c.args.self.now)

pub number_of-requires : goal.number_of-requires
number_of-requires c = omega (arith, synced_fits c.args.self.now, ap length c.deref-2.ensures.value, c.in_ok-mask.ensures.0)

pub all_contents-requires-clause-low : goal.all_contents-requires-clause-low
all_contents-requires-clause-low c = omega (arith, synced_fits c.args.self.now, ap length c.deref-4.ensures.value)

pub returns-clause-listed : goal.returns-clause-listed
returns-clause-listed c =
    let m : MemDisk = c.args.self.now in
    let found : contents c.in_ok-found.found.items
    ≡ of_lengths (open_bytes c.in_ok-mask.mask.items m.bytes.items c.in_ok-values.values.items) m.synced_len (length m.bytes.items - m.synced_len + 1)
    = rw (c.deref-4.ensures.value, c.deref-5.ensures.value, c.deref-6.ensures.value) at c.in_ok-found.ensures in
    subst (λ (xs : List (List ℕ)). Lists (IsImageOf (state_of m) c.args.values.now) xs) (sym found)
    (listed_by m c.args.values.now c.in_ok-values.values.items c.in_ok-mask.mask.items c.deref.result.now c.len-len.result c.deref.ensures.value (omega arith)
    c.in_ok-mask.ensures c.in_ok-values.ensures.same c.in_ok-values.ensures.once)

pub returns-in_err-number-clause-too_many : goal.returns-in_err-number-clause-too_many
returns-in_err-number-clause-too_many c is =
    let m : MemDisk = c.args.self.now in
    let mask : List Bool = c.in_ok-mask.mask.items in
    let values : List ℕ = c.in_ok-values.values.items in
    let all : List ℕ → ℕ → List (List ℕ)
    = λ (now : List ℕ) (len : ℕ). of_lengths (open_bytes mask now values) m.synced_len (len - m.synced_len + 1) in
    let more : c.args.cap < length (all m.bytes.items (length mask))
    = above c.number_of.result c.args.cap (λ (now : List ℕ). length (all now (length mask))) m.bytes.items (omega arith)
    (rw (c.deref-2.ensures.value, c.deref-3.ensures.value) at c.number_of.ensures.exact)
    (rw (c.deref-2.ensures.value, c.deref-3.ensures.value) at c.number_of.ensures.none) c.in_err-number.ensures.err in (
      all m.bytes.items (length m.bytes.items),
      listed_by m c.args.values.now values mask c.deref.result.now c.len-len.result c.deref.ensures.value (omega arith)
          c.in_ok-mask.ensures c.in_ok-values.ensures.same c.in_ok-values.ensures.once,
      subst (λ (len : ℕ). c.args.cap < length (all m.bytes.items len)) (c.in_ok-mask.ensures.0 ∙ omega arith) more,
    )
