-- What the list of beginnings has to do with what a crash may leave.
use Rattle.std.proofs.Common.{◌≡◌, ◌≢◌, ◌≤◌, ◌<◌, ◌⊎◌, ℕ, ◌+◌, ◌-◌, List, [], ◌∷◌, length, get_or, Bool, true, false, cond, AllPairs, Contains, refl, ap, sym, subst, inl, inr, ◌∙◌, arith}
use Rattle.disk.specs.State.{State, furthest, IsOutside, IsImage}
use Rattle.memory_disk.specs.Images.{IsSyncedAt, IsImageOf, Lists}
use Rattle.memory_disk.specs.Beginnings.{IsMarked, open_bytes, of_lengths}
use Rattle.memory_disk.proofs.Lists.{Among, Distinct, among-Contains, Contains-among, All-among, AllPairs-distinct, distinct-AllPairs}
use Rattle.memory_disk.proofs.BeginningLemmas.{Fits, lengths-of, of-lengths, distinct-lengths}

-- the same values, each once
pub record SameValues (values unique : List ℕ) : Type 0 where
  pub none_new : (v : ℕ) → Contains unique v → Contains values v
  pub none_lost : (v : ℕ) → Contains values v → Contains unique v
  pub once : AllPairs (λ x y. x ≢ y) unique

-- which bytes of a disk are not synced
pub record IsMask (s : State) (mask : List Bool) : Type 0 where
  pub long : length mask ≡ length s.now
  pub unsynced : (i : ℕ) → i < length mask → get_or mask i false ≡ true → ¬ IsSyncedAt s i
  pub synced : (i : ℕ) → i < length mask → get_or mask i false ≡ false → IsSyncedAt s i

distinct_one : (v : ℕ) → Distinct (v ∷ [])
distinct_one v = ((λ none. none), tt)

distinct-open : (mask : List Bool) (now unique : List ℕ) → Distinct unique → (i : ℕ) → Distinct (open_bytes mask now unique i)
distinct-open mask now unique d i = elim (get_or mask i false) as (λ b. Distinct (cond b unique (get_or now i 0 ∷ []))) [
  | true ↦ d
  | false ↦ distinct_one (get_or now i 0)
]

-- at a synced place stands the byte
synced-byte : (s : State) (mask : List Bool) (unique : List ℕ) (x i : ℕ) (b : Bool) → get_or mask i false ≡ b → IsMask s mask → i < length mask
    → Among (cond b unique (get_or s.now i 0 ∷ [])) x → IsSyncedAt s i → x ≡ get_or s.now i 0
synced-byte s mask unique x i true e mark h in_all synced = absurd (mark.unsynced i h e synced)
synced-byte s mask unique x i false e mark h (inl here) synced = sym here
synced-byte s mask unique x i false e mark h (inr there) synced = absurd there

drawn-byte : (s : State) (mask : List Bool) (values unique : List ℕ) (x i : ℕ) (b : Bool) → get_or mask i false ≡ b → IsMask s mask → i < length mask
    → ((v : ℕ) → Contains unique v → Contains values v) → Among (cond b unique (get_or s.now i 0 ∷ [])) x → IsSyncedAt s i ⊎ Contains values x
drawn-byte s mask values unique x i true e mark h subset in_all = inr (subset x (Contains-among unique x in_all))
drawn-byte s mask values unique x i false e mark h subset in_all = inl (mark.synced i h e)

open-byte : (s : State) (mask : List Bool) (values unique : List ℕ) (x i : ℕ) (b : Bool) → get_or mask i false ≡ b → IsMask s mask → i < length mask
    → ((v : ℕ) → Contains values v → Contains unique v) → (IsSyncedAt s i → x ≡ get_or s.now i 0) → IsSyncedAt s i ⊎ Contains values x
    → Among (cond b unique (get_or s.now i 0 ∷ [])) x
open-byte s mask values unique x i true e mark h subset same (inl synced) = absurd (mark.unsynced i h e synced)
open-byte s mask values unique x i true e mark h subset same (inr has) = among-Contains unique x (subset x has)
open-byte s mask values unique x i false e mark h subset same drawn = inl (sym (same (mark.synced i h e)))

-- a content out of the open bytes is one that a crash may leave
drawn-image : (s : State) (mask : List Bool) (values unique c : List ℕ) → IsImage s s.now → IsMask s mask → ((v : ℕ) → Contains unique v → Contains values v)
    → length s.base ≤ length c → length c ≤ length s.now → Fits (open_bytes mask s.now unique) c → IsImageOf s values c
drawn-image s mask values unique c sound mark subset from to fits = record {
  image = record {
    no_shorter = from;
    no_longer = omega (arith, to);
    same = λ i h outside.
        synced-byte s mask unique (get_or c i 0) i (get_or mask i false) refl mark (omega (arith, mark.long)) (fits i (omega arith)) (h, outside) ∙ sound.same i h outside;
  };
  drawn = λ i h. drawn-byte s mask values unique (get_or c i 0) i (get_or mask i false) refl mark (omega (arith, mark.long)) subset (fits i h);
}

-- and each such is out of the open bytes
image-drawn : (s : State) (mask : List Bool) (values unique c : List ℕ) → IsImage s s.now → furthest s.ranges ≤ length s.now → IsMask s mask → ((v : ℕ) → Contains values v → Contains unique v)
    → IsImageOf s values c → Fits (open_bytes mask s.now unique) c
image-drawn s mask values unique c sound far mark subset image i h =
    open-byte s mask values unique (get_or c i 0) i (get_or mask i false) refl mark (omega (arith, mark.long, image.image.no_longer, far)) subset
    (λ synced. image.image.same i synced.0 synced.1 ∙ sym (sound.same i synced.0 synced.1)) (image.drawn i h)

pub lists-images : (s : State) (mask : List Bool) (values unique : List ℕ) → IsImage s s.now → furthest s.ranges ≤ length s.now → IsMask s mask → SameValues values unique
    → Lists (IsImageOf s values) (of_lengths (open_bytes mask s.now unique) (length s.base) (length s.now - length s.base + 1))
lists-images s mask values unique sound far mark same =
    let options : ℕ → List ℕ = open_bytes mask s.now unique in
    let k : ℕ = length s.now - length s.base + 1 in
    record {
      each = All-among (IsImageOf s values) (of_lengths options (length s.base) k) (λ c in_all.
          let facts : (length s.base ≤ length c) × (length c < length s.base + k) × Fits options c = lengths-of options (length s.base) k c in_all in
          drawn-image s mask values unique c sound mark same.none_new facts.0 (omega (arith, facts.1, sound.no_shorter)) facts.2);
      complete = λ c image. Contains-among (of_lengths options (length s.base) k) c
          (of-lengths options (length s.base) k c image.image.no_shorter (omega (arith, image.image.no_longer, far, sound.no_shorter))
          (image-drawn s mask values unique c sound far mark same.none_lost image));
      once = AllPairs-distinct (of_lengths options (length s.base) k)
          (distinct-lengths options (distinct-open mask s.now unique (distinct-AllPairs unique same.once)) (length s.base) k);
    }

-- what is known of a disk, its mask and its values, in one
pub all-listed : (s : State) (mask : List Bool) (values unique bytes : List ℕ) (ranges : List (ℕ × ℕ)) (low : ℕ) → IsImage s s.now → furthest s.ranges ≤ length s.now
    → s.now ≡ bytes → length s.base ≡ low → s.ranges ≡ ranges → length mask ≡ length bytes → IsMarked low ranges mask → SameValues values unique
    → Lists (IsImageOf s values) (of_lengths (open_bytes mask bytes unique) low (length bytes - low + 1))
all-listed s mask values unique bytes ranges low sound far now base since long mark same =
    let is_mask : IsMask s mask = record {
      long = long ∙ sym (ap length now);
      unsynced = λ i h yes facts. mark.marked i h yes (omega (arith, facts.0, base), subst (λ (rs : List (ℕ × ℕ)). IsOutside rs i) since facts.1);
      synced = λ i h no. (let facts : (i < low) × IsOutside ranges i = mark.clear i h no in
          (omega (arith, facts.0, base), subst (λ (rs : List (ℕ × ℕ)). IsOutside rs i) (sym since) facts.1));
    } in
    let all : Lists (IsImageOf s values) (of_lengths (open_bytes mask s.now unique) (length s.base) (length s.now - length s.base + 1))
    = lists-images s mask values unique sound far is_mask same in
    let at_low : Lists (IsImageOf s values) (of_lengths (open_bytes mask s.now unique) low (length s.now - low + 1))
    = subst (λ (n : ℕ). Lists (IsImageOf s values) (of_lengths (open_bytes mask s.now unique) n (length s.now - n + 1))) base all in
    subst (λ (xs : List ℕ). Lists (IsImageOf s values) (of_lengths (open_bytes mask xs unique) low (length xs - low + 1))) now at_low
