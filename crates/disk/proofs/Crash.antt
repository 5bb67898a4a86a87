-- What a crash may leave after one more act.
use Rattle.std.proofs.Common.{rules, le-leb, ◌≡◌, ◌≤◌, ◌<◌, ◌⊎◌, ℕ, ◌+◌, ◌-◌, min, max, List, [], ◌∷◌, ◌++◌, length, take, drop, get_or, refl, ap, subst, sym, inl, inr, ◌∙◌, arith, append_assoc, length-append, length-take, length-drop}
use Rattle.std.proofs.lemmas.List.{places, same_lists, get_or_default, take_all, drop_all, take-append-drop, drop-drop}
use Rattle.disk.specs.Sight.{Looks, Writes, IsSynced, Torn}
use Rattle.disk.specs.State.{Act, Write, Break, Sync, State, act, over, wrote, furthest, state_after, IsImage, sight_of}
use Rattle.disk.specs.Laws.{always_sound, length-over}
use Rattle.disk.proofs.Ranges.{ltb_cases, within_or_not}
use Rattle.disk.proofs.Acts.{state_after-push, elapses-push}

-- the longest content that a crash may leave
abbrev longest : State → ℕ
longest s = max (length s.now) (furthest s.ranges)

-- what a read gives, and after it the rest of a content that is longer
abbrev padded : State → List ℕ → List ℕ
padded s c = s.now ++ drop (length s.now) c

-- a content after a write, before the write: the range as a read gave it, and no longer than it could have been
abbrev pub untorn : State → ℕ → ℕ → List ℕ → List ℕ
untorn s at n c = take (longest s) (take at c ++ (take n (drop at (take (length c) (padded s c))) ++ drop (at + n) c))

pub length-untorn : (s : State) (at n : ℕ) (c : List ℕ) → at ≤ length s.now → length (untorn s at n c) ≡ min (length c) (longest s)
length-untorn s at n c le = simp (length-append, length-take, length-drop) (omega arith)

pub torn-untorn : (s : State) (at n : ℕ) (c : List ℕ) → at ≤ length s.now → length c ≤ max (longest s) (at + n)
    → Torn at n (untorn s at n c) c
torn-untorn s at n c le long = record {
  before = same_lists _ _ (search (rules, places)) (λ k d h. grind (arith, places));
  after = same_lists _ _ (search (rules, places)) (λ k d h. grind (arith, places));
  no_shorter = omega (arith, length-untorn s at n c le);
  no_longer = omega (arith, length-untorn s at n c le);
}

index-in : (s : State) (at n : ℕ) (c : List ℕ) (i : ℕ) → at ≤ length s.now → i < length c → i < length s.now → at ≤ i → i < at + n
    → get_or (untorn s at n c) i 0 ≡ get_or s.now i 0
index-in s at n c i le in_c in_now low high = grind (arith, places)

index-out : (s : State) (at n : ℕ) (c : List ℕ) (i : ℕ) → at ≤ length s.now → i < length c → i < length s.now → ((i < at) ⊎ (at + n ≤ i))
    → get_or (untorn s at n c) i 0 ≡ get_or c i 0
index-out s at n c i le in_c in_now (inl below) = grind (arith, places)
index-out s at n c i le in_c in_now (inr above) = grind (arith, places)

-- a byte of it within both: that of the disk where the write was, and else that of the content
index-untorn : (s : State) (at n : ℕ) (c : List ℕ) (i : ℕ) → at ≤ length s.now → i < length c → i < length s.now
    → get_or s.now i 0 ≡ get_or s.base i 0 → (((i < at) ⊎ (at + n ≤ i)) → get_or c i 0 ≡ get_or s.base i 0)
    → get_or (untorn s at n c) i 0 ≡ get_or s.base i 0
index-untorn s at n c i le in_c in_now now kept = elim (within_or_not at n i) [
  | inl inside ↦ index-in s at n c i le in_c in_now inside.0 inside.1 ∙ now
  | inr apart ↦ index-out s at n c i le in_c in_now apart ∙ kept apart
]

-- no content is longer than it could have been before the write, or than the write
longest-over : (s : State) (at n : ℕ) (bytes : List ℕ) → length bytes ≤ n → at ≤ length s.now → longest (over s at n bytes) ≤ max (longest s) (at + n)
longest-over s at n bytes fits le = omega (arith, length-over s.now bytes at le)

pub image-untorn : (s : State) (at n : ℕ) (bytes c : List ℕ) → length bytes ≤ n → at ≤ length s.now → IsImage s s.now → IsImage (over s at n bytes) c
    → IsImage s (untorn s at n c)
image-untorn s at n bytes c fits le sound image =
    let size : length (untorn s at n c) ≡ min (length c) (longest s) = length-untorn s at n c le in
    let base : length s.base ≤ length s.now = sound.no_shorter in
    record {
      no_shorter = omega (arith, size, image.no_shorter, base);
      no_longer = omega (arith, size);
      same = λ i h outside. index-untorn s at n c i le (omega (arith, image.no_shorter)) (omega (arith, base))
          (sound.same i h outside) (λ apart. image.same i h (apart, outside));
    }

-- a write that isn't past the end is made
pub made : (s : State) (at n : ℕ) (bytes : List ℕ) → at ≤ length s.now → wrote s at n bytes ≡ over s at n bytes
made s at n bytes le = rw (le-leb at (length s.now) le) refl

-- what an act of a write makes of the state, done or failed
pub record IsOver (s : State) (a : Act) (at n : ℕ) (bytes : List ℕ) : Type 0 where
  pub state : act s a ≡ over s at n bytes
  pub fits : length bytes ≤ n
  pub place : at ≤ length s.now

pub is_write : (s : State) (at : ℕ) (bytes : List ℕ) → at ≤ length s.now → IsOver s (Write at bytes) at (length bytes) bytes
is_write s at bytes le = record { state = made s at (length bytes) bytes le; fits = omega arith; place = le }

pub is_break : (s : State) (at n : ℕ) (bytes : List ℕ) → at ≤ length s.now → IsOver s (Break at n bytes) at n (take n bytes)
is_break s at n bytes le = record { state = made s at n (take n bytes) le; fits = omega (arith, length-take n bytes); place = le }

-- whatever a torn write leaves, there are bytes with which a failed one leaves it
pub breaks-any : (s : State) (at n : ℕ) (c : List ℕ) → at ≤ length s.now → Torn at n s.now c → (left : List ℕ) × ((act s (Break at n left)).now ≡ c)
breaks-any s at n c le torn =
    let left : List ℕ = take n (drop at c) in
    let size : length left ≡ min n (length c - at) = omega (arith, length-take n (drop at c), length-drop at c) in
    let same : take n left ≡ left = take_all n left (omega (arith, size)) in
    let rest : drop (at + length left) s.now ≡ drop (at + n) s.now = elim (ltb_cases (length c) (at + n)) [
      | inl short ↦ drop_all (at + length left) s.now (omega (arith, size, torn.no_shorter)) ∙ sym (drop_all (at + n) s.now (omega (arith, torn.no_shorter)))
      | inr long ↦ ap (λ (k : ℕ). drop k s.now) (omega (arith, size))
    ] in
    let whole : c ≡ take at s.now ++ left ++ drop (at + n) s.now
    = sym (take-append-drop at c) ∙ ap (λ (xs : List ℕ). take at c ++ xs) (sym (take-append-drop n (drop at c)) ∙ ap (λ (xs : List ℕ). left ++ xs) (drop-drop n at c ∙ torn.after))
    ∙ ap (λ (xs : List ℕ). xs ++ (left ++ drop (at + n) s.now)) torn.before ∙ sym (append_assoc (take at s.now) left (drop (at + n) s.now)) in (
      left,
      ap (λ (t : State). t.now) (made s at n (take n left) le)
          ∙ ap (λ (xs : List ℕ). take at s.now ++ xs ++ drop (at + length xs) s.now) same
          ∙ ap (λ (xs : List ℕ). take at s.now ++ left ++ xs) rest ∙ sym whole,
    )

-- a write, done or torn
pub writes-push : (start : State) → IsImage start start.now → (acts : List Act) (a : Act) (at n : ℕ) (bytes : List ℕ) (f f' : ℕ)
    → IsOver (state_after start acts) a at n bytes → Writes at n (sight_of start acts f) (sight_of start (acts ++ a ∷ []) f')
writes-push start sound acts a at n bytes f f' one = record {
  time = elapses-push start acts a f f';
  crash = λ c image.
      let s : State = state_after start acts in
      let sound_now : IsImage s s.now = always_sound start sound acts in
      let after : IsImage (over s at n bytes) c = subst (λ (t : State). IsImage t c) (state_after-push start acts a ∙ one.state) image in (
        untorn s at n c,
        image-untorn s at n bytes c one.fits one.place sound_now after,
        torn-untorn s at n c one.place (omega (arith, after.no_longer, longest-over s at n bytes one.fits one.place)),
      );
}

-- what a read gives after it
pub seen-write : (start : State) (acts : List Act) (at : ℕ) (bytes : List ℕ) → at ≤ length (state_after start acts).now
    → (state_after start (acts ++ Write at bytes ∷ [])).now
    ≡ take at (state_after start acts).now ++ bytes ++ drop (at + length bytes) (state_after start acts).now
seen-write start acts at bytes le =
    ap (λ (s : State). s.now) (state_after-push start acts (Write at bytes) ∙ made (state_after start acts) at (length bytes) bytes le)

-- of a disk that was just synced a crash leaves what a read gives
only_base : (s : State) (c : List ℕ) → IsImage (act s Sync) c → c ≡ s.now
only_base s c image = same_lists c s.now (omega (arith, image.no_shorter, image.no_longer)) (λ k d h. get_or_default c k d 0 h ∙ image.same k (omega (arith, image.no_longer)) tt ∙ sym (get_or_default s.now k d 0 (omega (arith, image.no_longer))))

pub synced-push : (start : State) (acts : List Act) (f : ℕ) → IsSynced (sight_of start (acts ++ Sync ∷ []) f)
synced-push start acts f = λ c image.
    only_base (state_after start acts) c (subst (λ (t : State). IsImage t c) (state_after-push start acts Sync) image)
    ∙ sym (ap (λ (t : State). t.now) (state_after-push start acts Sync))

pub looks-sync : (start : State) → IsImage start start.now → (acts : List Act) (f f' : ℕ)
    → Looks (sight_of start acts f) (sight_of start (acts ++ Sync ∷ []) f')
looks-sync start sound acts f f' = record {
  time = elapses-push start acts Sync f f';
  same = ap (λ (s : State). s.now) (state_after-push start acts Sync);
  crash = λ c image. subst (λ (b : List ℕ). IsImage (state_after start acts) b)
      (sym (only_base (state_after start acts) c (subst (λ (t : State). IsImage t c) (state_after-push start acts Sync) image)))
      (always_sound start sound acts);
}
