-- The laws of a disk that is known by its acts.
use Rattle.std.specs.Prelude.{◌≡◌, ◌≤◌, ◌<◌, ◌⊎◌, ℕ, ◌+◌, max, List, [], ◌∷◌, ◌++◌, length, take, drop, slice_index_or, Bool, true, false, nat_le}
use Rattle.std.proofs.Common.{refl, subst, sym, inl, inr, ◌∙◌, arith, length-append, length-take, length-drop}
use Rattle.std.proofs.lemmas.List.{take_all, places}
use Rattle.std.proofs.lemmas.Bool.{leb-true}
use Rattle.disk.specs.State.{Act, Write, Break, Sync, State, nothing, over, wrote, act, state_after, IsImage, sight_of}

pub now_counts : (start : State) (acts : List Act) (failures t : ℕ) (c : List ℕ) → t ≤ length acts
    → IsImage (state_after start acts) c
    → (sight_of start acts failures).left_since t c
now_counts start acts failures t c le image = (
  length acts,
  le,
  omega arith,
  subst (λ (xs : List Act). IsImage (state_after start xs) c)
      (sym (take_all (length acts) acts (omega arith))) image,
)

pub just_now : (start : State) (acts : List Act) (failures : ℕ) (c : List ℕ)
    → (sight_of start acts failures).left_since (length acts) c
    → IsImage (state_after start acts) c
just_now start acts failures c left =
    subst (λ (xs : List Act). IsImage (state_after start xs) c) (take_all left.0 acts left.1) left.3

-- a write leaves the bytes outside its range
index-over : (now bytes : List ℕ) (at n i : ℕ) → length bytes ≤ n → at ≤ length now
    → ((i < at) ⊎ (at + n ≤ i))
    → slice_index_or (take at now ++ bytes ++ drop (at + length bytes) now) i 0
    ≡ slice_index_or now i 0
index-over now bytes at n i fits le (inl below) = grind (arith, places)
index-over now bytes at n i fits le (inr above) = grind (arith, places)

pub length-over : (now bytes : List ℕ) (at : ℕ) → at ≤ length now
    → length (take at now ++ bytes ++ drop (at + length bytes) now)
    ≡ max (length now) (at + length bytes)
length-over now bytes at le = simp (length-append, length-take, length-drop) (omega arith)

sound-over : (s : State) (at n : ℕ) (bytes : List ℕ) → length bytes ≤ n → at ≤ length s.now
    → IsImage s s.now
    → IsImage (over s at n bytes) (over s at n bytes).now
sound-over s at n bytes fits le sound = record {
  no_shorter = omega (arith, sound.no_shorter, length-over s.now bytes at le);
  no_longer = omega arith;
  same = λ i h outside. index-over s.now bytes at n i fits le outside.0 ∙ sound.same i h outside.1;
}

sound-wrote : (s : State) (at n : ℕ) (bytes : List ℕ) (b : Bool) → length bytes ≤ n
    → nat_le at (length s.now) ≡ b
    → IsImage s s.now
    → IsImage (wrote s at n bytes) (wrote s at n bytes).now
sound-wrote s at n bytes true fits e sound =
    rw e (sound-over s at n bytes fits (leb-true at (length s.now) e) sound)
sound-wrote s at n bytes false fits e sound = rw e sound

sound-act : (s : State) (a : Act) → IsImage s s.now → IsImage (act s a) (act s a).now
sound-act s (Write at bytes) sound =
    sound-wrote s at (length bytes) bytes (nat_le at (length s.now)) (omega arith) refl sound
sound-act s (Break at n bytes) sound =
    sound-wrote s at n (take n bytes) (nat_le at (length s.now))
    (omega (arith, length-take n bytes)) refl sound
sound-act s Sync sound = record {
  no_shorter = omega arith;
  no_longer = omega arith;
  same =
      λ i h outside. refl;
}

-- what a read gives is one of the contents that a crash may leave
pub always_sound : (start : State) → IsImage start start.now → (acts : List Act)
    → IsImage (state_after start acts) (state_after start acts).now
always_sound start sound [] = sound
always_sound start sound (a ∷ acts) = always_sound (act start a) (sound-act start a sound) acts

pub sound_nothing : IsImage nothing nothing.now
sound_nothing = record {
  no_shorter = omega arith;
  no_longer = omega arith;
  same =
      λ i h outside. refl;
}
