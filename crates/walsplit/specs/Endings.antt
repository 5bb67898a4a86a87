-- How `walsplit` ends, and with which exit status.
use Rattle.std.specs.Prelude.{◌≡◌, ◌⊎◌, ◌≤◌, ℕ, List, length, ◌++◌, codes, decimal, Option, String}
use Rattle.std.specs.Io.KnownBytes.{Appends}
use Rattle.std.specs.declared.alloc.Global.{Global}
use Rattle.labels.specs.Shards.{max_shards}
use Rattle.disk.specs.Sight.{Sight}
use Rattle.split.specs.Splits.{AreSplit}
use Rattle.split.specs.declared.fault.SplitFault.TheVariants as faults
use Rattle.programs.specs.Words.{capacity_of}
use Rattle.walsplit.specs.Words.{SaysSplit}
use Rattle.walsplit.specs.declared.said.SplitWords.{SplitWords}
use Rattle.walsplit.specs.declared.walsplit_fault.WalsplitFault.{WalsplitFault}
use Rattle.walsplit.specs.declared.walsplit_fault.WalsplitFault.TheVariants.{NoShards, Missing, HasSlots, Slots, Split, Output}

-- what stops it: 3 for old slots that are refused, else 1
abbrev pub split_status : WalsplitFault → ℕ
split_status NoShards = 1
split_status (Missing name) = 1
split_status (HasSlots folder) = 1
split_status (Slots fault) = 1
split_status (Split (faults.Old shard fault)) = 3
split_status (Split fault) = 1
split_status Output = 1

-- what it says at its end
abbrev pub split_line : ℕ → ℕ → List ℕ
split_line old new = codes "split " ++ decimal old ++ codes " to " ++ decimal new ++ codes "\n"

-- There are slots of m shards that were split into slots of n shards under this capacity, each as it was given and as
-- it came back.
pub record IsDivided {D : Type 0} (sight : D → Sight) (follows : D → Type 0)
    (capacity m n : ℕ) : Type 0 where
  pub old : List (List D)
  pub old_back : List (List D)
  pub new : List (List D)
  pub new_back : List (List D)
  pub old_count : length old ≡ m
  pub new_count : length new ≡ n
  pub split : AreSplit sight follows capacity old old_back new new_back

-- How it ended, by its setting and by what its output held before and after: its words or its setting were wrong; or
-- slots were split as the words and the setting say, and the line has the numbers of the old shards and of the new
-- ones; or it stopped, and where that is not for its output, it said nothing.
pub data SplitEnds {D : Type 0} (sight : D → Sight) (follows : D → Type 0)
    (words : List (String Global)) (setting before after : Option (List ℕ))
    (status : ℕ) : Type 0 where
  unasked_split : status ≡ 2 → after ≡ before
      → SplitEnds sight follows words setting before after status
  divided_split : (said : SplitWords) → SaysSplit words said → (shards : ℕ) → 1 ≤ shards
      → shards ≤ max_shards → IsDivided sight follows (capacity_of setting) shards said.shards
      → Appends before after (split_line shards said.shards) → status ≡ 0
      → SplitEnds sight follows words setting before after status
  stopped_split : (stop : WalsplitFault) → (stop ≡ Output) ⊎ (after ≡ before) → status ≡ split_status stop
      → SplitEnds sight follows words setting before after status
