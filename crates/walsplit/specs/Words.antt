-- The words that `walsplit` is given.
use Rattle.std.specs.Prelude.{ℕ, ◌≡◌, List, [], ◌∷◌, String, string_bytes}
use Rattle.std.specs.declared.alloc.Global.{Global}
use Rattle.labels.specs.Shards.{max_shards}
use Rattle.programs.specs.Words.{value, IsNumberIn}
use Rattle.walsplit.specs.declared.said.SplitWords.{SplitWords}

-- three words: the folder of the old slots, that of the new ones, and how many shards are wanted
pub record GiveSplit (words : List (String Global)) : Type 0 where
  pub old : String Global
  pub new : String Global
  pub count : String Global
  pub words_are : words ≡ old ∷ new ∷ count ∷ []
  pub named : IsNumberIn 1 max_shards (string_bytes count)

-- what is split, and into how many shards
pub record SaysOfSplit (old new count : List ℕ) (split : SplitWords) : Type 0 where
  pub old_is : split.old_folder.now ≡ old
  pub new_is : split.new_folder.now ≡ new
  pub shards_are : split.shards ≡ value count

-- the split that the words say
pub record SaysSplit (words : List (String Global)) (split : SplitWords) : Type 0 where
  pub given : GiveSplit words
  pub says : SaysOfSplit (string_bytes given.old) (string_bytes given.new)
      (string_bytes given.count) split
