-- One opening after another, each over what a crash left of the one before.
use Rattle.std.specs.Prelude.{◌≡◌, ℕ, ◌<◌, List, [], ◌∷◌, ◌++◌, length, if◌then◌else◌}
use Rattle.headline.specs.Types.{Streams, Limits, Ask, Item, Answered, Failed, Sight}
use Rattle.accept.specs.Histories.{meaning, answered_to}
use Rattle.history.specs.Histories.{IsBeginning, base_at}
use Rattle.history.specs.Plays.{seen_at}
use Rattle.headline.specs.Threads.{Thread, AnsweredCall}
use Rattle.headline.specs.Headline.{IsOneOf, WasAnswered, is_refusal, shard_at, step_for}
use Rattle.headline.specs.Lives.{Life, IsLife, IsHeadlineOf, MayBeReplayed, AreLeftAt, LogsFollow, writing_in}

-- what was found of a shard's history after an opening: a beginning of it, and calls that were being written
pub record Part : Type 0 where
  pub beginning : List Item
  pub more : List Ask

-- the calls that were answered, and not refused
abbrev pub answered_in : List Item → List Ask
answered_in [] = []
answered_in (Answered s ∷ items) =
    if is_refusal s.reply then answered_in items else s.ask ∷ answered_in items
answered_in (Failed doubt ∷ items) = answered_in items

-- the calls of all openings, one after another
abbrev pub calls_found : List Part → List Ask
calls_found [] = []
calls_found (p ∷ parts) = (answered_in p.beginning ++ p.more) ++ calls_found parts

-- so much of a history was found, with each call that was answered in that opening
pub record IsPart {D : Type 0} (k : ℕ) (life : Life D) (history : ℕ → List Item)
    (p : Part) : Type 0 where
  pub a_beginning_of_that_history : IsBeginning p.beginning (history k)
  pub continued_only_by_calls_being_written : IsBeginning p.more (writing_in life.ends history k)
  pub holds_every_answered_call : (a : AnsweredCall) → WasAnswered life.threads a
      → shard_at life.opening.about a ≡ k
      → IsOneOf (step_for a) p.beginning
  pub holds_what_each_pass_had_seen : (t : Thread) → IsOneOf t life.threads
      → IsBeginning (seen_at t.end.caller k) p.beginning

abbrev pub AreParts : {D : Type 0} → ℕ → List (Life D) → List (ℕ → List Item) → List Part → Type 0
AreParts k [] [] [] = Unit {0}
AreParts k (life ∷ lives) (h ∷ histories) (p ∷ parts) = IsPart k life h p
    × AreParts k lives histories parts
AreParts k lives histories parts = ⊥

-- what the first of them found of shard k
abbrev pub base_in : {D : Type 0} → ℕ → List (Life D) → Streams → Streams
base_in k [] m = m
base_in k (life ∷ lives) m = base_at life.opening.about k

-- What was found of shard k in the end is what a one-thread ingester has that got all these calls, one after another.
pub record IsTale {D : Type 0} (limits : Limits) (k : ℕ) (lives : List (Life D))
    (histories : List (ℕ → List Item))
    (state : Streams) : Type 0 where
  pub parts : List Part
  pub parts_are : AreParts k lives histories parts
  pub the_state_after : state
      ≡ meaning (answered_to limits (record { base = base_in k lives state; items = [] })
      (calls_found parts))

module _ {D : Type 0} (sight : D → Sight) (follows : D → Type 0) where
  -- the next opening is over slots that a crash left
  abbrev pub IsContinued : Life D → List (Life D) → Type 0
  IsContinued life [] = Unit {0}
  IsContinued life (next ∷ lives) = AreLeftAt sight follows life.ends next.given
      × LogsFollow sight follows next.opening.logs

  -- openings of n shards under these limits, one after another
  abbrev pub AreLives : ℕ → Limits → List (Life D) → Type 0
  AreLives n limits [] = Unit {0}
  AreLives n limits (life ∷ lives) = IsLife sight follows life × (length life.given ≡ n)
      × (life.opening.about.limits ≡ limits) × IsContinued life lives × AreLives n limits lives

  -- after the last of them a crash left slots of which the next opening has these streams of shard k
  abbrev pub IsFoundLast : List (Life D) → ℕ → Streams → Type 0
  IsFoundLast [] k state = ⊥
  IsFoundLast (life ∷ []) k state = MayBeReplayed sight follows life.ends k state
  IsFoundLast (life ∷ next ∷ lives) k state = IsFoundLast (next ∷ lives) k state

  -- each by itself
  abbrev pub AreHeadlines : List (Life D) → List (ℕ → List Item) → Type 0
  AreHeadlines [] [] = Unit {0}
  AreHeadlines (life ∷ lives) (h ∷ histories) = IsHeadlineOf sight follows life h
      × AreHeadlines lives histories
  AreHeadlines lives histories = ⊥

  -- There are histories of each opening as the headline says. Whatever crash comes in the end, replay gives the state
  -- after the calls of all of them.
  pub record IsHeadlineOfLives (n : ℕ) (limits : Limits) (lives : List (Life D)) : Type 0 where
    pub histories : List (ℕ → List Item)
    pub each : AreHeadlines lives histories
    pub whatever_crash_comes : (k : ℕ) → k < n → (state : Streams) → IsFoundLast lives k state
        → IsTale limits k lives histories state
