-- What an ingester is, what an opening is set up with, and what it hands out.
use Rattle.std.specs.Prelude.{◌≡◌, ℕ, ◌<◌, ◌≤◌, List, Some, length, slice_get}
use Rattle.atomic_table.specs.Seated.{TableId}
use Rattle.labels.specs.Shards.{max_shards}
use Rattle.accept.specs.OneStream.{AreLimits}
use Rattle.disk.specs.Sight.{Sight}
use Rattle.history.specs.Handles.{Passed, fresh_pass, about_of}
use Rattle.history.specs.Histories.{max_passes}
use Rattle.openings.specs.Findings.{AreOpenedFrom}
use Rattle.owners.specs.Openings.{Opening}
use Rattle.ingester.specs.declared.settings.Settings.{Settings}

-- an opening of this number of shards, with histories in this table
pub record IsOpening {D : Type 0} (table : TableId) (opening : Opening D) (count : ℕ) : Type 0 where
  pub same_table : opening.table ≡ table
  pub shards : opening.about.shards ≡ count
  pub some_shard : 1 ≤ count
  pub few : count ≤ max_shards

-- this number of passes of the opening, in the order of their numbers, which have seen and made nothing
pub record AreFresh {D : Type 0} (opening : Opening D) (count : ℕ)
    (passes : List Passed) : Type 0 where
  pub count_is : length passes ≡ count
  pub fresh : (p : ℕ) (pass : Passed) → slice_get passes p ≡ Some pass
      → pass ≡ fresh_pass opening.table opening.about p

-- an opening may be set up so
pub record AreSettings (settings : Settings) : Type 0 where
  pub some_pass : 0 < settings.passes
  pub few_passes : settings.passes ≤ max_passes
  pub limits : AreLimits settings.limits

-- this number of pairs of slots were opened, as the settings say, and these are the passes
pub record IsOpenedAs {D : Type 0} (sight : D → Sight) (follows : D → Type 0) (settings : Settings)
    (count : ℕ) (slots : List (List D)) (ingester : Opening D) (dealt : List Passed) : Type 0 where
  pub found : AreOpenedFrom sight follows count settings.capacity 0 slots ingester.logs
      ingester.about.bases
  pub about : ingester.about ≡ about_of ingester.about.bases settings.passes settings.limits
      settings.capacity
  pub shards : ingester.about.shards ≡ count
  pub passes : AreFresh ingester settings.passes dealt
