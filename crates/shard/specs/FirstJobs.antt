-- How the first of some jobs join a group, and why it ends.
use Rattle.std.specs.Prelude.{◌≡◌, ◌≢◌, ◌≤◌, List, [], ◌∷◌, ◌++◌}
use Rattle.std.specs.VecDeque.{deque_len}
use Rattle.disk.specs.Sight.{Sight}
use Rattle.shard.specs.declared.first_jobs.GroupEnd.{GroupEnd}
use Rattle.shard.specs.declared.first_jobs.GroupEnd.TheVariants.{Most, Last, Full, Memory}
use Rattle.shard.specs.declared.first_jobs.Job.{Job}
use Rattle.shard.specs.declared.group.Group.{Group}
use Rattle.shard.specs.declared.parts.Parts.{Parts}
use Rattle.shard.specs.Adding.{IsGroup, waiting_of, HasPlaces}
use Rattle.shard.specs.Judging.{IsTooLong}
use Rattle.shard.specs.Jobs.{max_turn, tickets_of, AreLawful}
use Rattle.shard.specs.Queues.{tickets_in}

-- The group has 64 calls, or no job is left, or the record of the next does not fit, or there was no memory for the
-- next.
abbrev pub EndsGathering : {D : Type 0} → Parts D → Group → List Job → GroupEnd → Type 0
EndsGathering p group jobs Most = deque_len group.judged ≡ max_turn
EndsGathering p group jobs Last = jobs ≡ []
EndsGathering p group [] Full = ⊥
EndsGathering p group (j ∷ jobs) Full =
    IsTooLong p.limits p.log.wal p.states.streams j.call p.buffer.items
EndsGathering p group jobs Memory = jobs ≢ []

-- The first half of a turn: the parts before and after it, the group, the jobs and those that are left, and why no more
-- of them join.
pub record TurnStart (D : Type 0) : Type 0 where
  pub old : Parts D
  pub new : Parts D
  pub group : Group
  pub jobs : List Job
  pub rest : List Job
  pub ended : GroupEnd

-- The first of the jobs have joined the group that was there, and the rest is as it was.
pub record HasGathered {D : Type 0} (sight : D → Sight) (follows : D → Type 0) (before : Group)
    (s : TurnStart D) : Type 0 where
  pub group_is : IsGroup sight follows s.new s.group
  pub frame : s.new ≡ record s.old { states = s.new.states; buffer = s.new.buffer }
  pub places : HasPlaces s.group
  pub no_fewer : deque_len before.judged ≤ deque_len s.group.judged
  pub split : tickets_in (waiting_of s.group) ++ tickets_of s.rest
      ≡ tickets_in (waiting_of before) ++ tickets_of s.jobs
  pub ends : EndsGathering s.new s.group s.rest s.ended
  pub lawful : AreLawful s.old.book.about s.old.book.shard s.rest
