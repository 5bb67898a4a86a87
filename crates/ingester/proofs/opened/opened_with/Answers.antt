use Rattle.std.proofs.Common.{refl}
use Rattle.owners.specs.Openings.{home_of}
use Rattle.ingester.proofs.opened.opened_with.Goals as goal

pub seat_passes-passes-requires-clause-room : goal.seat_passes-passes-requires-clause-room
seat_passes-passes-requires-clause-room g c = c.requires.room

pub seat_passes-passes-requires-clause-home : goal.seat_passes-passes-requires-clause-home
seat_passes-passes-requires-clause-home g c = (home_of c.args.plan.origin, c.requires.seats, c.requires.rows.0)

pub seat_passes-passes-requires-clause-same : goal.seat_passes-passes-requires-clause-same
seat_passes-passes-requires-clause-same g c = c.requires.rows.1

pub invariant_of-ingester : goal.invariant_of-ingester
invariant_of-ingester g c = c.requires.parts

pub returns-clause-ingester : goal.returns-clause-ingester
returns-clause-ingester g c = refl

pub returns-clause-passes : goal.returns-clause-passes
returns-clause-passes g c = c.seat_passes-passes.ensures

pub returns-clause-shards : goal.returns-clause-shards
returns-clause-shards g c = refl

pub returns-clause-ends : goal.returns-clause-ends
returns-clause-ends g c = refl
