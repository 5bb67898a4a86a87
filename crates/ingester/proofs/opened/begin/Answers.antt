use Rattle.std.proofs.Common.{refl}
use Rattle.ingester.proofs.opened.begin.Goals as goal

pub hand_all-requires-clause-opening : goal.hand_all-requires-clause-opening
hand_all-requires-clause-opening g c = (c.args.opened.ingester, c.requires.shards, c.requires.ends)

pub hand_all-requires-clause-count : goal.hand_all-requires-clause-count
hand_all-requires-clause-count g c = c.requires.count

pub returns-clause-ingester : goal.returns-clause-ingester
returns-clause-ingester g c = refl

pub returns-clause-passes : goal.returns-clause-passes
returns-clause-passes g c = refl
