use Rattle.std.proofs.Common.{rules}
use Rattle.ingester.proofs.opened.Ingester.open.Goals as goal

pub open_observed-requires-after_bounds : goal.open_observed-requires-after_bounds
open_observed-requires-after_bounds g c = λ κs lives. (search rules, (c.requires.slots, c.requires.settings))

pub returns-clause-opened : goal.returns-clause-opened
returns-clause-opened g c = c.open_observed.ensures.opened

pub returns-clause-unmade : goal.returns-clause-unmade
returns-clause-unmade g c = c.open_observed.ensures.unmade
