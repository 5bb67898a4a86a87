use Rattle.std.proofs.Common.{refl}
use Rattle.owners.specs.Openings.{home_of}
use Rattle.owners.proofs.plan.make_ends.Goals as goal

pub returns-clause-ends : goal.returns-clause-ends
returns-clause-ends g c = (
  record {
    gets = c.requires.queues.gets;
    sends = c.requires.queues.answers;
    returns = c.in_ok-back.ensures.0;
    at_mailbox = c.in_ok-mailbox.ensures.mailbox (home_of c.args.origin) c.args.shard;
    idle = c.in_ok-mailbox.ensures.idle;
  },
  refl,
)
