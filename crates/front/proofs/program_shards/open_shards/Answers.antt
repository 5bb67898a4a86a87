use Rattle.std.proofs.Common.{ap}
use Rattle.front.proofs.program_shards.open_shards.Goals as goal

pub returns-in-Ok-clause-passes : goal.returns-in-Ok-clause-passes
returns-in-Ok-clause-passes g c p pass found =
    let is = c.in-Ok.ensures.opened.passes.fresh p pass found in record {
      table = ap (λ q. q.table) is;
      about = ap (λ q. q.caller.about) is;
      idle = λ _. ap (λ q. q.caller.pending) is;
    }
