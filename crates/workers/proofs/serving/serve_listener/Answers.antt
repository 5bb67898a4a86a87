use Rattle.std.proofs.Common.{All, rules}
use Rattle.workers.proofs.Lists.{at_each_place, from_each_place}
use Rattle.workers.proofs.serving.serve_listener.Goals as goal

pub scoped-requires : goal.scoped-requires
scoped-requires g c =
    let all : All (g.S.Serve.is_pass_of c.args.service.now) c.args.passes.items = from_each_place c.args.passes.items (g.S.Serve.is_pass_of c.args.service.now) c.requires.passes in
    search rules

pub returns : goal.returns
returns g c = record { passes = at_each_place c.scoped.result.0.items (g.S.Serve.is_pass_of c.args.service.now) c.scoped.ensures.1.0; left = c.scoped.ensures.1.1; served = c.scoped.ensures.1.2 }
