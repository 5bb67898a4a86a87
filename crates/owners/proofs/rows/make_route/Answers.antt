use Rattle.std.proofs.Common.{◌∷◌, [], ◌++◌, cond, refl, ap, ◌∙◌}
use Rattle.owners.specs.declared.rows.ShardQueues.{ShardQueues}
use Rattle.owners.proofs.QueueSteps.{queues_more}
use Rattle.owners.proofs.rows.make_route.Goals as goal

pub returns-clause-queues : goal.returns-clause-queues
returns-clause-queues c =
    let old : ShardQueues = c.args.queues.now in
    let now : ShardQueues = record { orders = c.another.new.self; gets = c.args.queues.now.gets; answers = c.push.new.self } in
    let items = c.push.ensures.items ∙ ap (λ b. cond b (old.answers.items ++ c.in_ok-to.to ∷ []) old.answers.items) c.if-is_err.ensures.negation in
    queues_more c.args.home.now c.args.pass c.args.shard old now c.requires c.another.ensures.same refl c.in_ok-to.to items c.in_ok-to.ensures.0
