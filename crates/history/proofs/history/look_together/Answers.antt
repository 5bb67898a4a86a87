use Rattle.std.proofs.Common.{refl, ◌∙◌, arith}
use Rattle.history.specs.Handles.{caller_in, with_seen}
use Rattle.history.proofs.Looking.{meets_as}
use Rattle.history.proofs.Meeting.{met_start, met_look}
use Rattle.history.proofs.history.look_together.Goals as goal

pub loop-shard-init : goal.loop-shard-init
loop-shard-init c = (refl, c.requires.passes, met_start _ _)

pub load-requires : goal.load-requires
load-requires c =
    let inv = c.loop-shard.invariant in
    let c0 = caller_in c.args.seat.now.me.0.role in
    let d0 = caller_in c.args.seat.now.me.0.guest in
    let shards = c.requires.shards in
    let test = c.loop-shard-test.true in (
      inv.0 ∙ c.requires.seat,
      (let w = shards.1 in omega arith),
      meets_as _ _ _ (with_seen c0 (caller_in c.loop-shard.seat.me.0.role).seen) (with_seen d0 (caller_in c.loop-shard.seat.me.0.guest).seen) _ inv.1 (let w = shards.0 in omega arith),
    )

pub loop-shard-preserved : goal.loop-shard-preserved
loop-shard-preserved c =
    let inv = c.loop-shard.invariant in
    let looked = met_look _ _ _ _ _ _ _ inv.1 inv.2 c.load.ensures.2 in
    (c.load.ensures.0 ∙ inv.0, looked.0, looked.1)
