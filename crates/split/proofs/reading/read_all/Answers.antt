use Rattle.std.proofs.Common.{◌+◌, ◌<◌, ℕ, length, ap, ◌∙◌, sym, subst, arith}
use Rattle.std.specs.Prelude.{vec_len}
use Rattle.segment.specs.ShardPlaces.{place_of}
use Rattle.split.specs.Splits.{pair_at, IsOldShardRefused}
use Rattle.split.specs.Stages.{IsOldShardOpened}
use Rattle.split.proofs.Openings.{one_read, reads_stop, read_cause}
use Rattle.split.proofs.reading.read_all.Goals as goal

pub returns-in-Err-clause-rests : goal.returns-in-Err-clause-rests
returns-in-Err-clause-rests g c =
    reads_stop g.D.Disk.sight g.D.Disk.follows (λ disk t x y. g.met.D.Disk.only_now disk t x y) (vec_len c.args.old.now) c.loop-shard.shard c.loop-shard.images.items c.args.old.now.items c.loop-shard.old.items c.read_at.new.old.items c.loop-shard.invariant.done c.read_at.ensures.set c.read_at.ensures.rests

pub returns-in-Err-clause-refused : goal.returns-in-Err-clause-refused
returns-in-Err-clause-refused g c = λ new.
    let n = c.loop-shard.shard in
    let within : n < length c.args.old.now.items = let a = c.loop-shard-test.true in let b = c.len-count.ensures in let e = c.args.old.now.ok.0 in let f = c.requires.few in omega arith in
    let refused = subst (λ (k : ℕ). IsOldShardRefused g.D.Disk.sight g.D.Disk.follows (place_of n k) (pair_at c.loop-shard.old.items n) (pair_at c.read_at.new.old.items n) c.in-Err.fault) c.loop-shard.invariant.len c.in-Err.ensures.refused in
    read_cause g.D.Disk.sight g.D.Disk.follows (vec_len c.args.old.now) n c.loop-shard.images.items c.args.old.now.items c.loop-shard.old.items c.read_at.new.old.items c.in-Err.fault c.loop-shard.invariant.done c.args.old.now.ok.0 within c.read_at.ensures.set refused c.args.cap new

pub loop-shard-preserved : goal.loop-shard-preserved
loop-shard-preserved g c =
    let n = c.loop-shard.shard in
    let opened = subst (λ (k : ℕ). IsOldShardOpened g.D.Disk.sight g.D.Disk.follows (place_of n k) (pair_at c.loop-shard.old.items n) (pair_at c.read_at.new.old.items n) c.in-Ok.image) c.loop-shard.invariant.len c.in-Ok.ensures.read in
    let inv = c.loop-shard.invariant in
    record {
      len = c.read_at.ensures.len ∙ inv.len;
      images = c.push_reserved.ensures.len ∙ ap (λ (k : ℕ). k + 1) inv.images;
      room = c.push_reserved.ensures.capacity ∙ inv.room;
      done = one_read g.D.Disk.sight g.D.Disk.follows (vec_len c.args.old.now) n c.loop-shard.images.items c.push_reserved.new.self.items c.in-Ok.image c.args.old.now.items c.loop-shard.old.items c.read_at.new.old.items inv.done (sym c.loop-shard.images.ok.0 ∙ inv.images) c.push_reserved.ensures.items c.read_at.ensures.set opened;
    }
