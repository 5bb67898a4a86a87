use Rattle.std.proofs.Common.{arith}
use Rattle.walsplit.proofs.program.split_folder.Goals as goal

pub returns-clause-divided : goal.returns-clause-divided
returns-clause-divided g c =
    let split = c.in_ok-split_opened.ensures in
    record {
      old = c.in_ok-old.old.items;
      old_back = split.0;
      new = c.in-Ok.new.items;
      new_back = split.1;
      old_count = let e = c.in_ok-old.old.ok.0 in let n = c.in_ok-old.ensures.count in omega arith;
      new_count = let e = c.in-Ok.new.ok.0 in let n = c.in-Ok.ensures.count in omega arith;
      split = split.2;
    }
