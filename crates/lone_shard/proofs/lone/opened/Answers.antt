use Rattle.std.proofs.Common.{rules, ◌≡◌, length}
use Rattle.lone_shard.proofs.Passes.{last_idle}
use Rattle.lone_shard.proofs.lone.opened.Goals as goal

pub invariant_of-lone : goal.invariant_of-lone
invariant_of-lone g c =
    let one : length c.deref.result.now ≡ 1 = search rules in
    let made = c.in_ok-history in
    let last = c.in-Some-Some-Some in
    let passes = last_idle made.history _ c.args.passes made.others.items c.pop-2.new.self.items last.pass one made.ensures.passes last.ensures'.items in
    record {
      table = (search rules, passes.1.table_is);
      only = (search rules, search rules, passes.1.one);
      idle = passes.1.idle;
    }

pub returns : goal.returns
returns g c =
    let one : length c.deref.result.now ≡ 1 = search rules in
    let made = c.in_ok-history in
    let last = c.in-Some-Some-Some in
    record { idle = (last_idle made.history _ c.args.passes made.others.items c.pop-2.new.self.items last.pass one made.ensures.passes last.ensures'.items).0 }
