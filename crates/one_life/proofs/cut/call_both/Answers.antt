use Rattle.std.proofs.Common.{◌∙◌, sym}
use Rattle.one_life.proofs.Staying.{here_for}
use Rattle.one_life.proofs.cut.call_both.Goals as goal

pub call_once-requires : goal.call_once-requires
call_once-requires g c =
    let it = c.args.it.now in
    let of = c.requires.of in
    record {
      tables = (of.one.same_table, of.first.same_table);
      pass = (of.one.same_about, of.one.idle);
      here = here_for c.args.history.now it.first.book.about 0 it.one it.first.book c.args.first of.two_shards of.one of.first c.requires.shards.0;
      numbers = c.requires.numbers.0;
      jobs = c.in_ok-tray.ensures.jobs;
      settled = c.in_ok-tray.ensures.settled;
    }

pub call_once-requires-2 : goal.call_once-requires-2
call_once-requires-2 g c =
    let it = c.args.it.now in
    let of = c.requires.of in
    record {
      tables = (of.two.same_table, of.second.same_table);
      pass = (of.two.same_about ∙ sym of.second.same_about, of.two.idle);
      here = here_for c.args.history.now it.first.book.about 1 it.two it.second.book c.args.second of.two_shards of.two of.second c.requires.shards.1;
      numbers = c.requires.numbers.1;
      jobs = c.in_ok-other_tray.ensures.jobs;
      settled = c.in_ok-other_tray.ensures.settled;
    }

pub returns : goal.returns
returns g c = record { first_call = c.in_ok-reply.ensures; second_call = c.in_ok-other.ensures }
