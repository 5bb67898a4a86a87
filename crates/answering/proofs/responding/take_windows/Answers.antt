use Rattle.std.proofs.Common.{rules, ◌≡◌, ◌≤◌, ◌+◌, ◌∙◌, [], length, refl, ap, subst, arith}
use Rattle.std.proofs.lemmas.Grind.{common_steps}
use Rattle.answering.specs.Windows.{StreamsAreTaken, called}
use Rattle.answering.proofs.Pushing.{called_append, called_most, starts, ends}
use Rattle.answering.proofs.responding.take_windows.Goals as goal

pub loop-rest-init : goal.loop-rest-init
loop-rest-init g c = record {
  pass = c.requires.pass;
  fresh = c.requires.fresh;
  numbers = c.requires.numbers;
  size = refl;
  taken = λ tenant all are. starts (g.S.Calls.gives c.args.service.now) tenant c.args.pass.now all c.args.places.now c.args.windows.left.items c.new-lines.result are c.new-lines.ensures;
  fits = omega (arith, c.new-lines.ensures.streams);
  enough = c.requires.enough;
  most = omega arith;
}

pub take-requires-clause-next : goal.take-requires-clause-next
take-requires-clause-next g c =
    let inv = c.loop-rest.invariant in
    let window = c.split_at.result.0.now in
    let more = c.split_at.result.1.now in
    let same : called c.loop-rest.rest.now ≡ called window + called more = ap called c.split_at.ensures.by_index.0 ∙ called_append window more in
    let most = called_most window in
    let short : length window ≤ 64 = omega (arith, c.split_at.ensures.front_len, c.min.ensures) in
    record {
      enough = omega (arith, same, inv.enough);
      room = omega (arith, same, most, short, inv.enough, inv.most, inv.size, c.requires.size);
      few = short;
      counted = search rules;
    }

pub loop-rest-preserved : goal.loop-rest-preserved
loop-rest-preserved g c =
    let inv = c.loop-rest.invariant in
    let window = c.split_at.result.0.now in
    let more = c.split_at.result.1.now in
    let split = c.split_at.ensures.by_index.0 in
    let same : called c.loop-rest.rest.now ≡ called window + called more = ap called split ∙ called_append window more in
    let t = c.in_ok-take.ensures in
    record {
      pass = c.take.ensures.pass;
      fresh = t.over.fresh;
      numbers = c.take.ensures.numbers;
      size = c.take.ensures.left.1 ∙ inv.size;
      taken = λ tenant all are.
          t.goes c.args.pass.now tenant all more
          (subst (λ l. StreamsAreTaken (g.S.Calls.gives c.args.service.now) tenant c.args.pass.now all c.loop-rest.pass l c.loop-rest.windows.left.items c.loop-rest.lines) split (inv.taken tenant all are));
      fits = omega (arith, inv.fits, t.over.count, c.split_at.ensures.back_len, c.split_at.ensures.front_len);
      enough = omega (arith, same, inv.enough, c.take.ensures.left.0);
      most = omega (arith, inv.most, c.take.ensures.left.0);
    }

pub returns-clause-goes : goal.returns-clause-goes
returns-clause-goes g c tenant all are =
    let none : c.loop-rest.rest.now ≡ [] = grind (arith, common_steps) in
    let taken = subst (λ l. StreamsAreTaken (g.S.Calls.gives c.args.service.now) tenant c.args.pass.now all c.loop-rest.pass l c.loop-rest.windows.left.items c.loop-rest.lines) none (c.loop-rest.invariant.taken tenant all are) in
    ends (g.S.Calls.gives c.args.service.now) tenant c.args.pass.now all c.loop-rest.pass c.loop-rest.windows.left.items c.loop-rest.lines taken c.into_answer.result c.into_answer.ensures
