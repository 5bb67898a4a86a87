use Rattle.std.proofs.Common.{◌∷◌, sym, subst}
use Rattle.std.specs.Result.{is_ok}
use Rattle.ingester.specs.Calls.{IsPassOf}
use Rattle.ingester.proofs.Listing.{each_front}
use Rattle.ingester_rows.proofs.Turning.{each_behind, each_by}
use Rattle.ingester_rows.proofs.together.Together.turn.Goals as goal

pub invariant_of-self-clause-of_pass : goal.invariant_of-self-clause-of_pass
invariant_of-self-clause-of_pass c =
    let of = IsPassOf c.args.self.now.ingester in
    subst of (sym c.replace-last.ensures.after) (each_front of c.args.self.now.others.items c.pop.new.self.items c.in-Some.next c.in-Some.ensures.items c.args.self.now.of_others).1

pub invariant_of-self-clause-of_others : goal.invariant_of-self-clause-of_others
invariant_of-self-clause-of_others c =
    let of = IsPassOf c.args.self.now.ingester in
    let left = (each_front of c.args.self.now.others.items c.pop.new.self.items c.in-Some.next c.in-Some.ensures.items c.args.self.now.of_others).0 in
    each_by of (is_ok c.insert.result) (c.replace-last.result ∷ c.pop.new.self.items) c.pop.new.self.items c.insert.new.self.items c.insert.ensures.items (each_behind of c.pop.new.self.items c.replace-last.result (subst of (sym c.replace-last.ensures.value) c.args.self.now.of_pass) left) left
