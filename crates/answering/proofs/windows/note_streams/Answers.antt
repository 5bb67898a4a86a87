use Rattle.std.proofs.Common.{◌≡◌, Err, drop, length, map, refl, subst, arith}
use Rattle.answering.specs.Courses.{first_failure}
use Rattle.answering.specs.Windows.{AreNotedUpTo, called, came_of, merged}
use Rattle.answering.proofs.Pushing.{length_behind, noted_up_to}
use Rattle.answering.proofs.windows.note_streams.Goals as goal

pub returns-in-Err-GivenUp-clause-noted : goal.returns-in-Err-GivenUp-clause-noted
returns-in-Err-GivenUp-clause-noted c before tells whole =
    let outcomes = c.args.outcomes.now in
    let own = drop c.args.first outcomes.items in
    let due : called c.args.places.now ≡ length own = length_behind c.args.first (called c.args.places.now) outcomes.items (omega (arith, c.requires.due, outcomes.ok.0)) in
    let stops = subst (λ x. AreNotedUpTo before (merged c.args.places.now own) (Err x) c.note_places.new.lines) c.in-Err-GivenUp.field-0-is (c.in-Err-GivenUp.ensures.noted before tells whole) in
    rw c.no_answer_of.ensures (noted_up_to before c.args.places.now own c.note_places.new.lines due whole (first_failure (map came_of own)) refl stops)
