use Rattle.labels.proofs.Escapes.{one_more_character}
use Rattle.labels.proofs.writing.push_value.Goals as goal

pub loop-character-preserved : goal.loop-character-preserved
loop-character-preserved c = one_more_character _ _ _ c.loop-character.yielded c.in-Some.character c.loop-character.invariant c.in_ok-push_escaped.ensures
