use Rattle.std.proofs.lemmas.Bool.Decides.{same_from_decides}
use Rattle.std.proofs.lemmas.Slice.Eq.{bytes_eq-Decides}
use Rattle.requests.specs.Fields.{is_same_word}
use Rattle.requests.proofs.fields.is_same_word.Goals as goal

pub returns : goal.returns
unfolding is_same_word
returns c = same_from_decides c.eq_ignore_ascii_case.result _ c.eq_ignore_ascii_case.ensures.test (bytes_eq-Decides _ _)
