-- Status and text of an answer, without where its body lies in memory.
use Rattle.std.specs.Prelude.{◌≡◌, ℕ, List}
use Rattle.requests.specs.declared.answer.Answer.{Answer}
use Rattle.requests.specs.declared.status.Status.{Status}

pub record IsShown (status : Status) (text : List ℕ) (answer : Answer) : Type 0 where
  pub status_is : answer.status ≡ status
  pub text_is : answer.body.items ≡ text
