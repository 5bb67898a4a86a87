-- What is put where answers go, by what a request is answered; for private clauses.
use Rattle.std.specs.Prelude.{◌≡◌, ℕ, Bool, true, List, Option, None, Result, Ok, Err, IfOk, IfErr}
use Rattle.requests.specs.Answers.{answer_text, failure_text}
use Rattle.requests.specs.Writing.{WritesBeginning}
use Rattle.requests.specs.declared.answer.Answer.{Answer}
use Rattle.requests.specs.declared.fault.ServeFault.{ServeFault}
use Rattle.requests.specs.declared.fault.ServeFault.TheVariants.{Write, Memory}
use Rattle.answering.specs.Responses.{content_for}
use Rattle.answering.specs.declared.responding.NoAnswer.{NoAnswer}
use Rattle.answering.specs.declared.responding.NoAnswer.TheVariants.{Failed, GivenUp}

-- the text of an answer
abbrev pub text_of_answer : Answer → Bool → List ℕ
text_of_answer answer close = answer_text answer.status (content_for answer.status) None close answer.body.items

-- whether that went well
abbrev pub written_by : Result Bool ServeFault → Result (Unit {0}) ServeFault
written_by (Ok ends) = Ok tt
written_by (Err fault) = Err fault

module _ (before after : Option (List ℕ)) where
  -- this text was put there, and it tells whether the connection ends
  pub record IsPut (text : List ℕ) (ends : Bool) (result : Result Bool ServeFault) : Type 0 where
    pub writes : WritesBeginning before after text (written_by result)
    pub told : IfOk result (λ told. told ≡ ends)

  -- The answer was put there, or that of the failure, which takes no memory of its own and closes. Where there was no
  -- memory for an answer, nothing was.
  abbrev pub IsReplied : Result Answer NoAnswer → Bool → Result Bool ServeFault → Type 0
  IsReplied (Ok answer) close result = IsPut (text_of_answer answer close) close result
  IsReplied (Err (Failed failure)) close result = IsPut (failure_text failure) true result
      × IfErr result (λ fault. fault ≡ Write)
  IsReplied (Err GivenUp) close result = (after ≡ before) × (result ≡ Err Memory)
