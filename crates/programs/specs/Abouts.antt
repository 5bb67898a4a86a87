-- What programs are asked about themselves.
use Rattle.std.specs.Prelude.{codes, ℕ, ◌≡◌, List, [], ◌∷◌, String, string_bytes}
use Rattle.std.specs.declared.alloc.Global.{Global}
use Rattle.programs.specs.declared.about.Question.{Question}
use Rattle.programs.specs.declared.about.Question.TheVariants.{Version, Help}

abbrev pub text_of_question : Question → List ℕ
text_of_question Version = codes "--version"
text_of_question Help = codes "--help"

abbrev pub IsQuestion : List ℕ → Type 0
IsQuestion text = (question : Question) × (text ≡ text_of_question question)

-- one word, which asks for the release or for help
abbrev pub AskAbout : List (String Global) → Type 0
AskAbout words = (word : String Global) × (words ≡ word ∷ []) × IsQuestion (string_bytes word)
