-- What words ask about a program.
use Rattle.std.proofs.Common.{◌≡◌, ℕ, ◌<◌, ◌≤◌, List, [], ◌∷◌, length, get_or, Option, Some, None, MatchOption, String, Global, string_bytes, sym, ap, ◌∙◌}
use Rattle.programs.specs.declared.about.Question.{Question}
use Rattle.programs.specs.Abouts.{AskAbout, IsQuestion, text_of_question}
use Rattle.programs.proofs.Listed.{listed_1}

same_word : (words : List (String Global)) (v w : String Global) → words ≡ v ∷ [] → words ≡ w ∷ [] → w ≡ v
same_word words v w first second = cc

asked : (words : List (String Global)) (word : String Global) (text : List ℕ) (found : Option Question) → words ≡ word ∷ [] → text ≡ string_bytes word → MatchOption found (¬ IsQuestion text) (λ question. text ≡ text_of_question question) → MatchOption found (¬ AskAbout words) (λ _. AskAbout words)
asked words word text None one read none = λ given. none (given.2.0, read ∙ ap string_bytes (sym (same_word words word given.0 one given.1)) ∙ given.2.1)
asked words word text (Some question) one read is = (word, one, (question, sym read ∙ is))

-- what was read of the one word
pub asked_by_one : (words : List (String Global)) (word : String Global) (text : List ℕ) (found : Option Question) → 1 ≤ length words → length words < 2 → word ≡ get_or words 0 word → text ≡ string_bytes word → MatchOption found (¬ IsQuestion text) (λ question. text ≡ text_of_question question) → MatchOption found (¬ AskAbout words) (λ _. AskAbout words)
asked_by_one words word text found some few is read = asked words word text found (listed_1 words word some few is) read
