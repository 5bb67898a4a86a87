-- The clock that words give.
use Rattle.std.proofs.Common.{◌≡◌, ℕ, ◌<◌, ◌≤◌, ◌^◌, List, [], ◌∷◌, length, get_or, Option, Some, None, MatchOption, IfSome, String, Global, string_bytes, sym, ap, ◌∙◌}
use Rattle.std.specs.Str.Parse.{digits_value}
use Rattle.pushjson.specs.Times.{IsTime}
use Rattle.programs.specs.Words.{value, GiveClock, SaysClock}
use Rattle.programs.proofs.Listed.{listed_1}

same_word : (words : List (String Global)) (v w : String Global) → words ≡ v ∷ [] → words ≡ w ∷ [] → w ≡ v
same_word words v w first second = cc

gives_clock : (words : List (String Global)) (word : String Global) (text : List ℕ) (found : Option ℕ) → words ≡ word ∷ [] → text ≡ string_bytes word → MatchOption found (¬ IsTime text) (λ time. IsTime text × (time ≡ digits_value 10 text) × (time < 2 ^ 63)) → MatchOption found (¬ GiveClock words) (λ now. (now < 2 ^ 63) × GiveClock words)
gives_clock words word text None one read lawless = λ given. lawless (rw (read ∙ ap string_bytes (sym (same_word words word given.0 one given.1))) given.2)
gives_clock words word text (Some time) one read lawful = (lawful.2, (word, one, rw read at lawful.0))

-- what was read of the one word
pub clock_of : (words : List (String Global)) (word : String Global) (text : List ℕ) (found : Option ℕ) → 1 ≤ length words → length words < 2 → word ≡ get_or words 0 word → text ≡ string_bytes word → MatchOption found (¬ IsTime text) (λ time. IsTime text × (time ≡ digits_value 10 text) × (time < 2 ^ 63)) → MatchOption found (¬ GiveClock words) (λ now. (now < 2 ^ 63) × GiveClock words)
clock_of words word text found some few is read = gives_clock words word text found (listed_1 words word some few is) read

says_clock : (words : List (String Global)) (word : String Global) (text : List ℕ) (found : Option ℕ) → words ≡ word ∷ [] → text ≡ string_bytes word → MatchOption found (¬ IsTime text) (λ time. IsTime text × (time ≡ digits_value 10 text) × (time < 2 ^ 63)) → IfSome found (SaysClock words)
says_clock words word text None one read lawless = tt
says_clock words word text (Some time) one read lawful = ((word, one, rw read at lawful.0), lawful.1 ∙ ap value read)

-- and what it says
pub clock_said : (words : List (String Global)) (word : String Global) (text : List ℕ) (found : Option ℕ) → 1 ≤ length words → length words < 2 → word ≡ get_or words 0 word → text ≡ string_bytes word → MatchOption found (¬ IsTime text) (λ time. IsTime text × (time ≡ digits_value 10 text) × (time < 2 ^ 63)) → IfSome found (SaysClock words)
clock_said words word text found some few is read = says_clock words word text found (listed_1 words word some few is) read
