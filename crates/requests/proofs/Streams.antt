-- A read that gave nothing.
use Rattle.std.proofs.Common.{◌≡◌, ℕ, List, [], Option, sym, ◌∙◌, append-nil}
use Rattle.std.specs.Io.KnownBytes.{Keeps}
use Rattle.std.proofs.KnownBytes.{Consumes-nil, Consumes-kept}
use Rattle.requests.specs.Streams.{Grows}

-- nothing came
pub grows_none : (a b : Option (List ℕ)) (old new : List ℕ) → Keeps a b → new ≡ old → Grows a b old new
grows_none a b old new kept same = ([], Consumes-kept a a b [] (Consumes-nil a) kept, same ∙ sym (append-nil old))
