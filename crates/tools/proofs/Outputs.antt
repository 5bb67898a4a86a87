-- What is written after what was written.
use Rattle.std.proofs.Common.{◌≡◌, ◌++◌, ℕ, List, [], ◌∷◌, Option, None, append-nil, sym, subst}
use Rattle.std.specs.Prelude.{Result, Ok, Err, OnOk, codes}
use Rattle.std.specs.FinMap as finite
use Rattle.std.specs.Io.KnownBytes.{Appends}
use Rattle.std.proofs.KnownBytes.{Appends-trans}
use Rattle.accept.specs.declared.limits.Limits.{Limits}
use Rattle.memory_disk.specs.declared.memory.MemDisk.{MemDisk}
use Rattle.requests.specs.declared.answer.Answer.{Answer}
use Rattle.requests.specs.declared.route.Route.TheVariants.{Push}
use Rattle.owners.specs.Openings.{Opening}
use Rattle.programs.specs.Words.{capacity_of}
use Rattle.front.specs.declared.program_fault.ProgramFault.{ProgramFault}
use Rattle.tools.specs.Endings.{IsBodyOf, IsAnswerDue, IsDueToPush, answer_lines}

-- some bytes, and then these
pub then_bytes : (r : Result (Unit {0}) ProgramFault) (a b c : Option (List ℕ)) (xs ys : List ℕ) → Appends a b xs → OnOk r (Appends b c ys) → OnOk r ((zs : List ℕ) × Appends a c zs)
then_bytes (Ok x) a b c xs ys first second = (xs ++ ys, Appends-trans a b c xs ys first second)
then_bytes (Err e) a b c xs ys first second = tt

-- an answer that is due, and then some bytes
pub then_back : (IsDue : Answer → Type 0) (r : Result (Unit {0}) ProgramFault) (a b c : Option (List ℕ)) (answer : Answer) → IsDue answer → Appends a b (answer_lines answer) → OnOk r ((ys : List ℕ) × Appends b c ys) → OnOk r ((x : Answer) × (ys : List ℕ) × IsDue x × Appends a c (answer_lines x ++ ys))
then_back IsDue (Ok x) a b c answer due first second = (answer, second.0, due, Appends-trans a b c (answer_lines answer) second.0 first second.1)
then_back IsDue (Err e) a b c answer due first second = tt

-- such an answer alone
pub answer_alone : (IsDue : Answer → Type 0) (a b : Option (List ℕ)) (answer : Answer) → IsDue answer → Appends a b (answer_lines answer) → (x : Answer) × (ys : List ℕ) × IsDue x × Appends a b (answer_lines x ++ ys)
answer_alone IsDue a b answer due first = (answer, [], due, subst (Appends a b) (sym (append-nil (answer_lines answer))) first)

-- such an answer to a push, where the opening found no stream
pub on_empty : (r : Result (Unit {0}) ProgramFault) (opening : Opening MemDisk) (limits : Limits) (now : ℕ) (input a b : Option (List ℕ)) (body : List ℕ) → opening.about.bases ≡ finite.empty ∷ [] → opening.about.limits ≡ limits → IsBodyOf input body
    → OnOk r ((x : Answer) × (ys : List ℕ) × IsAnswerDue opening opening.about.limits 1 (capacity_of None) Push now (codes "t") body x × Appends a b (answer_lines x ++ ys))
    → OnOk r ((x : Answer) × (bytes : List ℕ) × (ys : List ℕ) × IsBodyOf input bytes × IsDueToPush MemDisk limits now bytes x × Appends a b (answer_lines x ++ ys))
on_empty (Ok u) opening limits now input a b body empty under is h =
    let due = subst (λ (l : Limits). IsAnswerDue opening l 1 (capacity_of None) Push now (codes "t") body h.0) under h.2 in
    (h.0, body, h.1, is, record { opening = opening; empty = empty; due = due }, h.3)
on_empty (Err e) opening limits now input a b body empty under is h = tt
