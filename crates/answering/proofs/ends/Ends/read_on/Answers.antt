use Rattle.std.proofs.Common.{◌≡◌, ◌⊎◌, ℕ, List, [], length, Option, Err, subst, sym, ap, inl, inr, ◌∙◌, refl, arith}
use Rattle.std.proofs.KnownBytes.{Keeps-refl}
use Rattle.requests.proofs.Streams.{grows_none}
use Rattle.requests.specs.Streams.{IsCut}
use Rattle.requests.specs.declared.fault.ServeFault.{ServeFault}
use Rattle.requests.specs.declared.fault.ServeFault.TheVariants.{Read, Memory}
use Rattle.answering.specs.Ends.{IsReadOn}
use Rattle.answering.proofs.ends.Ends.read_on.Goals as goal

-- a part of a request is there
cut : (bytes : List ℕ) → (bytes ≡ []) ⊎ IsCut bytes → (length bytes ≡ 0 → ⊥) → IsCut bytes
cut bytes (inl none) some = absurd (some (ap length none))
cut bytes (inr is) some = is

failed : (bytes : List ℕ) (left : Option (List ℕ)) (fault : ServeFault) → (bytes ≡ []) ⊎ IsCut bytes → (fault ≡ Read) ⊎ (fault ≡ Memory) → IsReadOn bytes left (Err fault)
failed bytes left fault unbegun (inl is) = rw is unbegun
failed bytes left fault unbegun (inr is) = rw is unbegun

pub returns-else-held-eq0-clause-reads : goal.returns-else-held-eq0-clause-reads
returns-else-held-eq0-clause-reads g c =
    let unbegun = c.requires.unbegun (omega (arith, c.if-room-eq0.false, c.room.ensures)) in
    let (ended, same) = c.in-Ok-eq0.ensures.none c.in-Ok-eq0.field-0-test in
    (cut c.take_from.new.self.came (subst (λ b. (b ≡ []) ⊎ IsCut b) (sym same) unbegun) (λ none. c.if-held-eq0.false (c.held.ensures ∙ none)), ended)

pub returns-in-Err-clause-reads : goal.returns-in-Err-clause-reads
returns-in-Err-clause-reads g c =
    let unbegun = c.requires.unbegun (omega (arith, c.if-room-eq0.false, c.room.ensures)) in
    failed c.take_from.new.self.came (g.I.Read.remaining c.take_from.new.reader) c.in-Err.fault (subst (λ b. (b ≡ []) ⊎ IsCut b) (sym c.in-Err.ensures.err) unbegun) c.in-Err.ensures.cause

pub returns-then-room-eq0-clause-grows : goal.returns-then-room-eq0-clause-grows
returns-then-room-eq0-clause-grows g c = grows_none _ _ _ _ (Keeps-refl (g.I.Read.remaining c.args.self.now.reader.now)) refl
