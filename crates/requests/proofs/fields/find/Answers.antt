use Rattle.std.proofs.Common.{◌≡◌, ◌<◌, ℕ, List, [], ◌∷◌, length, true, false, Option, Some, None, arith, refl, sym, ap, ◌∙◌}
use Rattle.std.specs.Option.{is_some}
use Rattle.std.specs.Borrow.{Bor}
use Rattle.std.proofs.lemmas.Bool.{true≢false}
use Rattle.httparse.specs.Spans.{header_bytes}
use Rattle.requests.specs.Fields.{is_same_word}
use Rattle.requests.specs.Finding.{seen}
use Rattle.requests.proofs.Values.{values_first, values_other, values_many}
use Rattle.requests.proofs.fields.find.Goals.{then-is_same_word+else-is_some, else-is_same_word}
use Rattle.requests.proofs.fields.find.Goals as goal

seen_one : (v : Option (Bor (List ℕ))) → is_some v ≡ true → 0 < length (seen v)
seen_one None e = absurd (true≢false (sym e))
seen_one (Some v) e = omega arith

seen_none : (v : Option (Bor (List ℕ))) → is_some v ≡ false → seen v ≡ []
seen_none None e = refl
seen_none (Some v) e = absurd (true≢false e)

pub returns-then-is_some : goal.returns-then-is_some
returns-then-is_some c =
    let name = c.args.name.now in
    values_many (header_bytes c.args.bytes.now) name c.args.fields.now c.loop-field.field-index _ c.loop-field-test.true
    (rw c.loop-field.invariant (seen_one c.loop-field.value (sym c.if-is_some.ensures)))
    (ap (λ w. is_same_word w name) (sym c.of.ensures) ∙ sym c.if-is_same_word.ensures)

pub loop-field-preserved : goal.loop-field-preserved
loop-field-preserved c =
    let of = header_bytes c.args.bytes.now in
    let name = c.args.name.now in
    let fields = c.args.fields.now in
    let i = c.loop-field.field-index in
    elim c.if-is_same_word.branch [
      | then-is_same_word+else-is_some w ↦
          values_first of name fields i _ c.loop-field-test.true (c.loop-field.invariant ∙ seen_none c.loop-field.value (sym w.if-is_some.ensures))
          (ap (λ x. is_same_word x name) (sym c.of.ensures) ∙ sym w.if-is_same_word.ensures)
          ∙ ap (λ x. x ∷ []) (sym w.of-then-is_same_word.ensures)
          ∙ ap seen (sym w.value-is)
      | else-is_same_word w ↦
          values_other of name fields i _ c.loop-field-test.true (ap (λ x. is_same_word x name) (sym c.of.ensures) ∙ sym w.if-is_same_word.ensures)
          ∙ c.loop-field.invariant ∙ ap seen (sym w.value-is)
    ]
