use Rattle.std.proofs.Common.{◌≡◌, Bool, true, false, ◌&&◌, refl, sym, ap, ap₂, ◌∙◌}
use Rattle.httparse.specs.Spans.{header_bytes}
use Rattle.requests.specs.Fields.{is_same_word, lists}
use Rattle.requests.proofs.Values.{any_here, any_other}
use Rattle.requests.proofs.fields.has_word.Goals.{then-is_same_word+else-lists, else-is_same_word}
use Rattle.requests.proofs.fields.has_word.Goals as goal

both_true : (a b : Bool) → a ≡ true → b ≡ true → (a && b) ≡ true
both_true a b first second = ap₂ ◌&&◌ first second

second_false : (a b : Bool) → b ≡ false → (a && b) ≡ false
second_false true b other = other
second_false false b other = refl

first_false : (a b : Bool) → a ≡ false → (a && b) ≡ false
first_false a b other = ap (λ t. t && b) other

pub returns-then-lists : goal.returns-then-lists
returns-then-lists c =
    let name = c.args.name.now in
    let word = c.args.word.now in
    sym (any_here (header_bytes c.args.bytes.now) name c.args.fields.now c.loop-field.field-index _ c.loop-field-test.true
    (λ f. is_same_word f.0 name && lists word f.1)
    (both_true _ _ (ap (λ w. is_same_word w name) (sym c.of.ensures) ∙ sym c.if-is_same_word.ensures)
    (ap (λ w. lists word w) (sym c.of-then-is_same_word.ensures) ∙ sym c.if-lists.ensures)))

pub loop-field-preserved : goal.loop-field-preserved
loop-field-preserved c =
    let name = c.args.name.now in
    let word = c.args.word.now in
    let step = any_other (header_bytes c.args.bytes.now) name c.args.fields.now c.loop-field.field-index _ c.loop-field-test.true
    (λ f. is_same_word f.0 name && lists word f.1) c.loop-field.invariant in
    elim c.if-is_same_word.branch [
      | then-is_same_word+else-lists w ↦ step (second_false _ _ (ap (λ x. lists word x) (sym w.of-then-is_same_word.ensures) ∙ sym w.if-lists.ensures))
      | else-is_same_word w ↦ step (first_false _ _ (ap (λ x. is_same_word x name) (sym c.of.ensures) ∙ sym w.if-is_same_word.ensures))
    ]
