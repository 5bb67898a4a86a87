use Rattle.std.proofs.Common.{sym, ap, ◌∙◌}
use Rattle.httparse.specs.Spans.{header_bytes}
use Rattle.requests.specs.Fields.{is_same_word}
use Rattle.requests.proofs.Values.{any_here}
use Rattle.requests.proofs.fields.has_field.Goals as goal

pub returns-then-is_same_word : goal.returns-then-is_same_word
returns-then-is_same_word c =
    let name = c.args.name.now in
    sym (any_here (header_bytes c.args.bytes.now) name c.args.fields.now c.loop-field.field-index _ c.loop-field-test.true
    (λ f. is_same_word f.0 name) (ap (λ w. is_same_word w name) (sym c.of.ensures) ∙ sym c.if-is_same_word.ensures))
