use Rattle.std.proofs.Common.{◌≡◌, ◌∙◌, ◌++◌, ap, sym}
use Rattle.std.specs.Char.{encode_utf8}
use Rattle.std.proofs.lemmas.Str.{chars_past_char}
use Rattle.labels.proofs.parsing.read_character.Goals as goal

pub returns : goal.returns
returns c =
    let front : c.args.text.now ≡ encode_utf8 c.in_ok-character.character ++ c.as_str.result.now =
    sym c.chars-characters.ensures.rest ∙ c.in_ok-character.ensures.steps.0 ∙ ap (λ rest. encode_utf8 c.in_ok-character.character ++ rest) (sym c.as_str.ensures) in
    chars_past_char _ _ _ c.utf8.text front
