use Rattle.std.proofs.Common.{option_map, IfSome, ◌<◌, length, sym, ap, ◌∙◌, subst}
use Rattle.httparse.specs.Grammar.{trim_ows}
use Rattle.requests.proofs.Parts.{after_shorter, lists_here, lists_next, lists_last}
use Rattle.requests.proofs.fields.lists.Goals as goal

pub returns-then-is_same_word : goal.returns-then-is_same_word
returns-then-is_same_word c =
    sym (sym c.loop-more.invariant ∙ lists_here c.args.word.now c.loop-more.rest.now c.trim_spaces.result.now
    (c.trim_spaces.ensures ∙ ap trim_ows c.before-in-Some.ensures) (sym c.if-is_same_word.ensures))

pub loop-more-smaller : goal.loop-more-smaller
loop-more-smaller c =
    subst (λ o. IfSome o (λ more. length more < length c.loop-more.rest.now)) (sym c.after.ensures ∙ ap (option_map (λ b. b.now)) c.in-Some.is) (after_shorter 44 c.loop-more.rest.now)

pub loop-more-preserved : goal.loop-more-preserved
loop-more-preserved c =
    sym (lists_next c.args.word.now c.loop-more.rest.now c.trim_spaces.result.now c.in-Some.more.now
    (c.trim_spaces.ensures ∙ ap trim_ows c.before-in-Some.ensures) (sym c.if-is_same_word.ensures)
    (sym c.after.ensures ∙ ap (option_map (λ b. b.now)) c.in-Some.is)) ∙ c.loop-more.invariant

pub returns : goal.returns
returns c =
    c.is_same_word-2.ensures
    ∙ sym (lists_last c.args.word.now c.loop-more.rest.now c.trim_spaces-2.result.now
    (c.trim_spaces-2.ensures ∙ ap trim_ows c.before-2.ensures) (sym c.after.ensures ∙ ap (option_map (λ b. b.now)) c.in_default.is))
    ∙ c.loop-more.invariant
