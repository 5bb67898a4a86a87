use Rattle.std.proofs.Common.{sym, ◌∙◌, rules}
use Rattle.std.proofs.lemmas.Slice.Eq.{bytes_eq-Decides}
use Rattle.labels.proofs.Parts.{ends_here, stops_at, goes_on}
use Rattle.labels.proofs.parsing.ends_set.Goals as goal

pub returns-then-eq : goal.returns-then-eq
returns-then-eq c = c.loop-count.invariant.2 (ends_here _ _ _ ((bytes_eq-Decides c.loop-count.rest.now _).0 (sym c.if-eq.ensures)))

pub returns-then-not-is_below : goal.returns-then-not-is_below
returns-then-not-is_below c = λ h.
    let l = c.in-Some-read_label.ensures.some in
    stops_at c.loop-count.last.now c.in-Some-read_label.name.now l.0 c.loop-count.rest.now _ _ c.loop-count._count c.loop-count-test.true c.if-eq.ensures c.in-Some.ensures l.1 l.2 (sym c.is_below.ensures ∙ c.if-not-is_below.true) (c.loop-count.invariant.3 h)

pub loop-count-preserved : goal.loop-count-preserved
loop-count-preserved c =
    let l = c.in-Some-read_label.ensures.some in
    let on = goes_on c.loop-count.last.now c.in-Some-read_label.name.now l.0 c.loop-count.rest.now _ _ c.loop-count._count c.loop-count-test.true c.if-eq.ensures c.in-Some.ensures l.1 l.2 (sym c.is_below.ensures ∙ c.if-not-is_below.false) in
    (search rules, search rules, λ h. c.loop-count.invariant.2 (on.0 h), λ h. on.1 (c.loop-count.invariant.3 h))
