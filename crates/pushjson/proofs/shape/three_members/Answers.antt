use Rattle.std.proofs.Common.{◌≡◌, sym, ap, ◌∙◌}
use Rattle.serde_json.proofs.Views.{view-Object}
use Rattle.serde_json.specs.Data.{object, member, no_members}
use Rattle.serde_json.specs.View.{view, members_view}
use Rattle.pushjson.proofs.Trees.{other_member, none_came}
use Rattle.pushjson.proofs.shape.three_members.Goals as goal

pub returns-in_default-next_value : goal.returns-in_default-next_value
returns-in_default-next_value c =
    let all : view c.args.value ≡ object (members_view c.into_iter-members.result) = ap view c.in-Object.is ∙ (view-Object c.in-Object.members ∙ ap (λ es. object (members_view es)) (sym c.into_iter-members.ensures.into_iter_gives.0)) in
    λ d. other_member _ _ _ all c.in_default-next_value.ensures d.0 (member c.args.second.now d.1 (member c.args.third.now d.2 no_members))

pub returns-in_default-next_value-2 : goal.returns-in_default-next_value-2
returns-in_default-next_value-2 c =
    let all : view c.args.value ≡ object (members_view c.into_iter-members.result) = ap view c.in-Object.is ∙ (view-Object c.in-Object.members ∙ ap (λ es. object (members_view es)) (sym c.into_iter-members.ensures.into_iter_gives.0)) in
    λ d same. let s = sym (all ∙ ap object c.in-Some.ensures) ∙ same in c.in_default-next_value-2.ensures d.1 (member c.args.third.now d.2 no_members) cc

pub returns-in_default-next_value-3 : goal.returns-in_default-next_value-3
returns-in_default-next_value-3 c =
    let all : view c.args.value ≡ object (members_view c.into_iter-members.result) = ap view c.in-Object.is ∙ (view-Object c.in-Object.members ∙ ap (λ es. object (members_view es)) (sym c.into_iter-members.ensures.into_iter_gives.0)) in
    λ d same. let s = sym (all ∙ ap object c.in-Some.ensures ∙ ap (λ ms. object ((member c.args.first.now (view c.in-Some.first) ms))) c.in-Some-next_value.ensures) ∙ same in c.in_default-next_value-3.ensures d.2 no_members cc

pub returns : goal.returns
returns c =
    let all : view c.args.value ≡ object (members_view c.into_iter-members.result) = ap view c.in-Object.is ∙ (view-Object c.in-Object.members ∙ ap (λ es. object (members_view es)) (sym c.into_iter-members.ensures.into_iter_gives.0)) in
    let empty = none_came _ _ c.next.result c.if-is_some.ensures c.next.ensures.steps in
    all ∙ ap object c.in-Some.ensures ∙ ap (λ ms. object ((member c.args.first.now (view c.in-Some.first) ms))) c.in-Some-next_value.ensures ∙ ap (λ ms. object ((member c.args.first.now (view c.in-Some.first) (member c.args.second.now (view c.in-Some-next_value.second) ms)))) c.in-Some-next_value-2.ensures ∙ ap (λ ms. object (member c.args.first.now (view c.in-Some.first) (member c.args.second.now (view c.in-Some-next_value.second) (member c.args.third.now (view c.in-Some-next_value-2.third) (members_view ms))))) empty.0
