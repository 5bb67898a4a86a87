use Rattle.std.proofs.Common.{◌<◌, length, refl, sym, ◌∙◌, subst, rules}
use Rattle.std.specs.Prelude.{is_ok}
use Rattle.owners.specs.declared.messages.ShardMessage.{ShardMessage}
use Rattle.owners.specs.Mailboxes.{ArePlaces}
use Rattle.owners.specs.Calls.{IsDue}
use Rattle.owners.proofs.MailboxSteps.{message_more, place_at, place_gone, place_new}
use Rattle.owners.proofs.mailbox.put.Goals as goal

pub returns : goal.returns
returns c =
    let p = c.pass_of-pass.result in
    let places = c.args.places.now.items in
    let lt : p < length places = search rules in
    λ h are call.
    let was = place_at h places p c.in-Some.message are lt (sym c.in-Some.is ∙ c.take_at.ensures.value) in
    let gone = subst (ArePlaces h) (sym c.take_at.ensures.after) (place_gone h places p are) in
    let due = subst (λ n. IsDue h n c.args.came) (sym c.pass_of-pass.ensures) (record { pass = refl; call = call }) in
    let now : ShardMessage = record { pass = c.in-Some.message.pass; jobs = c.in-Some.message.jobs; settled = c.push_back.new.self } in
    let more = message_more h p c.in-Some.message now c.args.came (is_ok c.push_back.result) was due refl refl c.push_back.ensures.items in
    subst (ArePlaces h) (sym c.put_at.ensures) (place_new h c.take_at.new.places.items p now gone more)
