use Rattle.std.proofs.Common.{◌≡◌, ◌+◌, List, [], ◌∷◌, ◌++◌, refl, sym, ap, ◌∙◌}
use Rattle.accept.specs.declared.call.Reply.TheVariants.{Unavailable}
use Rattle.accept.specs.declared.history.Ask.{Ask}
use Rattle.accept.specs.declared.history.Step.{Step}
use Rattle.history.specs.Plays.{ask_of}
use Rattle.history.specs.Handles.{Announced, Passed, Received}
use Rattle.threads.proofs.Windows.{at_shard, had_more, window_more}
use Rattle.threads.proofs.open_calls.open_call.Goals as goal

pub refuse-reply-requires-clause-shard : goal.refuse-reply-requires-clause-shard
refuse-reply-requires-clause-shard g c =
    let n = c.shard_of-shard.result in
    (at_shard g.J.TestOpening.about c.in-Ok.ticket.ask c.args.call.now c.key.result.now n n (ap (λ (t : Announced). t.ask.call) c.in-Ok.ensures.ticket) c.requires.books.two c.key.ensures c.shard_of-shard.ensures.shard refl, c.shard_of-shard.ensures.within)

pub returns-clause-window : goal.returns-clause-window
returns-clause-window g c =
    let pass = c.args.pass.now in
    let r = c.refuse-reply.result.1 in
    let its : r.step.ask ≡ ask_of pass.caller (pass.caller.last + 1) c.args.call.now = ap (λ (s : Step). s.ask) c.refuse-reply.ensures.step ∙ ap (λ (t : Announced). t.ask) c.in-Ok.ensures.ticket in
    let more : c.push_back_reserved.new.self.items ≡ c.args.answers.now.items ++ r ∷ [] = c.push_back_reserved.ensures.items ∙ ap (λ (rs : List Received). rs ++ r ∷ []) c.reserve.ensures.items in
    window_more g.J.TestOpening.table g.J.TestOpening.about pass c.announce.new.pass c.args.call.now c.args.answers.now.items c.push_back_reserved.new.self.items r c.requires.window c.in-Ok.ensures.pass more c.refuse-reply.ensures.table its c.in-Ok.ensures.rested

pub returns-clause-had : goal.returns-clause-had
returns-clause-had g c =
    let about = g.J.TestOpening.about in
    let a = c.in-Ok.ticket.ask in
    let pending = c.args.pass.now.caller.pending in
    let now = c.announce.new.pass.caller.pending in
    let more : now ≡ pending ++ a ∷ [] = ap (λ (p : Passed). p.caller.pending) c.in-Ok.ensures.pass ∙ ap (λ (x : Ask). pending ++ x ∷ []) (sym (ap (λ (t : Announced). t.ask) c.in-Ok.ensures.ticket)) in
    (had_more about 0 pending now a Unavailable c.args.zero.now c.refuse-reply.new.zero more c.refuse-reply.ensures.zero c.requires.had.0, had_more about 1 pending now a Unavailable c.args.one.now c.refuse-reply.new.one more c.refuse-reply.ensures.one c.requires.had.1)
