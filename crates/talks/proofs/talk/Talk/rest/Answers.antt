use Rattle.std.proofs.Common.{◌≡◌, inr, length, sym, ◌∙◌, arith}
use Rattle.std.proofs.lemmas.List.{nil_from_length}
use Rattle.talks.proofs.Talking.{is_same}
use Rattle.talks.proofs.talk.Talk.rest.Goals as goal

pub invariant_of-self : goal.invariant_of-self
invariant_of-self g c =
    let none : length c.text.result.now ≡ 0 = let e = c.if-is_empty.ensures in grind arith in
    let came = nil_from_length _ (sym c.held.ensures ∙ c.if-held-eq0.true) in
    let text = sym c.text.ensures ∙ nil_from_length c.text.result.now none in
    record { talked = is_same g.T.Session.seen g.T.Session.visited c.args.self.now.session c.open.result c.args.self.now.over c.args.self.now.socket.noted.calls (inr ((came, text, sym c.if-not-closes.ensures), c.open.ensures)) c.args.self.now.talked }
