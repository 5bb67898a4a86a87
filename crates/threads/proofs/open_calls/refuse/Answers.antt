use Rattle.std.proofs.Common.{◌≡◌, ◌≢◌, ℕ, sym, ◌∙◌, arith}
use Rattle.accept.specs.declared.call.Reply.TheVariants.{Unavailable}
use Rattle.history.specs.Histories.{step_of}
use Rattle.threads.proofs.Windows.{with_step_here, with_step_there}
use Rattle.threads.proofs.open_calls.refuse.Goals as goal

same : (k n m : ℕ) → n ≡ m → m ≡ k → k ≡ n
same k n m e f = omega arith

other : (k j n m : ℕ) → n ≡ m → m ≡ k → j ≢ k → j ≢ n
other k j n m e f d is = d (is ∙ e ∙ f)

pub returns-then-shard-eq0-clause-zero : goal.returns-then-shard-eq0-clause-zero
returns-then-shard-eq0-clause-zero g c =
    let a = c.args.ticket.ask in
    c.refuse_in.ensures.book ∙ sym (with_step_here g.J.TestOpening.about 0 c.args.zero.now (step_of a Unavailable) (same 0 _ c.args.shard c.requires.shard.0 (omega (arith, c.if-shard-eq0.true))))

pub returns-then-shard-eq0-clause-one : goal.returns-then-shard-eq0-clause-one
returns-then-shard-eq0-clause-one g c =
    sym (with_step_there g.J.TestOpening.about 1 c.args.one.now (step_of c.args.ticket.ask Unavailable) (other 0 1 _ c.args.shard c.requires.shard.0 (omega (arith, c.if-shard-eq0.true)) (λ e. omega (arith, e))))

pub returns-else-shard-eq0-clause-zero : goal.returns-else-shard-eq0-clause-zero
returns-else-shard-eq0-clause-zero g c =
    sym (with_step_there g.J.TestOpening.about 0 c.args.zero.now (step_of c.args.ticket.ask Unavailable) (other 1 0 _ c.args.shard c.requires.shard.0 (omega (arith, c.if-shard-eq0.false, c.requires.shard.1)) (λ e. omega (arith, e))))

pub returns-else-shard-eq0-clause-one : goal.returns-else-shard-eq0-clause-one
returns-else-shard-eq0-clause-one g c =
    let a = c.args.ticket.ask in
    c.refuse_in-else-shard-eq0.ensures.book ∙ sym (with_step_here g.J.TestOpening.about 1 c.args.one.now (step_of a Unavailable) (same 1 _ c.args.shard c.requires.shard.0 (omega (arith, c.if-shard-eq0.false, c.requires.shard.1))))
