-- Which shard a call goes to.
use Rattle.std.proofs.Common.{◌≡◌, ℕ, ◌∙◌, sym}
use Rattle.labels.specs.Shards.{shard}
use Rattle.accept.specs.declared.call.Call.{Call}
use Rattle.accept.specs.declared.history.Ask.{Ask}
use Rattle.accept.specs.Histories.{key_of}
use Rattle.history.specs.declared.views.About.{About}
use Rattle.history.specs.Shards.{shard_of}
use Rattle.history.specs.Histories.{shard_in}

pub routed : (about : About) (a : Ask) (call : Call) (count k : ℕ) → a.call ≡ call → about.shards ≡ count → k ≡ shard (key_of call) count → shard_in about a ≡ k
unfolding shard_of
routed about a call count k e n is = (λ i. shard (key_of (e i)) (n i)) ∙ sym is
