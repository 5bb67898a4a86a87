use Rattle.std.proofs.Common.{◌≡◌, ◌++◌, List, [], ◌∷◌, cond, ap, ◌∙◌, sym, subst, rules}
use Rattle.disk.specs.declared.file.FileDisk.{FileDisk}
use Rattle.programs.specs.declared.watched.Watched.{Watched}
use Rattle.programs.specs.Slots.{AreUntouched}
use Rattle.programs.proofs.Untouched.{untouched_more}
use Rattle.programs.proofs.slots.open_slots.Goals as goal

pub loop-shard-preserved : goal.loop-shard-preserved
loop-shard-preserved g c =
    let old : List (List (Watched FileDisk)) = c.loop-shard.slots.items in
    let pair : List (Watched FileDisk) = c.in_ok-first.first ∷ c.in_ok-second.second ∷ [] in
    let more : c.push.new.self.items ≡ old ++ pair ∷ [] = c.push.ensures.items ∙ ap (λ b. cond b (old ++ pair ∷ []) old) c.if-is_err-2.ensures.negation in
    record {
      count = search rules;
      untouched = subst AreUntouched (sym more) (untouched_more old pair c.loop-shard.invariant.untouched (c.in_ok-first.ensures, (c.in_ok-second.ensures, tt)));
    }
