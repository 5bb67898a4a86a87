use Rattle.std.proofs.Common.{string_bytes, rules, String}
use Rattle.std.specs.Cmp.Lexicographic.{slice_cmp}
use Rattle.std.specs.Ordering.{nat_cmp, is_lt}
use Rattle.std.specs.declared.alloc.Global.{Global}
use Rattle.std.proofs.lemmas.List.Sorted.{answers_always}
use Rattle.pairs.proofs.names.names_rise.Goals as goal

pub returns : goal.returns
returns c = c.is_sorted_by.ensures.cases (λ (x y : String Global × String Global). is_lt (slice_cmp nat_cmp (string_bytes x.0) (string_bytes y.0))) (answers_always _ _ _ (λ f a r f' q. search rules))
