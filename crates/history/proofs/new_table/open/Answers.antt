use Rattle.std.proofs.Common.{rules, ◌≡◌, ◌+◌, length, ap, ◌∙◌, arith}
use Rattle.history.specs.Rule.{unnamed}
use Rattle.history.proofs.Starts.{starts, names_as}
use Rattle.history.proofs.new_table.open.Goals as goal

pub of_words-requires : goal.of_words-requires
of_words-requires g c =
    starts (record { shards = c.args.shards; passes = c.args.passes }) c.deref.result.now c.requires.shards.0 c.requires.passes.0 (c.deref.ensures.value ∙ c.in_ok-zeros.ensures.items_if_clones_equal (λ y e. search rules))

pub load-requires : goal.load-requires
load-requires g c =
    let table = c.in_ok-table.ensures in
    let words : c.in_ok-table.table.shared.table_id.words ≡ length c.in_ok-zeros.zeros.items = table.0 ∙ ap length c.deref.ensures.value in
    let zeros : length c.in_ok-zeros.zeros.items ≡ c.args.shards + c.args.passes = search rules in (
      table.2,
      (let some = c.requires.shards.0 in omega arith),
      names_as _ _ (unnamed (record { shards = c.args.shards; passes = c.args.passes })) _ _ table.4 c.requires.shards.2 c.requires.passes.1,
    )
