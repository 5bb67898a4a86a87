use Rattle.std.proofs.Common.{◌≡◌, []}
use Rattle.history.proofs.Common.{opener, about_in, fresh_passes}
use Rattle.history.proofs.new_table.deal_passes.Given as goal

abbrev pub invariant-loop-pass : goal.invariant-loop-pass
invariant-loop-pass l =
    let about = about_in l.initial.seat.me.0.role in
    (l.seat.table_id ≡ l.initial.seat.table_id) × (l.seat.me ≡ (opener about l.shards l.pass, [])) × (l.dealt.items ≡ fresh_passes l.initial.seat.table_id about l.pass)
