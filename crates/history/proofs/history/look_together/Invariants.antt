use Rattle.std.proofs.Common.{◌≡◌, []}
use Rattle.history.specs.Handles.{caller_in, pair_of, with_seen, HaveMet}
use Rattle.history.proofs.history.look_together.Given as goal

abbrev pub invariant-loop-shard : goal.invariant-loop-shard
invariant-loop-shard l =
    let c = caller_in l.initial.seat.me.0.role in
    let d = caller_in l.initial.seat.me.0.guest in
    let lc = (caller_in l.seat.me.0.role).seen in
    let ld = (caller_in l.seat.me.0.guest).seen in
    (l.seat.table_id ≡ l.initial.seat.table_id) × (l.seat.me ≡ (pair_of (with_seen c lc) (with_seen d ld), [])) × HaveMet c d l.shard lc ld
