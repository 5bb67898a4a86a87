use Rattle.std.proofs.Common.{rules, ◌≡◌, ◌+◌, ℕ, List, length, map, sym, subst, arith}
use Rattle.std.specs.Prelude.{vec_len}
use Rattle.segment.specs.ShardPlaces.{place_of}
use Rattle.openings.specs.declared.place.Place.{Place}
use Rattle.openings.specs.Places.{IsTried, AreTried, slots_in}
use Rattle.openings.proofs.Moving.{written_all}
use Rattle.openings.proofs.Trying.{tried_each}
use Rattle.openings.proofs.side_by_side.try_each.Goals as goal

pub returns-clause-tried : goal.returns-clause-tried
returns-clause-tried g c =
    let old = c.args.places.now.items in
    let lent = c.as_mut_slice.result.now in
    let new = c.for_each_mut.new.s in
    let count = c.len.result in
    let same : lent ≡ old = c.as_mut_slice.ensures.value in
    let long : length new ≡ length lent = search rules in
    let tried = tried_each g.D.Disk.sight g.D.Disk.follows count c.args.capacity 0 lent new long
    (λ i d lt.
    let at = (c.for_each_mut.ensures i d lt).1 in
    let number : i ≡ 0 + i = omega arith in
    subst (λ (z : ℕ × Place g.row.D.Denot × Place g.row.D.Denot). IsTried g.D.Disk.sight g.D.Disk.follows (place_of z.0 count) c.args.capacity (slots_in z.1) z.2) (λ j. (number j, at.argument_is j, at.left j)) at.call) in
    let all : length new ≡ vec_len c.args.places.now = let n = c.as_mut_slice.ensures.len in omega arith in
    subst (λ (z : ℕ × List (Place g.row.D.Denot) × List (Place g.row.D.Denot)). AreTried g.D.Disk.sight g.D.Disk.follows z.0 c.args.capacity 0 (map slots_in z.1) z.2)
    (λ j. (c.len.ensures j, same j, sym (written_all old new c.args.places.now.len (sym all)) j)) tried
