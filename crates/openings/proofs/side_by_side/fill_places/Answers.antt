use Rattle.std.proofs.Common.{◌++◌, ◌∷◌, map, sym, ap, ◌∙◌, arith}
use Rattle.openings.specs.Places.{IsNotLookedAt, slots_in}
use Rattle.openings.proofs.Moving.{moved_last, All_last}
use Rattle.openings.proofs.side_by_side.fill_places.Goals as goal

pub loop-given-preserved : goal.loop-given-preserved
loop-given-preserved g c =
    let inv = c.loop-given.invariant in
    let popped = c.in-Some.ensures in
    let pushed = c.push_reserved.ensures in
    let place = c.given_place.result in
    let fewer = popped.len in
    let more = pushed.len in
    let len = inv.len in
    let room = inv.room in
    let same = pushed.capacity in
    record {
      given = All_last IsNotLookedAt c.loop-given.places.items _ place pushed.items inv.given c.given_place.ensures.given;
      items = moved_last slots_in c.loop-given.places.items _ place c.pop_front.new.self.items pushed.items
          ∙ (ap (λ s. map slots_in c.loop-given.places.items ++ (s ∷ c.pop_front.new.self.items)) c.given_place.ensures.slots
          ∙ (ap (λ l. map slots_in c.loop-given.places.items ++ l) (sym popped.items) ∙ inv.items));
      len = omega arith;
      room = omega arith;
      capacity = popped.capacity ∙ inv.capacity;
    }
