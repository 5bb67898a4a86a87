use Rattle.std.proofs.Common.{rules, ◌++◌, All, map, sym, ap, ◌∙◌, subst, arith}
use Rattle.std.proofs.lemmas.List.Elements.{All-head, All-rest}
use Rattle.openings.specs.Places.{AreSlotsThere, slots_in}
use Rattle.openings.proofs.Moving.{moved_one}
use Rattle.openings.proofs.side_by_side.put_back.Goals as goal

pub put_behind-requires : goal.put_behind-requires
put_behind-requires g c =
    let inv = c.loop-place.invariant in
    let room = inv.room in
    let fewer = c.in-Some.ensures.len in
    (search rules, (All-head AreSlotsThere c.in-Some.place c.pop_front.new.self.items (subst (All AreSlotsThere) c.in-Some.ensures.items inv.here), omega arith))

pub loop-place-preserved : goal.loop-place-preserved
loop-place-preserved g c =
    let inv = c.loop-place.invariant in
    let popped = c.in-Some.ensures in
    let pushed = c.put_behind.ensures in
    let fewer = popped.len in
    let more = pushed.len in
    let room = inv.room in
    let capacity = pushed.capacity in
    record {
      here = All-rest AreSlotsThere c.in-Some.place c.pop_front.new.self.items c.loop-place.places.items popped.items inv.here;
      items = moved_one c.loop-place.slots.items _ (map slots_in c.pop_front.new.self.items) (slots_in c.in-Some.place) pushed.items
          ∙ (ap (λ l. c.loop-place.slots.items ++ map slots_in l) (sym popped.items) ∙ inv.items);
      room = omega arith;
      capacity = pushed.capacity ∙ inv.capacity;
    }
