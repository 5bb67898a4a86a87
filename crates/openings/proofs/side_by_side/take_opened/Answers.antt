use Rattle.std.proofs.Common.{◌≡◌, ◌++◌, ◌∷◌, All, sym, ap, ◌∙◌, subst, arith}
use Rattle.std.proofs.lemmas.List.Elements.{All-head, All-rest}
use Rattle.openings.specs.declared.place.Place.TheVariants.{Opened}
use Rattle.openings.specs.Places.{IsOpened, logs_in, images_in}
use Rattle.openings.proofs.Moving.{moved_one}
use Rattle.openings.proofs.Trying.{is_opened}
use Rattle.openings.proofs.side_by_side.take_opened.Goals as goal

pub unreachable-requires : goal.unreachable-requires
unreachable-requires g c =
    let here = is_opened c.in-Some.place (All-head IsOpened c.in-Some.place c.pop_front.new.self.items (subst (All IsOpened) c.in-Some.ensures.items c.loop-place.invariant.opened)) in
    c.in_default-place.not-Opened here.0 here.1 here.2

pub loop-place-preserved : goal.loop-place-preserved
loop-place-preserved g c =
    let inv = c.loop-place.invariant in
    let popped = c.in-Some.ensures in
    let opened : c.loop-place.places.items ≡ Opened c.in-Opened.log c.in-Opened.image ∷ c.pop_front.new.self.items = popped.items ∙ ap (λ p. p ∷ c.pop_front.new.self.items) c.in-Opened.is in
    let log = c.push_reserved.ensures in
    let image = c.push_reserved-in-Some.ensures in
    let fewer = popped.len in
    let more_logs = log.len in
    let more_images = image.len in
    let logs_room = inv.logs_room in
    let images_room = inv.images_room in
    let logs_capacity = log.capacity in
    let images_capacity = image.capacity in
    record {
      opened = All-rest IsOpened c.in-Some.place c.pop_front.new.self.items c.loop-place.places.items popped.items inv.opened;
      logs = moved_one c.loop-place.logs.items _ (logs_in c.pop_front.new.self.items) c.in-Opened.log log.items ∙ (ap (λ l. c.loop-place.logs.items ++ logs_in l) (sym opened) ∙ inv.logs);
      images = moved_one c.loop-place.images.items _ (images_in c.pop_front.new.self.items) c.in-Opened.image image.items ∙ (ap (λ l. c.loop-place.images.items ++ images_in l) (sym opened) ∙ inv.images);
      logs_room = omega arith;
      images_room = omega arith;
    }
