use Rattle.std.proofs.Common.{rules, ◌≡◌, ℕ, List, length, map, sym, ap, ◌∙◌, subst, arith}
use Rattle.accept.specs.Rooms.{Streams}
use Rattle.wal.specs.declared.log.Wal.{Wal}
use Rattle.openings.specs.Findings.{AreOpenedFrom, IsFirstRefused}
use Rattle.openings.specs.Places.{slots_in}
use Rattle.openings.proofs.Trying.{all_back, all_opened, first_is, as_many}
use Rattle.openings.proofs.side_by_side.open_logs.Goals as goal

pub put_back-requires : goal.put_back-requires
put_back-requires g c =
    let tried = c.try_each.ensures in
    let fill = c.fill_places.ensures in
    let here = (all_back g.D.Disk.sight g.D.Disk.follows _ _ 0 _ _ tried.tried).0 in
    let long = tried.len in
    let filled = fill.len in
    let room = c.requires.room in
    let capacity = fill.capacity in
    (search rules, (here, (fill.none, omega arith)))

pub take_opened-requires-clause-opened : goal.take_opened-requires-clause-opened
take_opened-requires-clause-opened g c =
    (all_opened g.D.Disk.sight g.D.Disk.follows _ _ 0 _ _ c.try_each.ensures.tried (sym c.find_refused.ensures ∙ c.in-None.is)).0

pub returns-in-Some-clause-refused : goal.returns-in-Some-clause-refused
returns-in-Some-clause-refused g c =
    let first = first_is g.D.Disk.sight g.D.Disk.follows _ _ c.in-Some.shard c.in-Some.fault _ _ c.try_each.ensures.tried (sym c.find_refused.ensures ∙ c.in-Some.is) in
    let count = c.fill_places.ensures.len in
    subst (λ (z : ℕ × List (List g.row.D.Denot) × List (List g.row.D.Denot)). IsFirstRefused g.D.Disk.sight g.D.Disk.follows z.0 c.in-Some.shard c.in-Some.fault z.1 z.2)
    (λ i. (count i, c.fill_places.ensures.slots i, sym c.put_back.ensures.items i)) first

pub returns-in-None-clause-opened : goal.returns-in-None-clause-opened
returns-in-None-clause-opened g c =
    let opened = (all_opened g.D.Disk.sight g.D.Disk.follows _ _ 0 _ _ c.try_each.ensures.tried (sym c.find_refused.ensures ∙ c.in-None.is)).1 in
    let count = c.fill_places.ensures.len in
    let taken = c.take_opened.ensures in (
      subst (λ (z : ℕ × List (List g.row.D.Denot) × List (Wal g.row.D.Denot) × List Streams). AreOpenedFrom g.D.Disk.sight g.D.Disk.follows z.0 c.args.capacity 0 z.1 z.2 z.3)
          (λ i. (count i, c.fill_places.ensures.slots i, sym taken.logs i, sym taken.images i)) opened,
      c.fill_places.ensures.none.0,
    )

pub returns-in-None-clause-lens : goal.returns-in-None-clause-lens
returns-in-None-clause-lens g c =
    let opened = (all_opened g.D.Disk.sight g.D.Disk.follows _ _ 0 _ _ c.try_each.ensures.tried (sym c.find_refused.ensures ∙ c.in-None.is)).1 in
    let many = as_many g.D.Disk.sight g.D.Disk.follows _ _ 0 _ _ _ opened in
    let taken = c.take_opened.ensures in
    let shards : length (map slots_in c.fill_places.new.places.items) ≡ length c.args.slots.now.items = ap length c.fill_places.ensures.slots in
    let logs : length c.take_opened.new.logs.items ≡ length c.args.slots.now.items = ap length taken.logs ∙ (many.0 ∙ shards) in
    let images : length c.take_opened.new.images.items ≡ length c.args.slots.now.items = ap length taken.images ∙ (many.1 ∙ shards) in
    (omega arith, omega arith, c.fill_places.ensures.none.1)
