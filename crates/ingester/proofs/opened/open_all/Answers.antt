use Rattle.std.proofs.Common.{rules, ◌≡◌, ℕ, ◌<◌, ◌≤◌, List, length, refl, sym, ap, ◌∙◌, inr, subst, arith, vec_len}
use Rattle.std.specs.Vec.{vec_capacity}
use Rattle.std.specs.VecDeque.{deque_len, deque_capacity}
use Rattle.labels.specs.Shards.{max_shards}
use Rattle.history.specs.Handles.{Passed, about_of, fresh_book, fresh_books}
use Rattle.owners.specs.Lists.{AreEach}
use Rattle.owners.specs.Openings.{Opening, home_of, opening_of}
use Rattle.owners.specs.Owners.{AreEnds}
use Rattle.owners.specs.Places.{AreShardsOf}
use Rattle.owners.specs.QueueEnds.{AreRows, IsSeatAt}
use Rattle.ingester.specs.Openings.{IsOpenedAs}
use Rattle.ingester.proofs.Grounding.{length-fresh_books, all_fit, grounded, returned_all, are_fresh, made_fit}
use Rattle.ingester.proofs.Making.{books_in}
use Rattle.ingester.proofs.Passing.{fresh_seats}
use Rattle.ingester.proofs.opened.open_all.Goals as goal

room_for : (made logs slots count room : ℕ) → made ≡ logs → logs ≡ slots → count ≡ slots → count ≤ room → made ≤ room
room_for made logs slots count room all same counted much = omega arith

pub returns-in_default-clause-unmade : goal.returns-in_default-clause-unmade
returns-in_default-clause-unmade g c =
    let opened = c.in_ok-logs.ensures.opened in
    inr (returned_all g.D.Disk.sight g.D.Disk.follows (deque_len c.args.slots.now) c.args.settings.now.capacity c.args.slots.now.items _ _ c.in_ok-logs.logs.items c.in_ok-logs.images.items opened.0 opened.1 c.give_back.ensures.items)

pub plan_opening-requires : goal.plan_opening-requires
plan_opening-requires g c =
    let sized = c.in_ok-logs.ensures.lens in
    let slots = c.requires.slots in
    record {
      some = (subst (λ n. 0 < n) (sym sized.0) slots.0, subst (λ n. n ≤ max_shards) (sym sized.0) slots.1);
      same = sized.1 ∙ sym sized.0;
      settings = c.requires.settings;
    }

pub make_shards-requires : goal.make_shards-requires
make_shards-requires g c =
    let images = c.in_ok-logs.images in
    let sized = c.in_ok-logs.ensures.lens in
    let settings = c.requires.settings in
    let planned = c.in-Ok.ensures in
    let counted : length images.items ≡ deque_len c.args.slots.now = sym images.ok.0 ∙ sized.1 in
    let many : length c.in-Ok.planned.books.items ≡ length images.items = ap length planned.books ∙ length-fresh_books c.in-Ok.planned.history (about_of c.in_ok-logs.images.items c.args.settings.now.passes c.args.settings.now.limits c.args.settings.now.capacity) (length images.items) in
    let alike = sized.1 ∙ sym sized.0 in
    let shards = c.in_ok-shards.ensures in
    let place = subst (λ n. n ≤ deque_capacity c.in_ok-shards.shards) (c.len-count.ensures ∙ sym sized.0) shards.capacity in
    let room = all_fit _ _ _ _ _ sized.0 sized.2 c.in_ok-logs.ensures.room c.requires.slots.2 in (
      search rules,
      (
        grounded g.D.Disk.sight g.D.Disk.follows c.in-Ok.planned.history c.args.settings.now.passes c.args.settings.now.limits (deque_len c.args.slots.now) c.args.settings.now.capacity c.args.slots.now.items c.in_ok-logs.logs.items images.items c.in-Ok.planned.books.items c.in_ok-logs.ensures.opened.0 counted settings.limits planned.books,
        (
          books_in c.in-Ok.planned.history (about_of c.in_ok-logs.images.items c.args.settings.now.passes c.args.settings.now.limits c.args.settings.now.capacity) (length images.items) c.in-Ok.planned.books.items planned.books,
          ((alike, c.in-Ok.planned.books.ok.0 ∙ (many ∙ (sym images.ok.0 ∙ alike))), ((shards.items, shards.len, place), room)),
        ),
      ),
    )

pub returns-in_default-make_shards-clause-unmade : goal.returns-in_default-make_shards-clause-unmade
returns-in_default-make_shards-clause-unmade g c =
    let opened = c.in_ok-logs.ensures.opened in
    inr (returned_all g.D.Disk.sight g.D.Disk.follows (deque_len c.args.slots.now) c.args.settings.now.capacity c.args.slots.now.items _ _ c.in_ok-logs.logs.items c.in_ok-logs.images.items opened.0 opened.1 c.in_default-make_shards.ensures.unmade)

pub sizes_of-requires : goal.sizes_of-requires
sizes_of-requires g c =
    (c.in_ok-sizes.ensures.len, room_for _ _ _ _ _ c.in-Ok-make_shards.ensures.room.1 c.in_ok-logs.ensures.lens.0 c.len-count.ensures c.in_ok-sizes.ensures.capacity)

pub overflow_cast-kept : goal.overflow_cast-kept
overflow_cast-kept g c =
    let few : deque_len c.args.slots.now ≤ 64 = c.requires.slots.1 in
    let count = c.len-count.ensures in
    omega arith

pub opened_with-requires : goal.opened_with-requires
opened_with-requires g c =
    let images = c.in_ok-logs.images in
    let about = about_of c.in_ok-logs.images.items c.args.settings.now.passes c.args.settings.now.limits c.args.settings.now.capacity in
    let opening : Opening g.row.D.Denot = opening_of (fresh_book c.in-Ok.planned.history about 0) c.in_ok-logs.logs.items in
    let counted : length images.items ≡ deque_len c.args.slots.now = sym images.ok.0 ∙ c.in_ok-logs.ensures.lens.1 in
    let planned = c.in-Ok.ensures in
    let plan = planned.plan in
    let fresh = are_fresh opening c.args.settings.now.passes c.in-Ok.planned.seats.items planned.seats in
    let list = c.in_ok-list.ensures in
    record {
      parts = record {
        is_opening = record {
          same_table = ap (λ (o : Opening g.row.D.Denot). o.table) plan.origin ∙ sym c.in-Ok-make_shards.ensures.same;
          shards = ap (λ (o : Opening g.row.D.Denot). o.about.shards) plan.origin ∙ (counted ∙ sym c.len-count.ensures);
          some_shard = subst (λ n. 0 < n) (sym c.len-count.ensures) c.requires.slots.0;
          few = subst (λ n. n ≤ max_shards) (sym c.len-count.ensures) c.requires.slots.1;
        };
        closing_is = plan.closing;
      };
      room = (list.len, subst (λ n. n ≤ vec_capacity c.in_ok-list.list) (sym (c.in-Ok.planned.seats.ok.0 ∙ fresh.count_is)) list.capacity);
      seats = subst (λ (o : Opening g.row.D.Denot). AreEach (IsSeatAt (home_of o)) 0 c.in-Ok.planned.seats.items) (sym plan.origin) (fresh_seats opening c.args.settings.now.passes c.in-Ok.planned.seats.items fresh);
      rows = (
        subst (λ (o : Opening g.row.D.Denot). AreRows (home_of o) o.about.shards c.in-Ok.planned.plan.rows.items) (sym plan.origin) plan.rows,
        plan.passes ∙ sym (c.in-Ok.planned.seats.ok.0 ∙ fresh.count_is),
      );
    }

pub returns-clause-opened : goal.returns-clause-opened
returns-clause-opened g c =
    let images = c.in_ok-logs.images in
    let about = about_of c.in_ok-logs.images.items c.args.settings.now.passes c.args.settings.now.limits c.args.settings.now.capacity in
    let opening : Opening g.row.D.Denot = opening_of (fresh_book c.in-Ok.planned.history about 0) c.in_ok-logs.logs.items in
    let counted : length images.items ≡ deque_len c.args.slots.now = sym images.ok.0 ∙ c.in_ok-logs.ensures.lens.1 in
    let planned = c.in-Ok.ensures in
    let made = c.opened_with.ensures in
    let fresh = are_fresh opening c.args.settings.now.passes c.in-Ok.planned.seats.items planned.seats in
    subst (λ (z : Opening g.row.D.Denot × List Passed). IsOpenedAs g.D.Disk.sight g.D.Disk.follows c.args.settings.now (deque_len c.args.slots.now) c.args.slots.now.items z.0 z.1) (λ i. (sym (made.ingester ∙ planned.plan.origin) i, sym made.passes i)) (record {
      found = c.in_ok-logs.ensures.opened.0;
      about = refl;
      shards = counted;
      passes = fresh;
    })

pub returns-clause-ready : goal.returns-clause-ready
returns-clause-ready g c =
    let images = c.in_ok-logs.images in
    let logs = c.in_ok-logs.logs in
    let sized = c.in_ok-logs.ensures.lens in
    let about = about_of c.in_ok-logs.images.items c.args.settings.now.passes c.args.settings.now.limits c.args.settings.now.capacity in
    let first = fresh_book c.in-Ok.planned.history about 0 in
    let counted : length images.items ≡ vec_len logs = sym images.ok.0 ∙ (sized.1 ∙ sym sized.0) in
    let planned = c.in-Ok.ensures in
    let plan = planned.plan in
    let made = c.opened_with.ensures in
    let here = made.ingester ∙ plan.origin in
    let shards = c.in-Ok-make_shards in
    let books = planned.books ∙ ap (λ n. fresh_books c.in-Ok.planned.history about n) counted in (
      subst (λ v. AreShardsOf g.D.Disk.sight g.D.Disk.follows c.opened_with.result.ingester v.items) (sym made.shards) (subst (λ (o : Opening g.row.D.Denot). AreShardsOf g.D.Disk.sight g.D.Disk.follows o shards.shards.items) (sym here) (made_fit g.D.Disk.sight g.D.Disk.follows first logs.items logs.items shards.shards.items c.in-Ok.planned.books.items (vec_len logs) refl books shards.ensures.made)),
      subst (λ v. AreEnds c.opened_with.result.ingester v.items) (sym made.ends) (subst (λ (o : Opening g.row.D.Denot). AreEnds o c.in-Ok.planned.plan.ends.items) (sym here) plan.ends),
      ap deque_len made.ends ∙ (plan.count ∙ (counted ∙ (sym shards.ensures.room.1 ∙ ap vec_len (sym made.shards)))),
    )

pub returns-in_default-clause-opened : goal.returns-in_default-clause-opened
returns-in_default-clause-opened g c = tt

pub returns-in_default-clause-ready : goal.returns-in_default-clause-ready
returns-in_default-clause-ready g c = tt

pub returns-in_default-make_shards-clause-opened : goal.returns-in_default-make_shards-clause-opened
returns-in_default-make_shards-clause-opened g c = tt

pub returns-in_default-make_shards-clause-ready : goal.returns-in_default-make_shards-clause-ready
returns-in_default-make_shards-clause-ready g c = tt

pub returns-clause-unmade : goal.returns-clause-unmade
returns-clause-unmade g c = tt
