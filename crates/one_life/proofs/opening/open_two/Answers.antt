use Rattle.std.proofs.Common.{List, ◌≡◌, ◌∙◌, [], ◌∷◌, refl, sym, ap, subst}
use Rattle.headline.proofs.Common.{Streams, Booked, Passed, about_of, Sharded, IsGround}
use Rattle.one_life.specs.Cut.{HaveBegun}
use Rattle.one_life.proofs.Starting.{ground_two, opened_two}
use Rattle.one_life.proofs.opening.open_two.Goals as goal

pub open_shards-requires-clause-first : goal.open_shards-requires-clause-first
open_shards-requires-clause-first g c =
    let m = c.in_ok-first.first.1 in
    let n = c.in_ok-first.second.1 in
    let list : c.deref.result.now ≡ m ∷ n ∷ [] = c.deref.ensures.value ∙ c.in-Ok.ensures.items in
    let begun = subst (λ (l : List Streams). HaveBegun (about_of l 2 c.args.limits c.args.capacity) c.in_ok-begun.begun) list c.in_ok-begun.ensures in
    let left : m ∷ n ∷ [] ≡ c.take_both-found.result.0 ∷ c.take_both-found.result.1 ∷ [] = sym c.in-Ok.ensures.items ∙ c.take_both-found.ensures in
    let same : m ≡ c.take_both-found.result.0 = cc in
    subst (λ (x : Streams). IsGround g.D.Disk.sight g.D.Disk.follows c.args.limits c.in_ok-first.first.0 x c.in_ok-begun.begun.books.0) same
    (ground_two g.D.Disk.sight g.D.Disk.follows c.args.limits c.args.capacity m n 0 c.args.slots.0 c.in_ok-first.first.0 m c.in_ok-begun.begun.history c.in_ok-begun.begun.books.0 c.in_ok-first.ensures.first refl c.requires.limits
    (ap (λ (b : Booked × Booked). b.0) begun.books))

pub open_shards-requires-clause-second : goal.open_shards-requires-clause-second
open_shards-requires-clause-second g c =
    let m = c.in_ok-first.first.1 in
    let n = c.in_ok-first.second.1 in
    let list : c.deref.result.now ≡ m ∷ n ∷ [] = c.deref.ensures.value ∙ c.in-Ok.ensures.items in
    let begun = subst (λ (l : List Streams). HaveBegun (about_of l 2 c.args.limits c.args.capacity) c.in_ok-begun.begun) list c.in_ok-begun.ensures in
    let left : m ∷ n ∷ [] ≡ c.take_both-found.result.0 ∷ c.take_both-found.result.1 ∷ [] = sym c.in-Ok.ensures.items ∙ c.take_both-found.ensures in
    let same : n ≡ c.take_both-found.result.1 = cc in
    subst (λ (x : Streams). IsGround g.D.Disk.sight g.D.Disk.follows c.args.limits c.in_ok-first.second.0 x c.in_ok-begun.begun.books.1) same
    (ground_two g.D.Disk.sight g.D.Disk.follows c.args.limits c.args.capacity m n 1 c.args.slots.1 c.in_ok-first.second.0 n c.in_ok-begun.begun.history c.in_ok-begun.begun.books.1 c.in_ok-first.ensures.second refl c.requires.limits
    (ap (λ (b : Booked × Booked). b.1) begun.books))

pub returns-in-Some-clause-opened : goal.returns-in-Some-clause-opened
returns-in-Some-clause-opened g c =
    let m = c.in_ok-first.first.1 in
    let n = c.in_ok-first.second.1 in
    let list : c.deref.result.now ≡ m ∷ n ∷ [] = c.deref.ensures.value ∙ c.in-Ok.ensures.items in
    let is = subst (λ (l : List Streams). HaveBegun (about_of l 2 c.args.limits c.args.capacity) c.in_ok-begun.begun) list c.in_ok-begun.ensures in
    let begun = c.in_ok-begun.begun in
    let log = c.in_ok-first.first.0 in
    let next = c.in_ok-first.second.0 in
    let shard : Booked → Sharded g.row.D.Denot = λ b. record { log = log; book = b; opened = log } in
    let other : Booked → Sharded g.row.D.Denot = λ b. record { log = next; book = b; opened = next } in
    opened_two g.D.Disk.sight g.D.Disk.follows c.args.limits c.args.capacity m n c.args.slots.0 c.args.slots.1 log next begun.history
    (record { first = c.in-Some.first; second = c.in-Some.second; one = begun.passes.0; two = begun.passes.1 })
    c.in_ok-first.ensures.first c.in_ok-first.ensures.second
    (c.in-Some.ensures.first ∙ ap (λ (b : Booked × Booked). shard b.0) is.books)
    (c.in-Some.ensures.second ∙ ap (λ (b : Booked × Booked). other b.1) is.books)
    (ap (λ (p : Passed × Passed). p.0) is.passes)
    (ap (λ (p : Passed × Passed). p.1) is.passes)

pub returns-in-Some-clause-table : goal.returns-in-Some-clause-table
returns-in-Some-clause-table g c =
    ap (λ (s : Sharded g.row.D.Denot). s.book.table) c.in-Some.ensures.first ∙ ap (λ (b : Booked × Booked). b.0.table) c.in_ok-begun.ensures.books
