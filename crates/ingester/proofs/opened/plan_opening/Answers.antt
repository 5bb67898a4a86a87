use Rattle.std.proofs.Common.{◌≡◌, ℕ, ◌<◌, length, sym, ap, ◌∙◌, subst}
use Rattle.history.specs.Handles.{Booked, about_of, fresh_books, fresh_passes}
use Rattle.owners.specs.Openings.{opening_of}
use Rattle.owners.specs.Plans.{IsPlan}
use Rattle.ingester.proofs.Grounding.{length-fresh_books, first_fresh}
use Rattle.ingester.proofs.opened.plan_opening.Goals as goal

pub index-requires : goal.index-requires
index-requires g c =
    let about = about_of c.args.images.now.items c.args.settings.now.passes c.args.settings.now.limits c.args.settings.now.capacity in
    let history = c.in_ok-history.history in
    let are = c.in_ok-history.ensures.books ∙ (ap (λ m. fresh_books history (about_of m c.args.settings.now.passes c.args.settings.now.limits c.bytes.result) (length m)) c.deref.ensures.value ∙ ap (λ (n : ℕ). fresh_books history (about_of c.args.images.now.items c.args.settings.now.passes c.args.settings.now.limits n) (length c.args.images.now.items)) c.bytes.ensures.bytes) in
    let many : length c.in_ok-history.books.items ≡ length c.args.images.now.items = ap length are ∙ length-fresh_books history about (length c.args.images.now.items) in
    subst (λ n. 0 < n) (sym (c.in_ok-history.books.ok.0 ∙ (many ∙ (sym c.args.images.now.ok.0 ∙ c.requires.same)))) c.requires.some.0

pub make_plan-requires-clause-shards : goal.make_plan-requires-clause-shards
make_plan-requires-clause-shards g c =
    let about = about_of c.args.images.now.items c.args.settings.now.passes c.args.settings.now.limits c.args.settings.now.capacity in
    let history = c.in_ok-history.history in
    let are = c.in_ok-history.ensures.books ∙ (ap (λ m. fresh_books history (about_of m c.args.settings.now.passes c.args.settings.now.limits c.bytes.result) (length m)) c.deref.ensures.value ∙ ap (λ (n : ℕ). fresh_books history (about_of c.args.images.now.items c.args.settings.now.passes c.args.settings.now.limits n) (length c.args.images.now.items)) c.bytes.ensures.bytes) in
    let counted = sym c.args.images.now.ok.0 ∙ c.requires.same in
    let first = first_fresh history about (length c.args.images.now.items) c.in_ok-history.books.items c.index.result.now are (subst (λ n. 0 < n) (sym counted) c.requires.some.0) c.index.ensures in
    ap (λ (b : Booked). b.about.shards) first ∙ counted

pub make_plan-requires-clause-passes : goal.make_plan-requires-clause-passes
make_plan-requires-clause-passes g c =
    let about = about_of c.args.images.now.items c.args.settings.now.passes c.args.settings.now.limits c.args.settings.now.capacity in
    let history = c.in_ok-history.history in
    let are = c.in_ok-history.ensures.books ∙ (ap (λ m. fresh_books history (about_of m c.args.settings.now.passes c.args.settings.now.limits c.bytes.result) (length m)) c.deref.ensures.value ∙ ap (λ (n : ℕ). fresh_books history (about_of c.args.images.now.items c.args.settings.now.passes c.args.settings.now.limits n) (length c.args.images.now.items)) c.bytes.ensures.bytes) in
    let counted = sym c.args.images.now.ok.0 ∙ c.requires.same in
    let first = first_fresh history about (length c.args.images.now.items) c.in_ok-history.books.items c.index.result.now are (subst (λ n. 0 < n) (sym counted) c.requires.some.0) c.index.ensures in
    ap (λ (b : Booked). b.about.passes) first

pub returns : goal.returns
returns g c =
    let about = about_of c.args.images.now.items c.args.settings.now.passes c.args.settings.now.limits c.args.settings.now.capacity in
    let history = c.in_ok-history.history in
    let are = c.in_ok-history.ensures.books ∙ (ap (λ m. fresh_books history (about_of m c.args.settings.now.passes c.args.settings.now.limits c.bytes.result) (length m)) c.deref.ensures.value ∙ ap (λ (n : ℕ). fresh_books history (about_of c.args.images.now.items c.args.settings.now.passes c.args.settings.now.limits n) (length c.args.images.now.items)) c.bytes.ensures.bytes) in
    let counted = sym c.args.images.now.ok.0 ∙ c.requires.same in
    let first = first_fresh history about (length c.args.images.now.items) c.in_ok-history.books.items c.index.result.now are (subst (λ n. 0 < n) (sym counted) c.requires.some.0) c.index.ensures in
    record {
      books = are;
      seats = c.in_ok-history.ensures.passes ∙ (ap (λ m. fresh_passes history (about_of m c.args.settings.now.passes c.args.settings.now.limits c.bytes.result) c.args.settings.now.passes) c.deref.ensures.value ∙ ap (λ (n : ℕ). fresh_passes history (about_of c.args.images.now.items c.args.settings.now.passes c.args.settings.now.limits n) c.args.settings.now.passes) c.bytes.ensures.bytes);
      plan = subst (λ (b : Booked). IsPlan (opening_of b c.args.logs.now.items) c.in_ok-plan.plan) first c.in_ok-plan.ensures;
    }
