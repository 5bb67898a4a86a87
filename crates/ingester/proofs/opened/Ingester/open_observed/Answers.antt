use Rattle.std.proofs.Common.{rules, ℕ, ◌<◌, ◌≤◌, List, refl, inl, sym, subst, vec_len}
use Rattle.disk.specs.Sight.{Sight}
use Rattle.labels.specs.Shards.{max_shards}
use Rattle.history.specs.Handles.{Passed}
use Rattle.owners.specs.declared.team.StartFault.{StartFault}
use Rattle.owners.specs.declared.team.StartFault.TheVariants as starts
use Rattle.owners.specs.Openings.{Opening}
use Rattle.ingester.specs.declared.refusal.OpenFault.{OpenFault}
use Rattle.ingester.specs.Faults.{cause_of}
use Rattle.ingester.specs.Findings.{IsUnmade}
use Rattle.ingester.specs.Openings.{IsOpenedAs}
use Rattle.ingester.proofs.opened.Ingester.open_observed.Goals as goal

none_opened : {D : Type 0} (sight : D → Sight) (follows : D → Type 0) (count : ℕ) (all : List (List D)) (cause : StartFault) → IsUnmade sight follows count all all (cause_of cause)
none_opened sight follows count all starts.Memory = inl refl
none_opened sight follows count all starts.Thread = refl

pub returns-in-Err-open_all-clause-unmade : goal.returns-in-Err-open_all-clause-unmade
returns-in-Err-open_all-clause-unmade g c =
    let made = c.from_vec-slots.ensures in
    subst (λ back. IsUnmade g.D.Disk.sight g.D.Disk.follows (vec_len c.args.slots) c.args.slots.items back c.in-Err-open_all.fault) (sym c.into_vec.ensures.items)
    (subst (λ all. IsUnmade g.D.Disk.sight g.D.Disk.follows (vec_len c.args.slots) all c.open_all.new.slots.items c.in-Err-open_all.fault) made.items
    (subst (λ n. IsUnmade g.D.Disk.sight g.D.Disk.follows n c.from_vec-slots.result.items c.open_all.new.slots.items c.in-Err-open_all.fault) made.len c.in-Err-open_all.ensures.unmade))

pub returns-in-Ok-open_all-clause-opened : goal.returns-in-Ok-open_all-clause-opened
returns-in-Ok-open_all-clause-opened g c =
    let begun = c.begin.ensures in
    let made = c.from_vec-slots.ensures in
    subst (λ (z : Opening g.row.D.Denot × List Passed). IsOpenedAs g.D.Disk.sight g.D.Disk.follows c.args.settings (vec_len c.args.slots) c.args.slots.items z.0 z.1) (λ i. (sym begun.ingester i, sym begun.passes i))
    (subst (λ (z : ℕ × List (List g.row.D.Denot)). IsOpenedAs g.D.Disk.sight g.D.Disk.follows c.args.settings z.0 z.1 c.in-Ok-open_all.opened.ingester c.in-Ok-open_all.opened.passes.items) (λ i. (made.len i, made.items i)) c.in-Ok-open_all.ensures.opened)

pub returns-in-Err-clause-opened : goal.returns-in-Err-clause-opened
returns-in-Err-clause-opened g c = tt

pub returns-in-Err-clause-unmade : goal.returns-in-Err-clause-unmade
returns-in-Err-clause-unmade g c =
    let slots = c.args.slots in
    subst (λ (f : OpenFault). IsUnmade g.D.Disk.sight g.D.Disk.follows (vec_len slots) slots.items slots.items f) (sym c.from.ensures) (none_opened g.D.Disk.sight g.D.Disk.follows (vec_len slots) slots.items c.in-Err.fault)

pub open_all-requires-after_bounds : goal.open_all-requires-after_bounds
open_all-requires-after_bounds g c = λ κs lives.
    let made = c.from_vec-slots.ensures in
    let slots = c.requires.slots in
    (search rules, ((subst (λ (n : ℕ). 0 < n) (sym made.len) slots.0, subst (λ (n : ℕ). n ≤ max_shards) (sym made.len) slots.1, search rules), c.requires.settings))

pub begin-requires-clause-shards : goal.begin-requires-clause-shards
begin-requires-clause-shards g c = c.in-Ok-open_all.ensures.ready.0

pub begin-requires-clause-ends : goal.begin-requires-clause-ends
begin-requires-clause-ends g c = c.in-Ok-open_all.ensures.ready.1

pub begin-requires-clause-count : goal.begin-requires-clause-count
begin-requires-clause-count g c = c.in-Ok-open_all.ensures.ready.2

pub returns-in-Ok-open_all-clause-unmade : goal.returns-in-Ok-open_all-clause-unmade
returns-in-Ok-open_all-clause-unmade g c = tt

pub returns-in-Err-open_all-clause-opened : goal.returns-in-Err-open_all-clause-opened
returns-in-Err-open_all-clause-opened g c = tt
