-- Calls of as many passes are jobs that may be made.
use Rattle.std.proofs.Common.{◌≡◌, ℕ, zero, suc, ◌+◌, false, List, [], ◌∷◌, ◌++◌, refl, sym, ap, ◌∙◌, subst}
use Rattle.std.specs.Prelude.{Some}
use Rattle.std.specs.List.{All}
use Rattle.std.proofs.lemmas.List.Elements.{All-nil, All-pop, All-push}
use Rattle.atomic_table.specs.Seated.{TableId}
use Rattle.accept.specs.declared.call.Call.{Call}
use Rattle.accept.specs.Calls.{AreNumbers}
use Rattle.accept.specs.declared.history.Ask.{Ask}
use Rattle.history.specs.declared.views.About.{About}
use Rattle.history.specs.Histories.{of_pass}
use Rattle.history.specs.Plays.{ask_of, before_of}
use Rattle.history.specs.Handles.{Announced, Booked, Passed, asks_of, fresh_pass, fresh_passes}
use Rattle.history.proofs.Lines.{alone_before}
use Rattle.shard.specs.declared.first_jobs.Job.{Job}
use Rattle.shard.specs.Groups.{HaveStepsOr}
use Rattle.shard.specs.Jobs.{tickets_of}
use Rattle.shard.specs.Turns.{AreReady}
use Rattle.lone_shard.specs.Passes.{IsIdlePass}
use Rattle.lone_shard.proofs.Rounds.{only_shard, ready_more}

pub all_idle : (table : TableId) (about : About) (n : ℕ) → about.shards ≡ 1 → All (IsIdlePass table) (fresh_passes table about n)
all_idle table about zero one = All-nil (IsIdlePass table)
all_idle table about (suc n) one = All-push (IsIdlePass table) (fresh_passes table about n) (fresh_pass table about n) (all_idle table about n one) (record { table_is = refl; one = one; idle = refl })

pub last_idle : (table : TableId) (about : About) (n : ℕ) (all front : List Passed) (pass : Passed) → about.shards ≡ 1 → all ≡ fresh_passes table about n → all ≡ front ++ pass ∷ [] → All (IsIdlePass table) front × IsIdlePass table pass
last_idle table about n all front pass one fresh split = All-pop (IsIdlePass table) all front (Some pass) split (subst (All (IsIdlePass table)) (sym fresh) (all_idle table about n one))

-- a call of an idle pass is one more job
pub one_more : (table : TableId) (book : Booked) (pass : Passed) (jobs put : List Job) (call : Call) (t : Announced) → book.table ≡ table → book.about.shards ≡ 1 → book.shard ≡ 0 → IsIdlePass table pass → AreNumbers call → AreReady book jobs
    → t ≡ record { table = table; ask = ask_of pass.caller (pass.caller.last + 1) call; doubted = false; before = before_of pass.caller (pass.caller.last + 1) call }
    → put ≡ jobs ++ record { ticket = t; call = call } ∷ [] → AreReady book put
one_more table book pass jobs put call t book_table one only idle numbers ready is put_is =
    let c = pass.caller in
    let none : t.before ≡ [] = ap (λ (u : Announced). u.before) is ∙ alone_before c (c.last + 1) call idle.idle in
    let turn : HaveStepsOr t.before book.items (of_pass t.ask.pass (asks_of (tickets_of jobs))) = subst (λ (l : List Ask). HaveStepsOr l book.items (of_pass t.ask.pass (asks_of (tickets_of jobs)))) (sym none) tt in
    subst (AreReady book) (sym put_is)
    (ready_more book jobs t call ready (ap (λ (u : Announced). u.table) is ∙ sym book_table) (only_shard book.about t.ask one ∙ sym only) (ap (λ (u : Announced). u.ask.call) is) numbers turn)
