use Rattle.std.proofs.Common.{rules, subst, take, length, ◌≡◌, ℕ}
use Rattle.std.proofs.lemmas.List.{length-take-le}
use Rattle.disk.specs.Calls.{Wrote, Broke}
use Rattle.disk.specs.State.{Write, Break}
use Rattle.disk.specs.CallRecord.{Goes, sight_by}
use Rattle.disk.proofs.Crash.{is_write, is_break}
use Rattle.disk.proofs.FileLemmas.{acts-more, record-goes, record-holds}
use Rattle.disk.proofs.calls.NotedFile.write_some.Goals as goal

pub returns-in-Ok-clause-written : goal.returns-in-Ok-clause-written
returns-in-Ok-clause-written c f f' follows le =
    let old = c.args.self.now.noted in
    let size : length (take c.in-Ok.n c.args.bytes.now) ≡ c.in-Ok.n = length-take-le c.in-Ok.n c.args.bytes.now (search rules) in
    let more = acts-more old c.note.new.self (Wrote c.args.at c.in-Ok.n c.args.bytes.now) c.note.ensures.0 c.note.ensures.1 in
    record {
      goes = subst (λ (n : ℕ). Goes c.args.at n (sight_by old f) (sight_by c.note.new.self f')) size
          (record-goes old c.note.new.self (Write c.args.at (take c.in-Ok.n c.args.bytes.now)) c.args.at _ (take c.in-Ok.n c.args.bytes.now) f f' c.note.ensures.0 more (search rules)
          (is_write _ c.args.at (take c.in-Ok.n c.args.bytes.now) le));
      holds = record-holds old c.note.new.self c.args.at (take c.in-Ok.n c.args.bytes.now) c.note.ensures.0 more le;
    }

pub returns-in-Err-2-clause-broke : goal.returns-in-Err-2-clause-broke
returns-in-Err-2-clause-broke c f f' follows le =
    let old = c.args.self.now.noted in
    record-goes old c.note-in-Err-2.new.self (Break c.args.at (length c.args.bytes.now) _) c.args.at (length c.args.bytes.now) _ f f' c.note-in-Err-2.ensures.0
    (acts-more old c.note-in-Err-2.new.self (Broke c.args.at c.args.bytes.now) c.note-in-Err-2.ensures.0 c.note-in-Err-2.ensures.1) (search rules)
    (is_break _ c.args.at (length c.args.bytes.now) _ le)
