use Rattle.std.proofs.Common.{rules}
use Rattle.disk.specs.Calls.{Synced}
use Rattle.disk.proofs.FileLemmas.{acts-more, record-looks, record-synced}
use Rattle.disk.proofs.calls.NotedFile.sync_once.Goals as goal

pub returns-in-Ok-clause-synced : goal.returns-in-Ok-clause-synced
returns-in-Ok-clause-synced c f =
    record-synced c.args.self.now.noted c.note.new.self f c.note.ensures.0 (acts-more c.args.self.now.noted c.note.new.self Synced c.note.ensures.0 c.note.ensures.1)

pub returns-in-Ok-clause-looks : goal.returns-in-Ok-clause-looks
returns-in-Ok-clause-looks c f f' follows =
    record-looks c.args.self.now.noted c.note.new.self f f' c.note.ensures.0
    (acts-more c.args.self.now.noted c.note.new.self Synced c.note.ensures.0 c.note.ensures.1) (search rules)
