use Rattle.disk.proofs.file.FileDiskDisk.sync.Goals as goal

pub returns-in-Ok-clause-synced : goal.returns-in-Ok-clause-synced
returns-in-Ok-clause-synced c follows = c.in-Ok.ensures.synced 0

pub returns-in-Ok-clause-looks : goal.returns-in-Ok-clause-looks
returns-in-Ok-clause-looks c follows = c.sync_once.ensures.looks _ _ follows

pub returns-in-Err-clause-looks : goal.returns-in-Err-clause-looks
returns-in-Err-clause-looks c follows = c.sync_once.ensures.looks _ _ follows
