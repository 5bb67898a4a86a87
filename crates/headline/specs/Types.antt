-- The types that the headline speaks of, with their constructors, passed on from one place. Declares nothing.
pub use Rattle.labels.specs.declared.key.StreamKey.{StreamKey}
pub use Rattle.accept.specs.declared.fault.CallFault.{CallFault}
pub use Rattle.accept.specs.declared.fault.CallFault.TheVariants.{Memory, PassClosed, LogSpent, InDoubt}
pub use Rattle.disk.specs.Sight.{Sight}
pub use Rattle.segment.specs.ShardPlaces.{ShardPlace}
pub use Rattle.wal.specs.declared.fault.OpenFault.{OpenFault}
pub use Rattle.wal.specs.declared.log.Wal.{Wal}
pub use Rattle.wal.specs.Logs.{Follow}
pub use Rattle.history.specs.Types.{Streams, Limits, Call, Push, Read, Trim, Reply, Verdict, Entries, Trimmed, TrimTooNew, NoStream, NoRoom, Unavailable, Ask, Step, Item, Answered, Failed, History}
pub use Rattle.history.specs.declared.views.About.{About}
pub use Rattle.history.specs.declared.views.Caller.{Caller}
pub use Rattle.history.specs.Handles.{Booked, Passed, Received}
pub use Rattle.shard.specs.Leads.{Lead}
pub use Rattle.shard.specs.Shards.{Sharded}
pub use Rattle.shard.specs.Turns.{Turn}
pub use Rattle.owners.specs.Openings.{Opening}
