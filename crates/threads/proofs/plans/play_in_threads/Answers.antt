use denote.Param.Send.{sendable, given_sync}
use Rattle.ingester.proofs.passes.Pass.TheSendSync as pass
use Rattle.threads.proofs.Sent.{context_sync}
use Rattle.threads.proofs.plans.play_in_threads.Goals as goal

pub map_vec-requires-sync-F : goal.map_vec-requires-sync-F
map_vec-requires-sync-F g c κs within = search (context_sync, given_sync, sendable) depth 20
