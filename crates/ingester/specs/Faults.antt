-- Which fault of a call stands for which of a shard, and which refusal for which of the owners' threads.
use Rattle.shard.specs.declared.fault.ApplyFault.{ApplyFault}
use Rattle.shard.specs.declared.fault.ApplyFault.TheVariants as causes
use Rattle.owners.specs.declared.team.StartFault.{StartFault}
use Rattle.owners.specs.declared.team.StartFault.TheVariants as starts
use Rattle.accept.specs.declared.fault.CallFault.{CallFault}
use Rattle.accept.specs.declared.fault.CallFault.TheVariants as faults
use Rattle.ingester.specs.declared.refusal.OpenFault.{OpenFault}
use Rattle.ingester.specs.declared.refusal.OpenFault.TheVariants as refusals

abbrev pub fault_of : ApplyFault → CallFault
fault_of causes.Memory = faults.Memory
fault_of causes.GenerationSpent = faults.LogSpent

abbrev pub cause_of : StartFault → OpenFault
cause_of starts.Memory = refusals.Memory
cause_of starts.Thread = refusals.Thread
