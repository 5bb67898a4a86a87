-- What a disk with a gate shows.
use Rattle.std.specs.Prelude.{ℕ, ◌+◌}
use Rattle.disk.specs.Sight.{Sight}
use Rattle.memory_disk.specs.declared.gate.GateDisk.{GateDisk}

-- the disk behind the gate
abbrev pub inner_of : {D : Type 0} → GateDisk D → D
inner_of g = g.inner

-- how often the gate stayed closed for too long, modulo 2 ^ 64
abbrev pub own_failures : {D : Type 0} → GateDisk D → ℕ
own_failures g = g.failures

-- the same disk with more failed calls
abbrev pub more_failures : Sight → ℕ → Sight
more_failures s n =
    record {
      seen = s.seen;
      may_leave = s.may_leave;
      moment = s.moment;
      left_since = s.left_since;
      failures = s.failures + n;
    }
