use Rattle.std.proofs.Common.{◌-◌, ◌<◌}
use Rattle.cidr_io.proofs.arguments.bytes_at.Given as goal

abbrev pub invariant-loop-buf : goal.invariant-loop-buf
invariant-loop-buf g l = 0 < l.room

-- a buffer has fewer than 2 ^ 63 bytes
abbrev pub decreases-loop-buf : goal.decreases-loop-buf
decreases-loop-buf g l = 18446744073709551616 - l.room
