-- The groups so far were read.
use Rattle.std.proofs.Common.{◌-◌}
use Rattle.cidr.specs.internal.Reading.{with_colon}
use Rattle.cidr.proofs.Ipv6Reading.{ReadsOn}
use Rattle.cidr.proofs.addr.read_v6.read_groups.Given as goal

abbrev pub invariant-loop-groups : goal.invariant-loop-groups
invariant-loop-groups l =
    ReadsOn l.room l.text l.groups.number l.groups.count (with_colon l.groups.count l.groups.rest.now)

abbrev pub decreases-loop-groups : goal.decreases-loop-groups
decreases-loop-groups l = l.room - l.groups.count
