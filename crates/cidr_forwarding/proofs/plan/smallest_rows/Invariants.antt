use Rattle.std.proofs.Common.{◌≡◌, take}
use Rattle.cidr_forwarding.specs.Forwarding.{in_bits}
use Rattle.cidr_forwarding.proofs.Smallest.{strip}
use Rattle.cidr_forwarding.proofs.plan.smallest_rows.Given as goal

abbrev pub invariant-loop-row : goal.invariant-loop-row
invariant-loop-row g l = in_bits g.C.BitString.bits l.out.items ≡ strip (in_bits g.C.BitString.bits (take l.row-index l.row-items))
