use Rattle.std.proofs.Common.{◌≡◌, take}
use Rattle.cidr_forwarding.proofs.candidates.ascending.Given as goal

abbrev pub invariant-loop-value : goal.invariant-loop-value
invariant-loop-value g l = l.sorted.items ≡ take l.value-index l.values
