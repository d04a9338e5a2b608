use Rattle.std.proofs.Common.{◌≡◌, length}
use Rattle.cidr_lists.proofs.near.nothing_near.Given as goal

abbrev pub invariant-loop-index : goal.invariant-loop-index
invariant-loop-index l = length l.near.items ≡ l.index
