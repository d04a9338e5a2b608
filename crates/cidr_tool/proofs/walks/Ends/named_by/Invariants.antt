use Rattle.std.proofs.Common.{◌≡◌, length, take, map}
use Rattle.cidr_tool.specs.Walking.{letter}
use Rattle.cidr_tool.proofs.walks.Ends.named_by.Given as goal

abbrev pub invariant-loop-i : goal.invariant-loop-i
invariant-loop-i l = (length l.places ≡ 256) × (map letter (take l.i l.places) ≡ take l.i l.letters)
