use Rattle.std.proofs.Common.{◌≡◌, ◌++◌, take, false}
use Rattle.std.specs.List.{filter}
use Rattle.cidr_forwarding.specs.Choices.{not_of, is_free}
use Rattle.cidr_forwarding.proofs.candidates.push_holes.Given as goal

abbrev pub invariant-loop-value : goal.invariant-loop-value
invariant-loop-value g l = l.out.items ≡ l.fn.out.items ++ filter (not_of (is_free false)) (take l.value-index l.values)
