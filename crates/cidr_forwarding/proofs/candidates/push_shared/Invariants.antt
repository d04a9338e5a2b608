use Rattle.std.proofs.Common.{◌≡◌, ◌++◌, take}
use Rattle.std.specs.List.{filter}
use Rattle.std.specs.Option.{option_eq}
use Rattle.cidr_forwarding.specs.Choices.{is_listed}
use Rattle.cidr_forwarding.proofs.candidates.push_shared.Given as goal

abbrev pub invariant-loop-value : goal.invariant-loop-value
invariant-loop-value g l = l.out.items ≡ l.fn.out.items ++ filter (is_listed (option_eq g.V.PartialEq.eq) l.other) (take l.value-index l.values)

abbrev pub invariant-loop-wanted : goal.invariant-loop-wanted
invariant-loop-wanted g l = l.out.items ≡ l.fn.out.items ++ filter (is_listed (option_eq g.V.PartialEq.eq) l.other) (take l.wanted-index l.values)
