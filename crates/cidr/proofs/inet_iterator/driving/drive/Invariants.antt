-- The calls so far gave their answers, and the rest is left.
use Rattle.std.proofs.Common.{map, option_map, take, drop}
use Rattle.cidr.specs.model.Views.{in_family}
use Rattle.cidr.proofs.Driven.{Driven}
use Rattle.cidr.proofs.inet_iterator.driving.drive.Given as goal

abbrev pub invariant-loop-i : goal.invariant-loop-i
invariant-loop-i g l = Driven l.fn.iter l.ends (drop l.i l.ends) (map (option_map (in_family g.A.PrivUnspecAddress.family_of g.A.PrivUnspecAddress.bits)) (take l.i l.answers)) l.iter
