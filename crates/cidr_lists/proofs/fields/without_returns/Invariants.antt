use Rattle.std.proofs.Common.{◌≡◌, length}
use Rattle.cidr_lists.specs.LookUps.{without_returns}
use Rattle.cidr_lists.proofs.fields.without_returns.Given as goal

abbrev pub invariant-loop-front : goal.invariant-loop-front
invariant-loop-front l = without_returns l.rest ≡ without_returns l.line

abbrev pub decreases-loop-front : goal.decreases-loop-front
decreases-loop-front l = length l.rest
