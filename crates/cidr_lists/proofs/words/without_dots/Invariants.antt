use Rattle.std.proofs.Common.{◌≡◌, length}
use Rattle.cidr_lists.specs.Words.{without_dots}
use Rattle.cidr_lists.proofs.words.without_dots.Given as goal

abbrev pub invariant-loop-front : goal.invariant-loop-front
invariant-loop-front l = without_dots l.rest ≡ without_dots l.word

abbrev pub decreases-loop-front : goal.decreases-loop-front
decreases-loop-front l = length l.rest
