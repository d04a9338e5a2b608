use Rattle.std.proofs.Common.{◌≡◌, ◌+◌, ◌*◌}
use Rattle.cidr_mmdb.specs.Metadata.{end_at, end_of_all}
use Rattle.cidr_mmdb.proofs.metadata.+end.Given as goal

abbrev pub decreases-end : goal.decreases-end
decreases-end l = 3 * l.depth

abbrev pub decreases-end_with : goal.decreases-end_with
decreases-end_with l = 3 * l.depth + 2

abbrev pub decreases-end_of_all : goal.decreases-end_of_all
decreases-end_of_all l = 3 * l.depth + 1

-- from here on they end where all end
abbrev pub invariant-end_of_all-loop-left : goal.invariant-end_of_all-loop-left
invariant-end_of_all-loop-left l = end_of_all (end_at l.section l.depth) l.left l.place ≡ end_of_all (end_at l.section l.depth) l.count l.at

abbrev pub decreases-end_of_all-loop-left : goal.decreases-end_of_all-loop-left
decreases-end_of_all-loop-left l = l.left
