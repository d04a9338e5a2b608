use Rattle.std.proofs.Common.{◌≡◌, ◌≤◌, length, take, drop, map}
use Rattle.cidr_table.proofs.Passing.{IsMerging}
use Rattle.cidr_table.proofs.table.cover.merge.Given as goal

abbrev pub invariant-loop-n : goal.invariant-loop-n
invariant-loop-n g l =
    let bits = g.C.BitString.bits in
    record {
      fewer : l.n ≤ l.count;
      places : length l.out ≡ length l.fn.out;
      rest : drop l.count l.out ≡ drop l.count l.fn.out;
      merging : IsMerging 129 (map bits (take l.count l.fn.out)) (map bits (take l.n l.out));
    }

abbrev pub decreases-loop-n : goal.decreases-loop-n
decreases-loop-n g l = l.n
