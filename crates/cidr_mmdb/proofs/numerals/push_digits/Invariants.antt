use Rattle.std.proofs.Common.{◌≡◌, ◌^◌, ◌++◌}
use Rattle.cidr_mmdb.specs.Numerals.{digits_of}
use Rattle.cidr_mmdb.proofs.numerals.push_digits.Given as goal

-- the digits so far, and those that are left, are the digits
abbrev pub invariant-loop-left : goal.invariant-loop-left
invariant-loop-left l = record {
  unit : l.unit ≡ l.base ^ l.left;
  same : l.out.items ++ digits_of l.base l.left l.n ≡ l.fn.out.items ++ digits_of l.base l.count l.n;
}

abbrev pub decreases-loop-left : goal.decreases-loop-left
decreases-loop-left l = l.left
