use Rattle.std.proofs.Common.{◌≡◌, ◌≤◌, length, take}
use Rattle.cidr_routes.specs.Lengths.{rules_of}
use Rattle.cidr_routes.proofs.DecidingRows.{AreMarkedUpto}
use Rattle.cidr_routes.proofs.shadows.mark_deciding.Given as goal

-- the marks of the rows so far, and how many of them are about the length
abbrev pub invariant-loop-i : goal.invariant-loop-i
invariant-loop-i g l = record {
  size : length l.marks ≡ length l.rows;
  fits : l.rule ≤ l.i;
  rule : l.rule ≡ length (rules_of g.C.BitString.bits l.len (take l.i l.rows));
  marks : AreMarkedUpto g.C.BitString.bits l.len l.rows l.initial.marks l.marks l.i;
}
