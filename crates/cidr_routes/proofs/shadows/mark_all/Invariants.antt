use Rattle.std.proofs.Common.{◌≡◌, length}
use Rattle.cidr_routes.specs.Lengths.{AreMarkedBelow}
use Rattle.cidr_routes.proofs.shadows.mark_all.Given as goal

-- the marks of the lengths so far
abbrev pub invariant-loop-len : goal.invariant-loop-len
invariant-loop-len g l = record {
  size : length l.marks ≡ length l.rows;
  marks : AreMarkedBelow g.C.BitString.bits l.len l.rows l.marks;
}
