use Rattle.std.proofs.Common.{◌≡◌, ◌-◌, take}
use Rattle.std.specs.List.{Contains}
use Rattle.cidr_routes.specs.Lengths.{has_length, rules_of}
use Rattle.cidr_routes.proofs.lists.is_changed.Given as goal

-- the rows so far are about both lengths or about none
abbrev pub invariant-loop-row : goal.invariant-loop-row
invariant-loop-row g l = record {
  same : rules_of g.C.BitString.bits l.len (take l.row-index l.rows) ≡ rules_of g.C.BitString.bits (l.len - 1) (take l.row-index l.rows);
  each : (row : _) → Contains (take l.row-index l.rows) row
      → has_length g.C.BitString.bits l.len row ≡ has_length g.C.BitString.bits (l.len - 1) row;
}
