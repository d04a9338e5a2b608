use Rattle.std.proofs.Common.{Some, drop, codes}
use denote.Text.{Utf8}
use denote.Shadow.{shadow}
use Rattle.std.specs.Fmt.{◌++?◌, debug_items}
use Rattle.cidr_table.specs.model.Printing.{debug_map, debug_row}
use Rattle.cidr_table.proofs.Printed.{Writes}
use Rattle.cidr_table.proofs.table.debug.write_map.Given as goal

-- the rows from this one on, and the brace, are left
abbrev pub invariant-loop-row : goal.invariant-loop-row
invariant-loop-row g l =
    shadow (Utf8 l.lead)
    × Writes g.W.Write.write_str_gives l.fn.f (debug_map g.C.Debug.debug_output g.V.Debug.debug_output l.rows) l.f
    (debug_items (debug_row g.C.Debug.debug_output g.V.Debug.debug_output) l.lead (drop l.row-index l.rows) ++? Some (codes "}"))
