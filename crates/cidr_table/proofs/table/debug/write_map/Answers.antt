use Rattle.std.proofs.Common.{refl, [], ◌+◌, Some, codes, drop, arith}
use Rattle.std.proofs.lemmas.List.{drop_all}
use Rattle.std.specs.Fmt.{◌++?◌, debug_items}
use Rattle.cidr_table.specs.model.Printing.{debug_map, debug_row}
use Rattle.cidr_table.proofs.Printed.{begun, more, displayed, ended, next_item}
use Rattle.cidr_table.proofs.table.debug.write_map.Goals as goal

pub loop-row-init : goal.loop-row-init
loop-row-init g c =
    let text = debug_row g.C.Debug.debug_output g.V.Debug.debug_output in
    let rows = c.args.rows.now in
    let all = debug_map g.C.Debug.debug_output g.V.Debug.debug_output rows in
    let f = c.args.f.now in (
      ([], (refl, refl)),
      more g.W.Write.write_str_gives f f c.write_str.new.self all (Some (codes "{")) (debug_items text [] rows ++? Some (codes "}")) (begun g.W.Write.write_str_gives f all)
          (λ plain. c.write_str.ensures.writes plain (rw c.in_ok-write_str.was refl)),
    )

pub loop-row-preserved : goal.loop-row-preserved
unfolding lib.Utf8.encode
loop-row-preserved g c =
    let took = g.W.Write.write_str_gives in
    let text = debug_row g.C.Debug.debug_output g.V.Debug.debug_output in
    let rows = c.args.rows.now in
    let i = c.loop-row.row-index in
    let row = c.row-item.result in
    let lead = c.loop-row.lead.now in
    let left = debug_items text (codes ", ") (drop (i + 1) rows) ++? Some (codes "}") in (
      (codes ", ", (refl, refl)),
      more took c.args.f.now c.loop-row.f c.write_row.new.f (debug_map g.C.Debug.debug_output g.V.Debug.debug_output rows) (Some lead ++? text row) left
          (rw (next_item text lead rows i row (Some (codes "}")) c.loop-row-test.true c.row-item.is) at c.loop-row.invariant.1)
          (displayed took c.loop-row.f c.write_row.new.f c.write_row.result (Some lead ++? text row) c.write_row.ensures (rw c.in_ok-write_row.was refl)),
    )

pub returns : goal.returns
returns g c =
    let rows = c.args.rows.now in
    ended g.W.Write.write_str_gives c.args.f.now c.loop-row.f c.write_str-2.new.self c.write_str-2.result (debug_map g.C.Debug.debug_output g.V.Debug.debug_output rows) (codes "}")
    (rw (drop_all c.loop-row.row-index rows (omega (arith, c.loop-row-test.false))) at c.loop-row.invariant.1) c.write_str-2.ensures.writes
