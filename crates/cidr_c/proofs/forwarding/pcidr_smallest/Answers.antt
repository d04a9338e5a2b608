use Rattle.std.proofs.Common.{ℕ, List, subst, sym, ◌∙◌}
use Rattle.cidr.specs.declared.cidr.any.AnyIpCidr.{AnyIpCidr}
use Rattle.cidr_c.specs.calls.Batches.{IsListPut}
use Rattle.cidr_c.specs.model.Forwarding.{AreRowValues, IsRowValue, IsSmallestOf, network_row}
use Rattle.cidr_c.specs.declared.forwarding.CRow.{CRow}
use Rattle.cidr_c.proofs.Listed.{listed}
use Rattle.cidr_c.proofs.forwarding.pcidr_smallest.Goals as goal

pub returns-in-Ok-c_rows : goal.returns-in-Ok-c_rows
returns-in-Ok-c_rows c =
    let told = c.in-Ok.ensures in
    let made = c.in-Ok-c_rows in
    let put = c.put_list.new in
    let smallest = c.in-Ok-smallest in
    listed (AreRowValues c.args.rows.now) IsRowValue network_row (IsSmallestOf c.args.rows.now) made.rows.items c.args.out.now put.out c.args.count.now put.count
    c.put_list.result told.0 made.ensures.0
    (subst (λ (t : List (AnyIpCidr × ℕ)). IsSmallestOf c.args.rows.now t) (sym (made.ensures.1 ∙ c.rows_in.ensures)) (c.in-Ok.table.rows, told.1, smallest.ensures.ip told.2))
    (subst (λ (l : List CRow). IsListPut l c.args.out.now put.out put.count c.put_list.result) c.as_slice.ensures.value c.put_list.ensures)
