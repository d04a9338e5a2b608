use Rattle.std.proofs.Common.{arith}
use Rattle.cidr_c.proofs.RowsFound.{covering_told}
use Rattle.cidr_c.proofs.rows.pcidr_rows_covering.Goals as goal

pub returns : goal.returns
returns c =
    let told = c.in-Some.ensures in
    covering_told c.args.networks.now c.args.asked.now c.in-Some.asked told.0 told.1
    _ c.covering-found.new.out c.covering-found.result (search (arith, c.value_network.type_inv)) c.covering-found.ensures
    c.args.out.now c.put_list.new.out c.args.count.now c.put_list.new.count c.put_list.result c.put_list.ensures
