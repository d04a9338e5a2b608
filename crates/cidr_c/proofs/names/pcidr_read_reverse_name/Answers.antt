use Rattle.cidr_c.proofs.Named.{name_read}
use Rattle.cidr_c.proofs.names.pcidr_read_reverse_name.Goals as goal

pub returns : goal.returns
returns c =
    let told = c.in-Ok.ensures.cases in
    name_read c.args.text.now c.in-Ok.name.now c.from_reverse_name.result c.args.out.now c.put_found_network.new.out c.put_found_network.result
    told.1 told.0 c.from_reverse_name.ensures.found c.from_reverse_name.ensures.only c.put_found_network.ensures
