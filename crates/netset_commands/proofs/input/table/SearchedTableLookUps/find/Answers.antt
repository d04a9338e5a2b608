use Rattle.std.proofs.Common.{sym, ◌∙◌, ap, option_copied}
use Rattle.cidr.specs.either.IpAddress.{address_family, plain_bits}
use Rattle.netset_commands.specs.Rows.{searched, searched_rows}
use Rattle.netset_commands.proofs.Looked.{answer_found}
use Rattle.netset_commands.proofs.input.table.SearchedTableLookUps.find.Goals as goal

pub returns-in-V4 : goal.returns-in-V4
returns-in-V4 c =
    answer_found c.args.self.now.values.items (searched c.args.self.now (address_family c.args.address.now)) (searched_rows c.args.self.now.v4) c.args.address.now c.new_host.result
    (option_copied c.lookup.result) c.answer_of.result (c.new_host.ensures.value ∙ sym (ap plain_bits c.in-V4.is)) (ap (searched c.args.self.now) (ap address_family c.in-V4.is))
    c.lookup.ensures c.answer_of.ensures

pub returns-in-V6 : goal.returns-in-V6
returns-in-V6 c =
    answer_found c.args.self.now.values.items (searched c.args.self.now (address_family c.args.address.now)) (searched_rows c.args.self.now.v6) c.args.address.now c.new_host-in-V6.result
    (option_copied c.lookup-in-V6.result) c.answer_of-in-V6.result (c.new_host-in-V6.ensures.value ∙ sym (ap plain_bits c.in-V6.is)) (ap (searched c.args.self.now) (ap address_family c.in-V6.is))
    c.lookup-in-V6.ensures c.answer_of-in-V6.ensures
