use Rattle.cidr_ext.proofs.Found.{found_by}
use Rattle.cidr_ext.proofs.special.SpecialAddress.special_entry.Goals as goal

pub returns : goal.returns
returns g c =
    found_by c.family-family.result (g.Self.PrivUnspecAddress.family_of c.args.self) (g.Self.PrivUnspecAddress.bits c.args.self) c.len.result c.to_number.result c.entries.result.now
    c.longest_match.result c.family-family.ensures c.len.ensures c.entries.ensures.all c.entries.ensures.distinct c.to_number.ensures.width c.to_number.ensures.value c.longest_match.ensures
