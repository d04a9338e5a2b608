use Rattle.cidr.specs.declared.family.Family.TheVariants.{Ipv6}
use Rattle.cidr_uses.proofs.ReadBack.{host_read_back}
use Rattle.cidr_uses.proofs.read_back.ipv6_host_with_length.Goals as goal

pub returns : goal.returns
returns c =
    let reads = rw c.as_str.ensures.value at c.parse.ensures.value in
    host_read_back Ipv6 _ _ c.parse.result reads (rw c.with_length.ensures at c.to_text.ensures.spells) c.host_text_spells_one.ensures.ipv6
