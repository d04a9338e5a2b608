use Rattle.cidr.specs.declared.family.Family.TheVariants.{Ipv4}
use Rattle.cidr_uses.proofs.ReadBack.{host_read_back}
use Rattle.cidr_uses.proofs.read_back.ipv4_host.Goals as goal

pub returns : goal.returns
returns c =
    let reads = rw c.as_str.ensures.value at c.parse.ensures.value in
    host_read_back Ipv4 _ _ c.parse.result reads c.to_text.ensures.spells c.host_text_spells_one.ensures.ipv4
