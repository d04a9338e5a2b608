-- The octets of an address, or fewer of them and zeros.
use Rattle.std.proofs.Common.{refl, ◌∙◌}
use Rattle.cidr.proofs.PrefixSpelling.{whole_octets, few_octets}
use Rattle.cidr.proofs.prefix_bytes.octets.Ipv6AddrPrefixOctets.of_octets.Goals as goal

pub returns-in-Some : goal.returns-in-Some
returns-in-Some c =
    let chunk = c.in-Some.ensures.cases in
    c.from.ensures ∙ whole_octets 16 128 c.args.octets.now c.in-Some.all.now chunk.same chunk.enough refl

pub returns-in-None : goal.returns-in-None
returns-in-None c =
    c.from-in-None.ensures ∙ few_octets 16 128 c.args.octets.now c.copy_from_slice.new.self c.copy_from_slice.ensures.after c.in-None.ensures.cases refl
