-- The octets that come first are those of the address.
use Rattle.std.proofs.Common.{ℕ, ◌<◌, get_or, sym, ap, ◌∙◌, subst, rules}
use Rattle.cidr.specs.model.Address.{octet_bits}
use Rattle.cidr.specs.internal.Fronts.{HasOctets}
use Rattle.cidr.specs.declared.family.Family.TheVariants.{Ipv4}
use Rattle.cidr.proofs.CompactOctets.{first_octets}
use Rattle.cidr.proofs.compact.front.ipv4_first.Goals as goal

pub returns-in-Some : goal.returns-in-Some
returns-in-Some c =
    let octets = c.args.octets.now in
    let fit : (i : ℕ) → get_or octets i 0 < 256 = λ i. search rules in
    subst (HasOctets Ipv4 octets) (sym (c.from.ensures ∙ ap octet_bits c.in-Some.ensures.cases.0)) (first_octets Ipv4 octets (search rules) fit)
