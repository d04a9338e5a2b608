use Rattle.std.proofs.Common.{ap, ◌∙◌}
use Rattle.cidr.specs.model.Bits.{number}
use Rattle.cidr.specs.declared.family.Family.TheVariants.{Ipv4, Ipv6}
use Rattle.cidr_ext.specs.declared.registry.TheConstants.{IPV4_ENTRIES, IPV6_ENTRIES}
use Rattle.cidr_ext.proofs.Found.{ipv4_all, ipv4_entries, ipv6_all, ipv6_entries}
use Rattle.cidr_c.proofs.NetworkBlocks.{found_by}
use Rattle.cidr_c.proofs.entries.entry_of.Goals as goal

pub longest_of-requires : goal.longest_of-requires
longest_of-requires c = ipv4_entries

pub longest_of-requires-in-V6 : goal.longest_of-requires-in-V6
longest_of-requires-in-V6 c = ipv6_entries

pub returns-in-V4 : goal.returns-in-V4
returns-in-V4 c =
    rw c.in-V4.is (found_by Ipv4 c.in-V4.network c.network_length.result c.to_bits-number.result IPV4_ENTRIES c.longest_of.result ipv4_all ipv4_entries
    c.network_length.ensures.fits c.network_length.ensures.value (c.to_bits-number.ensures.value ∙ ap number c.first_address.ensures) c.longest_of.ensures)

pub returns-in-V6 : goal.returns-in-V6
returns-in-V6 c =
    rw c.in-V6.is (found_by Ipv6 c.in-V6.network c.network_length-in-V6.result c.to_bits-number-in-V6.result IPV6_ENTRIES c.longest_of-in-V6.result ipv6_all ipv6_entries
    c.network_length-in-V6.ensures.fits c.network_length-in-V6.ensures.value (c.to_bits-number-in-V6.ensures.value ∙ ap number c.first_address-in-V6.ensures)
    c.longest_of-in-V6.ensures)
