use Rattle.std.proofs.Common.{sym, ap, ◌∙◌}
use Rattle.cidr.specs.model.Network.{width_of}
use Rattle.cidr.specs.declared.family.Family.{Family}
use Rattle.cidr_ext.specs.declared.registry.TheConstants.{IPV4_ENTRIES, IPV6_ENTRIES}
use Rattle.cidr_ext.specs.model.Special.{entries_of}
use Rattle.cidr_ext.specs.internal.Entries.{are_entries}
use Rattle.cidr_ext.proofs.Found.{ipv4_all, ipv4_entries, ipv6_all, ipv6_entries}
use Rattle.cidr_ext.proofs.special.entries.Goals as goal

pub returns-in-Ipv4-clause-all : goal.returns-in-Ipv4-clause-all
returns-in-Ipv4-clause-all c = ipv4_all ∙ ap entries_of (sym c.in-Ipv4.is)

pub returns-in-Ipv4-clause-distinct : goal.returns-in-Ipv4-clause-distinct
returns-in-Ipv4-clause-distinct c = ap (λ (f : Family). are_entries (width_of f) IPV4_ENTRIES) c.in-Ipv4.is ∙ ipv4_entries

pub returns-in-Ipv6-clause-all : goal.returns-in-Ipv6-clause-all
returns-in-Ipv6-clause-all c = ipv6_all ∙ ap entries_of (sym c.in-Ipv6.is)

pub returns-in-Ipv6-clause-distinct : goal.returns-in-Ipv6-clause-distinct
returns-in-Ipv6-clause-distinct c = ap (λ (f : Family). are_entries (width_of f) IPV6_ENTRIES) c.in-Ipv6.is ∙ ipv6_entries
