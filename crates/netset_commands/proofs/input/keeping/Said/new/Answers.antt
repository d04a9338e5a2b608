use Rattle.std.proofs.Common.{◌≡◌, refl, []}
use Rattle.cidr.specs.declared.family.Family.{Family}
use Rattle.cidr.specs.declared.family.Family.TheVariants.{Ipv4, Ipv6}
use Rattle.cidr_lists.specs.Reading.{listed}
use Rattle.netset_commands.proofs.Stored.{none_stored}
use Rattle.netset_commands.proofs.input.keeping.Said.new.Goals as goal

pub returns-in-Networks : goal.returns-in-Networks
returns-in-Networks c =
    let none : (family : Family) → listed c.new.result family ≡ [] = elim [ Ipv4 ↦ c.new.ensures.v4 | Ipv6 ↦ c.new.ensures.v6 ] in
    rw c.in-Networks.is (refl, λ bits. ([], tt, none))

pub returns-in-Hosts : goal.returns-in-Hosts
returns-in-Hosts c = rw c.in-Hosts.is (refl, λ bits. c.new-in-Hosts.ensures.items)

pub returns-in-Rows : goal.returns-in-Rows
returns-in-Rows c =
    rw c.in-Rows.is (refl, λ bits. ([], tt, none_stored c.new-in-Rows.result c.new-in-Rows.ensures.v4 c.new-in-Rows.ensures.v6))
