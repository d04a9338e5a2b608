use Rattle.std.proofs.Common.{◌≡◌, ◌++◌, map}
use Rattle.cidr.specs.declared.family.Family.TheVariants.{Ipv6}
use Rattle.cidr_ext.specs.model.Subnets.{subnets_of}
use Rattle.cidr_ext.specs.texts.Zones.{names_of, EndAtLabel}
use Rattle.cidr_uses.proofs.address_plan.lan_names.Given as goal

-- the names so far and those of the networks that are left are all names, and each of these networks has one
abbrev pub invariant-loop-lan : goal.invariant-loop-lan
invariant-loop-lan l =
    goal.iterator-loop-lan.can_next l.lan-iterator
    × goal.iterator-loop-lan.is_finite l.lan-iterator
    × (map (λ name. name.bytes) l.names.items ++ names_of l.lan-iterator ≡ names_of (subnets_of Ipv6 l.site 64))
    × EndAtLabel l.lan-iterator
