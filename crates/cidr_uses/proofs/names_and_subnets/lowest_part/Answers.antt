use Rattle.std.proofs.Common.{subst, sym, ◌∙◌}
use Rattle.cidr.specs.declared.family.Family.TheVariants.{Ipv4}
use Rattle.cidr_ext.specs.model.Subnets.{AscendEachOnce, HasExactlySubnets}
use Rattle.cidr_uses.proofs.SubnetParts.{below_others}
use Rattle.cidr_uses.proofs.names_and_subnets.lowest_part.Goals as goal

pub returns-clause-all : goal.returns-clause-all
returns-clause-all c =
    subst (HasExactlySubnets Ipv4 c.args.network.now c.args.len) c.in_ok-lowest.ensures.steps c.in_ok-parts.ensures.exactly

pub returns-clause-above : goal.returns-clause-above
returns-clause-above c =
    let ascends = c.subnets_ascend.ensures Ipv4 c.args.network.now c.args.len in
    below_others (Ipv4, c.in_ok-lowest.lowest) c.next.new.self
    (subst AscendEachOnce (sym c.in_ok-parts.ensures.value ∙ c.in_ok-lowest.ensures.steps) ascends)
