use Rattle.std.proofs.Common.{rules, sym, ◌∙◌}
use denote.Enum.Bare.{same_true, true_same}
use Rattle.cidr.specs.either.IpNetwork.{network_family, network_prefix}
use Rattle.cidr_ext.specs.contracts.registry.Purpose.{the_type}
use Rattle.cidr_ext.proofs.Found.{purpose_found}
use Rattle.cidr_c.proofs.entries.has_purpose.Goals as goal

pub returns-in-Some : goal.returns-in-Some
returns-in-Some c =
    purpose_found (network_family c.args.network.now) (network_prefix c.args.network.now) c.args.purpose c.in-Some.entry.now c.eq.result c.in-Some.ensures
    (λ t. same_true the_type (search rules) _ _ (sym c.eq.ensures ∙ t), λ e. c.eq.ensures ∙ true_same the_type _ _ e)
