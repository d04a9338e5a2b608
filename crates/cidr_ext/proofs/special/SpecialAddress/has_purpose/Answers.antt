use Rattle.std.proofs.Common.{rules, sym, ◌∙◌}
use denote.Enum.Bare.{same_true, true_same}
use Rattle.cidr_ext.specs.contracts.registry.Purpose.{the_type}
use Rattle.cidr_ext.proofs.Found.{purpose_found}
use Rattle.cidr_ext.proofs.special.SpecialAddress.has_purpose.Goals as goal

pub returns-in-Some : goal.returns-in-Some
returns-in-Some g c =
    purpose_found (g.Self.PrivUnspecAddress.family_of c.args.self) (g.Self.PrivUnspecAddress.bits c.args.self) c.args.purpose c.in-Some.entry.now c.eq.result c.in-Some.ensures
    (λ t. same_true the_type (search rules) _ _ (sym c.eq.ensures ∙ t), λ e. c.eq.ensures ∙ true_same the_type _ _ e)
