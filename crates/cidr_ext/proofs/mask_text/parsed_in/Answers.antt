use Rattle.std.proofs.Common.{◌≡◌, true, false, ◌∙◌, sym}
use denote.Enum.Bare.{true_same}
use Rattle.cidr.specs.contracts.family.Family.{the_type}
use Rattle.cidr_ext.proofs.MaskTexts.{other_in}
use Rattle.cidr_ext.proofs.mask_text.parsed_in.Goals as goal

pub returns-else-eq : goal.returns-else-eq
returns-else-eq g c =
    other_in g.A.PrivUnspecAddress.family_of g.A.PrivUnspecAddress.bits c.args.family c.args.text.now c.in_ok-address.address c.in_ok-address.ensures
    (λ e. absurd (let differs : true ≡ false = sym (c.eq.ensures ∙ true_same the_type _ _ (c.family.ensures ∙ e)) ∙ c.if-eq.false in cc))
