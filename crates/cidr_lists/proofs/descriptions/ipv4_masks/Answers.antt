use Rattle.std.proofs.Common.{◌∙◌}
use Rattle.cidr.specs.declared.family.Family.TheVariants.{Ipv4}
use Rattle.cidr_lists.proofs.Described.{masks_there, no_masks}
use Rattle.cidr_lists.proofs.descriptions.ipv4_masks.Goals as goal

pub returns-in-Some : goal.returns-in-Some
returns-in-Some c = c.mask_pair.ensures ∙ masks_there Ipv4 c.args.len _ c.in-Some.ensures.value.1.0 (rw c.null.ensures.bits at c.in-Some.ensures.within)

pub returns-in-None : goal.returns-in-None
returns-in-None c = c.new.ensures ∙ no_masks Ipv4 c.args.len (rw c.null.ensures.bits at c.in-None.ensures.value)
