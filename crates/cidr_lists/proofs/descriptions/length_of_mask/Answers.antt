use Rattle.cidr.specs.model.Network.{width_of}
use Rattle.cidr_ext.proofs.MaskTexts.{length_none}
use Rattle.cidr_lists.proofs.descriptions.length_of_mask.Goals as goal

pub returns-in-None : goal.returns-in-None
returns-in-None g c =
    length_none (width_of (g.A.PrivUnspecAddress.family_of c.args.mask)) (g.A.PrivUnspecAddress.bits c.args.mask) c.host_mask_length.result
    c.in-None.ensures c.host_mask_length.ensures
