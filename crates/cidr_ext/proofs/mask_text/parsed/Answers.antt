use Rattle.cidr_ext.proofs.MaskTexts.{address_parsed}
use Rattle.cidr_ext.proofs.mask_text.parsed.Goals as goal

pub returns : goal.returns
returns g c =
    address_parsed g.A.PrivUnspecAddress.family_of g.A.PrivUnspecAddress.bits c.args.text.now c.parse.result c.ok.result c.ok.ensures.value
    (g.met.A.Address.reads c.args.text.now c.parse.result c.parse.ensures.value)
