use Rattle.cidr_ext.proofs.MaskTexts.{has_slash}
use Rattle.cidr_ext.proofs.mask_text.AnyCidrMaskText.from_mask_text.Goals as goal

pub returns-in-None-clause-only : goal.returns-in-None-clause-only
returns-in-None-clause-only g c = λ network is.
    absurd (has_slash (g.C.PrivCidr.family_of network) c.args.text.now (g.C.PrivCidr.prefix network) is c.in-None.ensures)

pub returns-in-Some-clause-read : goal.returns-in-Some-clause-read
returns-in-Some-clause-read g c = c.read_parts.ensures.read c.args.text.now c.in-Some.ensures

pub returns-in-Some-clause-only : goal.returns-in-Some-clause-only
returns-in-Some-clause-only g c = λ network is. c.read_parts.ensures.only c.args.text.now network c.in-Some.ensures is
