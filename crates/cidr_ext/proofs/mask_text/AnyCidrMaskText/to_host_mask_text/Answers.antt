use Rattle.std.proofs.Common.{sym, subst}
use Rattle.cidr.specs.model.Network.{width_of, first_of}
use Rattle.cidr_ext.specs.model.Inside.{host_mask_of}
use Rattle.cidr_ext.specs.texts.MaskText.{IsMaskText}
use Rattle.cidr_ext.proofs.MaskTexts.{host_mask_printed, printed}
use Rattle.cidr_ext.proofs.mask_text.AnyCidrMaskText.to_host_mask_text.Goals as goal

pub returns-clause-text : goal.returns-clause-text
returns-clause-text g c =
    let f = g.C.PrivCidr.family_of c.args.self.now in
    let p = g.C.PrivCidr.prefix c.args.self.now in
    printed f (g.C.Address.PrivUnspecAddress.family_of c.first_address.result) (g.C.Address.PrivUnspecAddress.family_of c.host_mask.result)
    (g.C.Address.PrivUnspecAddress.bits c.first_address.result) (g.C.Address.PrivUnspecAddress.bits c.host_mask.result) (first_of (width_of f) p) (host_mask_of (width_of f) p)
    c.with_mask.result.bytes c.with_mask.ensures c.first_address.ensures.family c.host_mask.ensures.family c.first_address.ensures.value c.host_mask.ensures.value

pub returns-clause-read : goal.returns-clause-read
returns-clause-read g c = λ some below.
    let f = g.C.PrivCidr.family_of c.args.self.now in
    let p = g.C.PrivCidr.prefix c.args.self.now in
    subst (λ t. IsMaskText f t p) (sym (returns-clause-text g c))
    (host_mask_printed f p c.length_is_within_the_width.ensures some below)
