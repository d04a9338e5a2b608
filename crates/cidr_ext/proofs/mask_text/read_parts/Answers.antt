use Rattle.std.proofs.Common.{◌≡◌, ◌∙◌, ℕ, subst}
use Rattle.cidr.specs.model.Network.{width_of}
use Rattle.cidr.specs.texts.AddressText.{IsAddressText}
use Rattle.cidr_ext.specs.texts.MaskText.{IsLengthOfMask}
use Rattle.cidr_ext.proofs.MaskTexts.{no_address_only, no_mask_text_only, no_length, no_length_only, made}
use Rattle.cidr_ext.proofs.mask_text.read_parts.Goals as goal

pub returns-in_default-clause-only : goal.returns-in_default-clause-only
returns-in_default-clause-only g c =
    no_address_only g.C.Address.PrivUnspecAddress.family_of g.C.Address.PrivUnspecAddress.bits g.C.PrivCidr.family_of g.C.PrivCidr.prefix c.args.front.now c.args.back.now
    g.met.C.WholeFamily.addresses c.in_default.ensures

pub returns-in_default-parsed_in-clause-only : goal.returns-in_default-parsed_in-clause-only
returns-in_default-parsed_in-clause-only g c =
    no_mask_text_only g.C.Address.PrivUnspecAddress.family_of g.C.Address.PrivUnspecAddress.bits g.C.PrivCidr.family_of g.C.PrivCidr.prefix c.args.front.now c.args.back.now
    c.in-Some.address c.in-Some.ensures g.met.C.WholeFamily.addresses
    (subst (λ x. (m : g.row.C-Address.Denot) → g.C.Address.PrivUnspecAddress.family_of m ≡ x → ¬ (IsAddressText x c.args.back.now (g.C.Address.PrivUnspecAddress.bits m))) c.family.ensures c.in_default-parsed_in.ensures)

pub returns-in_default-length_of_mask-clause-read : goal.returns-in_default-length_of_mask-clause-read
returns-in_default-length_of_mask-clause-read g c =
    no_length g.C.Address.PrivUnspecAddress.family_of g.C.Address.PrivUnspecAddress.bits g.C.PrivCidr.family_of g.C.PrivCidr.prefix c.args.front.now c.args.back.now
    c.in-Some.address c.in-Some.ensures (g.C.Address.PrivUnspecAddress.bits c.in-Some-parsed_in.mask)
    (subst (λ x. IsAddressText x c.args.back.now (g.C.Address.PrivUnspecAddress.bits c.in-Some-parsed_in.mask)) c.family.ensures c.in-Some-parsed_in.ensures.1)
    (subst (λ x. (n : ℕ) → ¬ (IsLengthOfMask (width_of x) n (g.C.Address.PrivUnspecAddress.bits c.in-Some-parsed_in.mask))) (c.in-Some-parsed_in.ensures.0 ∙ c.family.ensures) c.in_default-length_of_mask.ensures)

pub returns-in_default-length_of_mask-clause-only : goal.returns-in_default-length_of_mask-clause-only
returns-in_default-length_of_mask-clause-only g c =
    no_length_only g.C.Address.PrivUnspecAddress.family_of g.C.Address.PrivUnspecAddress.bits g.C.PrivCidr.family_of g.C.PrivCidr.prefix c.args.front.now c.args.back.now
    c.in-Some.address c.in-Some.ensures (g.C.Address.PrivUnspecAddress.bits c.in-Some-parsed_in.mask)
    (subst (λ x. IsAddressText x c.args.back.now (g.C.Address.PrivUnspecAddress.bits c.in-Some-parsed_in.mask)) c.family.ensures c.in-Some-parsed_in.ensures.1)
    (subst (λ x. (n : ℕ) → ¬ (IsLengthOfMask (width_of x) n (g.C.Address.PrivUnspecAddress.bits c.in-Some-parsed_in.mask))) (c.in-Some-parsed_in.ensures.0 ∙ c.family.ensures) c.in_default-length_of_mask.ensures)

pub returns-clause-read : goal.returns-clause-read
returns-clause-read g c =
    let both = made g.C.Address.PrivUnspecAddress.family_of g.C.Address.PrivUnspecAddress.bits g.C.PrivCidr.family_of g.C.PrivCidr.prefix c.args.front.now c.args.back.now
    c.in-Some.address c.in-Some.ensures (g.C.Address.PrivUnspecAddress.bits c.in-Some-parsed_in.mask)
    (subst (λ x. IsAddressText x c.args.back.now (g.C.Address.PrivUnspecAddress.bits c.in-Some-parsed_in.mask)) c.family.ensures c.in-Some-parsed_in.ensures.1)
    c.in-Some-length_of_mask.len
    (subst (λ x. IsLengthOfMask (width_of x) c.in-Some-length_of_mask.len (g.C.Address.PrivUnspecAddress.bits c.in-Some-parsed_in.mask)) (c.in-Some-parsed_in.ensures.0 ∙ c.family.ensures) c.in-Some-length_of_mask.ensures)
    c.address_has_its_width.ensures g.met.C.Cidr.known c.new.result c.ok.result c.ok_or.result c.new.ensures.value c.new.ensures.family c.ok.ensures.value c.ok_or.ensures.value in
    both.0

pub returns-clause-only : goal.returns-clause-only
returns-clause-only g c =
    let both = made g.C.Address.PrivUnspecAddress.family_of g.C.Address.PrivUnspecAddress.bits g.C.PrivCidr.family_of g.C.PrivCidr.prefix c.args.front.now c.args.back.now
    c.in-Some.address c.in-Some.ensures (g.C.Address.PrivUnspecAddress.bits c.in-Some-parsed_in.mask)
    (subst (λ x. IsAddressText x c.args.back.now (g.C.Address.PrivUnspecAddress.bits c.in-Some-parsed_in.mask)) c.family.ensures c.in-Some-parsed_in.ensures.1)
    c.in-Some-length_of_mask.len
    (subst (λ x. IsLengthOfMask (width_of x) c.in-Some-length_of_mask.len (g.C.Address.PrivUnspecAddress.bits c.in-Some-parsed_in.mask)) (c.in-Some-parsed_in.ensures.0 ∙ c.family.ensures) c.in-Some-length_of_mask.ensures)
    c.address_has_its_width.ensures g.met.C.Cidr.known c.new.result c.ok.result c.ok_or.result c.new.ensures.value c.new.ensures.family c.ok.ensures.value c.ok_or.ensures.value in
    both.1
