-- What is told of networks and of prefix lengths.
use Rattle.std.proofs.Common.{◌≡◌, refl, sym, ◌∙◌, ap, ap₂, arith, inl, inr, ℕ, ◌-◌, ◌^◌, ◌<◌, ◌≤◌, Bool, true, false, List, [], ◌++◌, append_assoc, codes, length, nat_lt, cond}
use Rattle.std.proofs.lemmas.Bool.{lt-ltb, le-ltb, ltb-false, ltb-true}
use Rattle.std.proofs.lemmas.Nat.{pow_pos}
use Rattle.cidr.specs.either.IpAddress.{address_family, plain_bits}
use Rattle.cidr.specs.either.IpNetwork.{address_by, network_family, network_prefix}
use Rattle.cidr.specs.model.Network.{first_of, mask_of, ones, width_of, zeros}
use Rattle.cidr.specs.texts.PrintedAddress.{address_text, ip_text}
use Rattle.cidr.specs.declared.addr.ip.IpAddr.{IpAddr}
use Rattle.cidr.specs.declared.addr.ip.IpAddr.TheVariants as address
use Rattle.cidr.specs.declared.cidr.combined.IpCidr.{IpCidr}
use Rattle.cidr.specs.declared.cidr.combined.IpCidr.TheVariants.{V4, V6}
use Rattle.cidr.specs.declared.family.Family.{Family}
use Rattle.cidr_ext.specs.model.Inside.{host_mask_of}
use Rattle.cidr_ext.specs.model.Subnets.{NoSubnetAt}
use Rattle.cidr_lists.specs.Descriptions.{family_masks, mask_line, mask_pair}

-- ---- masks
pub mask_text : (n : IpCidr) → ip_text (address_by mask_of n)
    ≡ address_text (network_family n) (ones (length (network_prefix n)) ++ zeros (width_of (network_family n) - length (network_prefix n)))
mask_text (V4 p) = refl
mask_text (V6 p) = refl

pub first_text : (n : IpCidr) → ip_text (address_by first_of n) ≡ address_text (network_family n) (first_of (width_of (network_family n)) (network_prefix n))
first_text (V4 p) = refl
first_text (V6 p) = refl

printed : (a : IpAddr) → ip_text a ≡ address_text (address_family a) (plain_bits a)
printed (address.V4 a) = refl
printed (address.V6 a) = refl

pub host_mask_text : (n : IpCidr) (a : IpAddr) → plain_bits a ≡ host_mask_of (width_of (network_family n)) (network_prefix n) → address_family a ≡ network_family n
    → ip_text a ≡ address_text (network_family n) (zeros (length (network_prefix n)) ++ ones (width_of (network_family n) - length (network_prefix n)))
host_mask_text n a bits family = printed a ∙ ap₂ address_text family bits

-- the line of a network begins with its first address
pub line_of : (n : IpCidr) → (ip_text (address_by first_of n) ++ codes " ") ++ mask_pair (network_family n) (length (network_prefix n)) ≡ mask_line n
line_of n =
    append_assoc (ip_text (address_by first_of n)) (codes " ") (mask_pair (network_family n) (length (network_prefix n)))
    ∙ ap (λ (k : List ℕ). k ++ (codes " " ++ mask_pair (network_family n) (length (network_prefix n)))) (first_text n)

-- ---- prefix lengths
module _ (family : Family) (len : ℕ) where
  short : (b : Bool) → nat_lt (width_of family) len ≡ b → ¬ (NoSubnetAt (width_of family) [] len 0) → len ≤ width_of family
  short true long within = absurd (within (inr (inl (ltb-true (width_of family) len long))))
  short false fits within = ltb-false (width_of family) len fits

  pub masks_there : (n : ℕ) → n ≡ len → ¬ (NoSubnetAt (width_of family) [] len 0) → mask_pair family n ≡ family_masks family len
  masks_there n is within =
      ap (mask_pair family) is
      ∙ sym (ap (λ (c : Bool). cond c [] (mask_pair family len)) (le-ltb (width_of family) len (short (nat_lt (width_of family) len) refl within)))

  none_there : NoSubnetAt (width_of family) [] len 0 → width_of family < len
  none_there (inl below) = omega (arith, below)
  none_there (inr (inl above)) = above
  none_there (inr (inr few)) = let some : 0 < 2 ^ (len - 0) = pow_pos (len - 0) in absurd (omega (arith, some, few))

  pub no_masks : NoSubnetAt (width_of family) [] len 0 → [] ≡ family_masks family len
  no_masks none = sym (ap (λ (c : Bool). cond c [] (mask_pair family len)) (lt-ltb (width_of family) len (none_there none)))
