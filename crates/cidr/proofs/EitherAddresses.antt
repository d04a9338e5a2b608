-- Addresses of either family and their texts.
use Rattle.std.proofs.Common.{◌≡◌, ℕ, Bool, List, ap, refl}
use Rattle.cidr.specs.texts.AddressText.{IsAddressText}
use Rattle.cidr.specs.either.IpAddress.{IsIpText}
use Rattle.cidr.specs.laws.BitLaws.{bits-zero}
use Rattle.cidr.specs.declared.addr.ip.IpAddr.{IpAddr}
use Rattle.cidr.specs.declared.addr.ip.IpAddr.TheVariants.{V4, V6}
use Rattle.cidr.specs.declared.family.Family.{Family}
use Rattle.cidr.specs.declared.family.Family.TheVariants.{Ipv4, Ipv6}
use Rattle.cidr.proofs.Ipv4Grammar.{ipv4_grammar}
use Rattle.cidr.proofs.Ipv6Grammar.{ipv6_grammar, not_both}

-- a text spells addresses of one family at most
pub one_family : (text : List ℕ) (f g : Family) (a b : List Bool) → IsAddressText f text a → IsAddressText g text b → f ≡ g
one_family text Ipv4 Ipv4 a b h k = refl
one_family text Ipv4 Ipv6 a b h k = absurd (not_both text a b h k)
one_family text Ipv6 Ipv4 a b h k = absurd (not_both text b a k h)
one_family text Ipv6 Ipv6 a b h k = refl

pub one_ip_address : (text : List ℕ) (a b : IpAddr) → IsIpText text a → IsIpText text b → a ≡ b
one_ip_address text (V4 a) (V4 b) h k = ap V4 (ipv4_grammar.one_value text a b h k)
one_ip_address text (V4 a) (V6 b) h k = absurd (not_both text a b h k)
one_ip_address text (V6 a) (V4 b) h k = absurd (not_both text b a k h)
one_ip_address text (V6 a) (V6 b) h k = ap V6 (ipv6_grammar.one_value text a b h k)

pub ruleset zero_laws = (bits-zero)
