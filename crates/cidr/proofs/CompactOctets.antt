-- The octets that come first, and the address that they write.
use Rattle.std.proofs.Common.{◌≡◌, ℕ, zero, suc, ◌+◌, ◌-◌, ◌*◌, ◌<◌, ◌≤◌, List, [], ◌∷◌, ◌++◌, length, get_or, take, drop, refl, sym, ap, ◌∙◌, arith, length-take, length-take-le, take-append-drop}
use Rattle.cidr.specs.model.Address.{parts_of, octet_bits}
use Rattle.cidr.specs.model.Network.{width_of}
use Rattle.cidr.specs.bytes.Compact.{octet_count}
use Rattle.cidr.specs.bytes.CompactRefusal.{LacksOctets}
use Rattle.cidr.specs.internal.Fronts.{HasOctets}
use Rattle.cidr.specs.declared.family.Family.{Family}
use Rattle.cidr.specs.declared.family.Family.TheVariants.{Ipv4, Ipv6}
use Rattle.cidr.proofs.PartLaws.{FitAll}
use Rattle.cidr.proofs.OctetRows.{octets_fit}
use Rattle.cidr.proofs.GroupParts.{parts_of-flat_map}
use Rattle.cidr.proofs.ShortGrammar.{length-octet_bits}

FitAll-take : (k n : ℕ) (ds : List ℕ) → FitAll k ds → FitAll k (take n ds)
FitAll-take k zero ds h = tt
FitAll-take k (suc n) [] h = tt
FitAll-take k (suc n) (d ∷ ds) h = (h.0, FitAll-take k n ds h.1)

-- eight bits for each octet
pub octet_width : (family : Family) → 8 * octet_count family ≡ width_of family
octet_width Ipv4 = refl
octet_width Ipv6 = refl

pub first_octets : (family : Family) (octets : List ℕ) → octet_count family ≤ length octets → ((i : ℕ) → get_or octets i 0 < 256)
    → HasOctets family octets (octet_bits (take (octet_count family) octets))
first_octets family octets many fits =
    let k = octet_count family in
    let first = take k octets in
    let size : length first ≡ k = length-take-le k octets many in
    let back : parts_of 8 (length first) (octet_bits first) ≡ first = parts_of-flat_map 8 first (FitAll-take 8 k octets (octets_fit octets fits)) in (
      length-octet_bits first ∙ ap (λ n. 8 * n) size ∙ octet_width family,
      drop k octets,
      sym (take-append-drop k octets) ∙ ap (λ t. t ++ drop k octets) (sym (rw size at back)),
    )

-- an IPv6 tag, and too few octets after it
pub ipv6_lacks : (bytes : List ℕ) → 1 ≤ length bytes → 0x40 ≤ get_or bytes 0 0 → get_or bytes 0 0 ≤ 0xc0
    → length (take (length bytes - 1) (drop 1 bytes)) < 16 → LacksOctets Ipv6 bytes
ipv6_lacks [] some low high few = absurd (omega arith)
ipv6_lacks (tag ∷ octets) some low high few =
    let same : tag ≡ 0x40 + (tag - 0x40) = omega arith in
    (tag - 0x40, octets, omega arith, ap (λ t. t ∷ octets) same, omega (arith, length-take (length (tag ∷ octets) - 1) octets))
