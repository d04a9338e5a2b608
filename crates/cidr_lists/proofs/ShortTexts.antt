-- The printed string of a network is short, so that its line is not too long, and not empty.
use Rattle.std.proofs.Common.{◌≡◌, ap, subst, inl, inr, ◌⊎◌, ℕ, ◌+◌, ◌*◌, ◌≤◌, Bool, true, false, if◌then◌else◌, ◌==◌, List, [], ◌∷◌, ◌++◌, length, length-append, arith}
use Rattle.std.proofs.lemmas.Fmt.{length-decimal-le}
use Rattle.cidr.specs.either.IpHost.{host_at, host_family, host_parts}
use Rattle.cidr.specs.either.IpText.{IsIpHostText}
use Rattle.cidr.specs.model.Host.{Host, first_host}
use Rattle.cidr.specs.model.Network.{width_of, first_of}
use Rattle.cidr.specs.texts.AddressText.{IsAddressText}
use Rattle.cidr.specs.texts.HostText.{IsHostText}
use Rattle.cidr.specs.texts.Ipv4Text.{IsJoined, IsOctetText, dot}
use Rattle.cidr.specs.texts.Ipv6Text.{IsDottedPair, IsEightGroups, IsGroups, IsNothing, IsRun, colon}
use Rattle.cidr.specs.texts.NetworkText.{IsNetworkText, slash}
use Rattle.cidr.specs.texts.Printed.{length_text, plain_text}
use Rattle.cidr.specs.texts.PrintedAddress.{address_text}
use Rattle.cidr.specs.declared.cidr.combined.IpCidr.{IpCidr}
use Rattle.cidr.specs.declared.cidr.combined.IpCidr.TheVariants.{V4, V6}
use Rattle.cidr.specs.declared.family.Family.{Family}
use Rattle.cidr.specs.declared.family.Family.TheVariants.{Ipv4, Ipv6}
use Rattle.cidr.specs.declared.inet.combined.IpInet.{IpInet}
use Rattle.cidr.specs.declared.inet.combined.IpInet.TheVariants as host
use Rattle.cidr.specs.laws.NetworkLaws.{length-first_of}
use Rattle.cidr.proofs.LooseGrammar.{has_colon}
use Rattle.cidr.proofs.NetworkPrinting.{IsAddressText-address_text}
use Rattle.cidr.proofs.OctetReading.{four_joined, octet_length}
use Rattle.cidr_lists.specs.Lists.{IsNetworkBy, IsTooLong}
use Rattle.cidr_lists.specs.Masks.{IsMaskedHost}
use Rattle.cidr_lists.specs.declared.lines.HostBits.{HostBits}
use Rattle.cidr_lists.specs.declared.lines.HostBits.TheVariants.{Refused, Cleared, RefusedWithMasks, ClearedWithMasks}

-- ---- addresses
joined_short : (text ns : List ℕ) → IsJoined IsOctetText text ns → length text ≤ 4 * length ns
joined_short text [] h = absurd h
joined_short text (n ∷ []) h = omega (arith, (octet_length text n h).1)
joined_short text (n ∷ m ∷ ns) (front, back, split, octet, more) =
    omega (arith, ap length split, length-append front (dot ∷ back), (octet_length front n octet).1, joined_short back (m ∷ ns) more)

groups_short : (text groups : List ℕ) → IsGroups text groups → length text ≤ 5 * length groups
groups_short text [] h = absurd h
groups_short text (g ∷ []) h = omega (arith, h.1)
groups_short text (g ∷ k ∷ groups) (front, back, split, h, more) =
    omega (arith, ap length split, length-append front (colon ∷ back), h.1, groups_short back (k ∷ groups) more)

pair_short : (text : List ℕ) (g h : ℕ) → IsDottedPair text g h → length text ≤ 16
pair_short text g h (i, j, k, l, joined, _, _) = omega (arith, joined_short text (i ∷ j ∷ k ∷ l ∷ []) joined)

run_short : (text groups : List ℕ) → IsRun text groups → length text ≤ 5 * length groups + 16
run_short text groups (inl h) = omega (arith, groups_short text groups h)
run_short text groups (inr (before, g, h, e, inl (_, pair))) = omega (arith, pair_short text g h pair)
run_short text groups (inr (before, g, h, e, inr (front, back, split, more, pair))) =
    omega (
      arith,
      ap length split,
      length-append front (colon ∷ back),
      groups_short front before more,
      pair_short back g h pair,
      ap length e,
      length-append before (g ∷ h ∷ []),
    )

front_short : (text groups : List ℕ) → IsNothing text groups ⊎ IsGroups text groups → length text ≤ 5 * length groups
front_short text groups (inl h) = omega (arith, ap length h.0)
front_short text groups (inr h) = groups_short text groups h

back_short : (text groups : List ℕ) → IsNothing text groups ⊎ IsRun text groups → length text ≤ 5 * length groups + 16
back_short text groups (inl h) = omega (arith, ap length h.0)
back_short text groups (inr h) = run_short text groups h

eight_short : (text groups : List ℕ) → IsEightGroups text groups → length text ≤ 64
eight_short text groups (inl h) = omega (arith, run_short text groups h.0, h.1)
eight_short text groups (inr h) =
    omega (
      arith,
      ap length h.spelled,
      length-append h.front (colon ∷ colon ∷ h.back),
      front_short h.front h.head h.front_text,
      back_short h.back h.tail h.back_text,
      h.room,
    )

pub address_short : (family : Family) (text : List ℕ) (a : List Bool) → IsAddressText family text a → length text ≤ 64
address_short Ipv4 text a h = omega (arith, joined_short text h.octets h.joined, h.four)
address_short Ipv6 text a h = eight_short text h.groups h.eight

-- ---- networks
width_small : (family : Family) → width_of family ≤ 128
width_small Ipv4 = omega arith
width_small Ipv6 = omega arith

length_short : (n : ℕ) (full : Bool) → n ≤ 128 → length (if full then [] else length_text n) ≤ 4
length_short n true h = omega arith
length_short n false h = omega (arith, length-decimal-le 3 n (omega arith) (omega (arith, h)) (omega (arith, h)))

plain_short : (family : Family) (p : List Bool) → length p ≤ width_of family → length (plain_text family p) ≤ 68
plain_short family p fits =
    let front = address_text family (first_of (width_of family) p) in
    let back = (if length p == width_of family then [] else length_text (length p)) in
    omega (
      arith,
      length-append front back,
      address_short family front (first_of (width_of family) p)
          (IsAddressText-address_text family (first_of (width_of family) p) (length-first_of (width_of family) p fits)),
      length_short (length p) (length p == width_of family) (omega (arith, fits, width_small family)),
    )

pub plain_not_long : (family : Family) (p : List Bool) → length p ≤ width_of family → ¬ (IsTooLong (plain_text family p))
plain_not_long family p fits long = omega (arith, long, plain_short family p fits)

-- ---- no string of nothing
pub cut_nothing : (front back : List ℕ) (c : ℕ) → ¬ ([] ≡ front ++ c ∷ back)
cut_nothing front back c e = omega (arith, ap length e, length-append front (c ∷ back))

pub empty_address : (family : Family) (a : List Bool) → ¬ (IsAddressText family [] a)
empty_address Ipv4 a h =
    let (i, j, k, l, (front, back, split, octet, more)) = four_joined [] a h in
    cut_nothing front back dot split
empty_address Ipv6 a h = has_colon [] a h (λ i l. absurd (omega arith))

empty_host : (family : Family) (h : Host) → ¬ (IsHostText family [] h)
empty_host family h (inl k) = empty_address family h.address k.0
empty_host family h (inr s) = cut_nothing s.front s.back slash s.spelled

empty_by_family : (family : Family) (p : List Bool) → ¬ (IsNetworkText family [] p)
empty_by_family family p (inl h) = empty_address family p h
empty_by_family family p (inr s) = cut_nothing s.front s.back slash s.spelled

empty_ip_host : (h : IpInet) → ¬ (IsIpHostText [] h)
empty_ip_host (host.V4 h) is = empty_host Ipv4 h is
empty_ip_host (host.V6 h) is = empty_host Ipv6 h is

empty_masked : (h : IpInet) → ¬ (IsMaskedHost [] h)
empty_masked h (front, back, inl split, is) = cut_nothing front back slash split
empty_masked h (front, back, inr (none, first, trim), is) =
    empty_address (host_family h) (host_parts h).address (subst (λ (k : List ℕ). IsAddressText (host_family h) k (host_parts h).address) first is.0)

pub empty_network : (bits : HostBits) (network : IpCidr) → ¬ (IsNetworkBy bits [] network)
empty_network Refused (V4 p) h = empty_by_family Ipv4 p h
empty_network Refused (V6 p) h = empty_by_family Ipv6 p h
empty_network Cleared network (h, is, same) = empty_ip_host h is
empty_network RefusedWithMasks (V4 p) (inl is) = empty_by_family Ipv4 p is
empty_network RefusedWithMasks (V6 p) (inl is) = empty_by_family Ipv6 p is
empty_network RefusedWithMasks network (inr is) = empty_masked (host_at first_host network) is
empty_network ClearedWithMasks network (h, inl is, same) = empty_ip_host h is
empty_network ClearedWithMasks network (h, inr is, same) = empty_masked h is.0
