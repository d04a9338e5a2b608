-- What is printed of a network or a host spells it, and how long it is.
use Rattle.std.proofs.Common.{◌≡◌, ℕ, ◌+◌, ◌-◌, ◌^◌, ◌<◌, ◌≤◌, Bool, List, [], ◌∷◌, ◌++◌, length, decimal, refl, sym, ap, ◌∙◌, subst, arith, inl, inr, take_at, drop_at, append_assoc, append-nil, length-append, eq-eqb, ne_eqb}
use Rattle.std.proofs.lemmas.Bool.{cases_eq}
use Rattle.std.proofs.lemmas.Fmt.{decimal_is_IsNumeral, length-decimal-le}
use Rattle.cidr.specs.model.Host.{Host, IsHost}
use Rattle.cidr.specs.model.Network.{width_of, zeros, first_of}
use Rattle.cidr.specs.texts.AddressText.{IsAddressText}
use Rattle.cidr.specs.texts.NetworkText.{IsLengthText, IsNetworkText}
use Rattle.cidr.specs.texts.HostText.{IsHostText}
use Rattle.cidr.specs.texts.PrintedAddress.{address_text, longest_address}
use Rattle.cidr.specs.texts.Printed.{length_text, plain_host_text, forced_host_text, plain_text, forced_text, longest_text}
use Rattle.cidr.specs.declared.family.Family.{Family}
use Rattle.cidr.specs.declared.family.Family.TheVariants.{Ipv4, Ipv6}
use Rattle.cidr.proofs.Ipv4Printing.{IsIpv4Text-ipv4_text}
use Rattle.cidr.proofs.Ipv6Printing.{IsIpv6Text-ipv6_text}
use Rattle.cidr.specs.laws.NetworkLaws.{length-first_of}

-- ---- addresses
pub IsAddressText-address_text : (family : Family) (a : List Bool) → length a ≡ width_of family → IsAddressText family (address_text family a) a
IsAddressText-address_text Ipv4 = IsIpv4Text-ipv4_text
IsAddressText-address_text Ipv6 = IsIpv6Text-ipv6_text

-- ---- lengths
pub IsLengthText-decimal : (n : ℕ) → n < 256 → IsLengthText (decimal n) n
IsLengthText-decimal n h =
    let (numeral, value) = decimal_is_IsNumeral n (omega arith) in
    inl (numeral, value, h)

-- a width, and so a length, is below 256
width_small : (family : Family) → width_of family < 256
width_small Ipv4 = omega arith
width_small Ipv6 = omega arith

pub pushed_slash : (old ds : List ℕ) → (old ++ 47 ∷ []) ++ ds ≡ old ++ 47 ∷ ds
pushed_slash old ds = simp append_assoc

pub ruleset slash_laws = (pushed_slash)

-- how long the text of a length is, and with the address before it
length_text_length : (n k : ℕ) → 0 < k → n < 10 ^ k → n < 256 → length (length_text n) ≤ k + 1
length_text_length n k some small byte = omega (arith, length-decimal-le k n some small (omega arith))

pub longest_fits : (family : Family) (n : ℕ) → n ≤ width_of family → longest_address family + length (length_text n) ≤ longest_text family
longest_fits Ipv4 n h = omega (arith, length_text_length n 2 (omega arith) (omega arith) (omega arith))
longest_fits Ipv6 n h = omega (arith, length_text_length n 3 (omega arith) (omega arith) (omega arith))

pub forced_length : (family : Family) (old : List ℕ) (n : ℕ) → length old ≤ longest_address family → n ≤ width_of family → length (old ++ length_text n) ≤ longest_text family
forced_length family old n h fits = omega (arith, length-append old (length_text n), longest_fits family n fits)

pub longest_alone : (family : Family) → longest_address family ≤ longest_text family
longest_alone Ipv4 = omega arith
longest_alone Ipv6 = omega arith

-- room for the longest
pub longest_room : (family : Family) → longest_text family ≤ 43
longest_room Ipv4 = omega arith
longest_room Ipv6 = omega arith

-- ---- hosts
module _ (family : Family) (host : Host) (is : IsHost (width_of family) host) where
  pub host_forced : IsHostText family (forced_host_text family host) host
  host_forced = inr (record {
    front = address_text family host.address;
    back = decimal host.len;
    spelled = refl;
    front_text = IsAddressText-address_text family host.address is.0;
    back_text = IsLengthText-decimal host.len (omega (arith, is.1, width_small family));
    fits = is.1;
  })

  pub host_plain : IsHostText family (plain_host_text family host) host
  host_plain =
      elim (cases_eq host.len (width_of family)) [
        | inl full ↦ rw (eq-eqb host.len (width_of family) full, append-nil) (inl (IsAddressText-address_text family host.address is.0, full))
        | inr part ↦ rw (ne_eqb host.len (width_of family) part) host_forced
      ]

-- ---- networks
module _ (family : Family) (p : List Bool) (fits : length p ≤ width_of family) where
  spelled_first : IsAddressText family (address_text family (first_of (width_of family) p)) (first_of (width_of family) p)
  spelled_first = IsAddressText-address_text family (first_of (width_of family) p) (length-first_of (width_of family) p fits)

  pub network_forced : IsNetworkText family (forced_text family p) p
  network_forced = inr (record {
    front = address_text family (first_of (width_of family) p);
    back = decimal (length p);
    address = first_of (width_of family) p;
    len = length p;
    spelled = refl;
    front_text = spelled_first;
    back_text = IsLengthText-decimal (length p) (omega (arith, fits, width_small family));
    fits = fits;
    host = drop_at p (zeros (width_of family - length p)) (length p) refl;
    value = sym (take_at p (zeros (width_of family - length p)) (length p) refl);
  })

  -- a network of full length is its first address
  whole_first : length p ≡ width_of family → first_of (width_of family) p ≡ p
  whole_first full =
      let none : width_of family - length p ≡ 0 = omega arith in
      ap (λ n. p ++ zeros n) none ∙ append-nil p

  pub network_plain : IsNetworkText family (plain_text family p) p
  network_plain =
      elim (cases_eq (length p) (width_of family)) [
        | inl full ↦
            rw (eq-eqb (length p) (width_of family) full, append-nil) (inl (subst (λ a. IsAddressText family (address_text family (first_of (width_of family) p)) a) (whole_first full) spelled_first))
        | inr part ↦ rw (ne_eqb (length p) (width_of family) part) network_forced
      ]

pub ruleset longest_laws = (forced_length, longest_alone, longest_room)

pub ruleset host_text_laws = (host_forced, host_plain)

pub ruleset network_text_laws = (network_forced, network_plain)
