-- A short text spells one network, and an IPv4 text is a short text.
use Rattle.std.proofs.Common.{◌≡◌, ℕ, ◌+◌, ◌-◌, ◌*◌, ◌%◌, ◌^◌, ◌<◌, ◌≤◌, Bool, List, [], ◌∷◌, ◌++◌, length, replicate, take, refl, sym, ap, ◌∙◌, subst, arith, inl, inr, take_at, length-append}
use Rattle.std.proofs.lemmas.Nat.{shl_whole, pow_pos}
use Rattle.std.proofs.lemmas.List.{length-replicate}
use Rattle.std.proofs.lemmas.Grind.{flat_map-append}
use Rattle.cidr.specs.model.Bits.{bits}
use Rattle.cidr.specs.model.Address.{octet_bits}
use Rattle.cidr.specs.laws.BitLaws.{bits-cat, bits-zero, length-bits}
use Rattle.cidr.specs.model.Network.{zeros, first_of}
use Rattle.cidr.specs.texts.Ipv4Text.{dot, IsOctetText, IsJoined, IsIpv4Text}
use Rattle.cidr.specs.texts.Ipv6Text.{colon}
use Rattle.cidr.specs.texts.NetworkText.{IsLengthText}
use Rattle.cidr.specs.texts.Refusal.{Lacks}
use Rattle.cidr.specs.texts.ShortText.{IsShortText, IsShortIpText}
use Rattle.cidr.specs.either.IpAddress.{IsIpText}
use Rattle.cidr.specs.either.IpNetwork.{lone_network}
use Rattle.cidr.specs.internal.Reading.{WritesParts}
use Rattle.cidr.specs.internal.Joined.{JoinsParts, JoinsNone}
use Rattle.cidr.specs.declared.addr.ip.IpAddr.{IpAddr}
use Rattle.cidr.specs.declared.addr.ip.IpAddr.TheVariants as address
use Rattle.cidr.specs.declared.cidr.combined.IpCidr.{IpCidr}
use Rattle.cidr.specs.declared.cidr.combined.IpCidr.TheVariants.{V4, V6}
use Rattle.cidr.proofs.PartLaws.{writes-push, writes-few, writes-zeros}
use Rattle.cidr.proofs.Cuts.{Lacks-length, one_length}
use Rattle.cidr.proofs.JoinedReading.{joined_octets, joined_map, some_last}
use Rattle.cidr.proofs.Ipv4Grammar.{one_joined, Lacks-joined}
use Rattle.cidr.proofs.Ipv6Grammar.{ipv6_grammar}
use Rattle.cidr.proofs.LooseGrammar.{has_colon}

length_fits : (text : List ℕ) (n : ℕ) → IsLengthText text n → n < 256
length_fits text n (inl h) = h.2
length_fits text n (inr (_, _, h)) = h.2

pub one_short_text : (text : List ℕ) (p q : List Bool) → IsShortText text p → IsShortText text q → p ≡ q
one_short_text text p q h k =
    h.value ∙ ap octet_bits (one_joined IsLengthText (λ t n. Lacks-length dot t n (omega arith) (omega arith)) one_length text h.octets k.octets h.joined k.joined) ∙ sym k.value

-- ---- what the reader makes of the parts
module _ (text : List ℕ) (front count last : ℕ) (h : JoinsParts IsLengthText text front count last) where
  last_fits : last < 256
  last_fits = (joined_octets IsLengthText (λ n. n < 256) length_fits text h.octets last h.joined).1

  whole : WritesParts 8 (h.octets ++ last ∷ []) (front * 256 + last)
  whole = writes-push 8 h.octets front last h.number last_fits

  pub whole_fits : front * 256 + last < 2 ^ 32
  whole_fits = writes-few 8 (h.octets ++ last ∷ []) (front * 256 + last) 4 whole (omega (arith, h.fit.0, length-append h.octets (last ∷ [])))

  pub short_value : IsShortText text (take (32 - (24 - 8 * count)) (bits 32 ((front * 256 + last) * 2 ^ (24 - 8 * count) % 2 ^ 32)))
  short_value =
      let all = h.octets ++ last ∷ [] in
      let many : length all ≡ count + 1 = omega (arith, h.many, length-append h.octets (last ∷ [])) in
      let missing = 24 - 8 * count in
      let len : 32 - missing ≡ 8 * length all = omega (arith, h.fit.0, h.many) in
      let width : 32 ≡ 8 * length all + missing = omega (arith, h.fit.0, h.many) in
      let number = front * 256 + last in
      let kept : number * 2 ^ missing % 2 ^ 32 ≡ number * 2 ^ missing + 0 = shl_whole number (8 * length all) missing 32 whole.fits (omega arith) ∙ omega arith in
      let split : bits 32 (number * 2 ^ missing + 0) ≡ bits (8 * length all) number ++ bits missing 0 =
      ap (λ w. bits w (number * 2 ^ missing + 0)) width ∙ bits-cat (8 * length all) missing number 0 (pow_pos missing) in
      record {
        octets = all;
        few = omega (arith, h.fit.0, h.many);
        joined = h.joined;
        value = rw (len, kept, split) (take_at (bits (8 * length all) number) (bits missing 0) (8 * length all) (length-bits (8 * length all) number) ∙ whole.value);
      }

pub no_short : (text : List ℕ) → JoinsNone IsLengthText text → (p : List Bool) → ¬ (IsShortText text p)
no_short text none p h =
    let (octets, last, e) = some_last IsLengthText text h.octets h.joined in
    let joined : IsJoined IsLengthText text (octets ++ last ∷ []) = subst (IsJoined IsLengthText text) e h.joined in
    let (fit, _) = joined_octets IsLengthText (λ n. n < 256) length_fits text octets last joined in
    none octets last (omega (arith, h.few, ap length e, length-append octets (last ∷ [])), fit) joined

-- ---- the network of octets
pub length-octet_bits : (octets : List ℕ) → length (octet_bits octets) ≡ 8 * length octets
length-octet_bits [] = refl
length-octet_bits (o ∷ octets) = omega (arith, length-append (bits 8 o) (octet_bits octets), length-bits 8 o, length-octet_bits octets)

pub first_of-octets : (octets : List ℕ) → length octets ≤ 4 → first_of 32 (octet_bits octets) ≡ octet_bits (octets ++ replicate (4 - length octets) 0)
first_of-octets octets few =
    let m = 4 - length octets in
    let len : 32 - length (octet_bits octets) ≡ 8 * length (replicate {A = ℕ} m 0) = omega (arith, length-octet_bits octets, length-replicate {A = ℕ} m 0) in
    let none : zeros (32 - length (octet_bits octets)) ≡ octet_bits (replicate m 0) = ap zeros len ∙ sym (bits-zero (8 * length (replicate {A = ℕ} m 0))) ∙ (writes-zeros 8 m).value in
    ap (λ t. octet_bits octets ++ t) none ∙ sym (flat_map-append (bits 8) octets (replicate m 0))

-- ---- strict texts
octet_is_length : (text : List ℕ) (n : ℕ) → IsOctetText text n → IsLengthText text n
octet_is_length text n h = inl (h.digits, h.value, h.fits)

pub strict_is_short : (text : List ℕ) (a : List Bool) → IsIpv4Text text a → IsShortText text a
strict_is_short text a h = record {
  octets = h.octets;
  few = omega (arith, h.four);
  joined = joined_map IsOctetText IsLengthText octet_is_length text h.octets h.joined;
  value = h.value;
}

-- ---- either family
Lacks-short_text : (text : List ℕ) (p : List Bool) → IsShortText text p → Lacks colon text
Lacks-short_text text p h = Lacks-joined IsLengthText colon (λ t n. Lacks-length colon t n (omega arith) (omega arith)) (omega arith) text h.octets h.joined

pub one_short_ip : (text : List ℕ) (p q : IpCidr) → IsShortIpText text p → IsShortIpText text q → p ≡ q
one_short_ip text (V4 p) (V4 q) h k = ap V4 (one_short_text text p q h k)
one_short_ip text (V4 p) (V6 q) h k = absurd (has_colon text q k (Lacks-short_text text p h))
one_short_ip text (V6 p) (V4 q) h k = absurd (has_colon text p h (Lacks-short_text text q k))
one_short_ip text (V6 p) (V6 q) h k = ap V6 (ipv6_grammar.one_value text p q h k)

-- a strict text of either family is the network of its address alone
pub strict_ip_is_short : (text : List ℕ) (a : IpAddr) → IsIpText text a → IsShortIpText text (lone_network a)
strict_ip_is_short text (address.V4 a) h = strict_is_short text a h
strict_ip_is_short text (address.V6 a) h = h

pub no_short_ip : (text : List ℕ) → ((a : IpAddr) → ¬ (IsIpText text a)) → ((p : List Bool) → ¬ (IsShortText text p)) → (p : IpCidr) → ¬ (IsShortIpText text p)
no_short_ip text strict short (V4 p) = short p
no_short_ip text strict short (V6 p) = strict (address.V6 p)
