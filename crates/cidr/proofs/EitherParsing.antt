-- What parsing around the strict reader of addresses of either family gives: strict reading.
use Rattle.std.proofs.Common.{◌≡◌, ◌≢◌, ℕ, Bool, List, codes, Result, Ok, Err, refl, sym, ap, ◌∙◌, inl, inr}
use Rattle.cidr.specs.model.Network.{network_from}
use Rattle.cidr.specs.model.Views.{seen, in_family}
use Rattle.cidr.specs.either.IpAddress.{IsIpText, address_family, plain_bits}
use Rattle.cidr.specs.either.IpNetwork.{network_family, network_prefix, lone_network, ip_network_from, any_of}
use Rattle.cidr.specs.either.IpText.{ReadsIpNetwork, ReadsAnyNetwork, ReadsAny}
use Rattle.cidr.specs.texts.AddressText.{Reads}
use Rattle.cidr.specs.texts.Messages.{ip_error}
use Rattle.cidr.specs.texts.Parsing.{strict_network, MadeBy, MadeAlone, ReadsSlashed, ReadsAround, ReadsWhole}
use Rattle.cidr.specs.texts.Refusal.{Lacks, CutsAtLastSlash}
use Rattle.cidr.proofs.EitherReading.{ip_no_address, ip_slashed_read, any_refused}
use Rattle.cidr.proofs.Views.{seen_injective}
use Rattle.cidr.specs.model.Errors.{AddressError}
use Rattle.cidr.specs.declared.addr.ip.IpAddr.{IpAddr}
use Rattle.cidr.specs.declared.addr.ip.IpAddr.TheVariants as address
use Rattle.cidr.specs.declared.cidr.any.AnyIpCidr.{AnyIpCidr}
use Rattle.cidr.specs.declared.cidr.combined.IpCidr.{IpCidr}
use Rattle.cidr.specs.declared.cidr.combined.IpCidr.TheVariants.{V4, V6}
use Rattle.cidr.specs.declared.errors.NetworkParseError.{NetworkParseError}
use Rattle.cidr.specs.declared.errors.NetworkParseError.TheVariants as parse_error
use Rattle.cidr.specs.declared.family.Family.{Family}
use Rattle.cidr.specs.declared.family.Family.TheVariants.{Ipv4, Ipv6}

-- a network and an address, each by its family and its bits
abbrev shown : IpCidr → Family × List Bool
shown = in_family network_family network_prefix

abbrev located : IpAddr → Family × List Bool
located = in_family address_family plain_bits

-- the family and the bits tell the network
same_network : (m n : IpCidr) → shown m ≡ shown n → m ≡ n
same_network (V4 p) (V4 q) h = ap (λ x. V4 x.1) h
same_network (V4 p) (V6 q) h =
    let same : Ipv4 ≡ Ipv6 = ap (λ x. x.0) h in
    cc
same_network (V6 p) (V4 q) h =
    let same : Ipv6 ≡ Ipv4 = ap (λ x. x.0) h in
    cc
same_network (V6 p) (V6 q) h = ap (λ x. V6 x.1) h

same_result : (r s : Result IpCidr NetworkParseError) → seen shown r ≡ seen shown s → r ≡ s
same_result = seen_injective shown same_network

shown_new : (a : IpAddr) (n : ℕ) → seen shown (ip_network_from a n) ≡ strict_network (located a) n
shown_new (address.V4 a) n = by_case (network_from Ipv4 a n)
  where
    by_case : (r : Result (List Bool) NetworkParseError) → seen shown (seen V4 r) ≡ seen (λ p. (Ipv4, p)) r
    by_case (Ok p) = refl
    by_case (Err e) = refl
shown_new (address.V6 a) n = by_case (network_from Ipv6 a n)
  where
    by_case : (r : Result (List Bool) NetworkParseError) → seen shown (seen V6 r) ≡ seen (λ p. (Ipv6, p)) r
    by_case (Ok p) = refl
    by_case (Err e) = refl

-- an address text alone spells the network of this address
lone_spelled : (text : List ℕ) (a : IpAddr) → IsIpText text a → ReadsIpNetwork text (Ok (lone_network a))
lone_spelled text (address.V4 a) h = inl h
lone_spelled text (address.V6 a) h = inl h

shown_lone : (a : IpAddr) → shown (lone_network a) ≡ located a
shown_lone (address.V4 a) = refl
shown_lone (address.V6 a) = refl

-- what reading a network of either family gives is what reading one or `any` gives, where the text is not `any`
pub any_of_read : (text : List ℕ) (network : Result IpCidr NetworkParseError) → text ≢ codes "any" → ReadsIpNetwork text network
    → ReadsAnyNetwork text (seen any_of network)
any_of_read text (Ok (V4 p)) other h = h
any_of_read text (Ok (V6 p)) other h = h
any_of_read text (Err e) other h = any_refused text e other h

module _ (Asked : List ℕ → Result IpAddr AddressError → Type 0)
    (known : (text : List ℕ) (returned : Result IpAddr AddressError) → Asked text returned → Reads IsIpText ip_error text returned) (text : List ℕ) where
  whole_read : (returned : Result IpAddr AddressError) (r : Result IpCidr NetworkParseError) → Lacks 47 text → Asked text returned
      → MadeAlone located shown (λ a. a) returned r → ReadsIpNetwork text r
  whole_read (Ok a) r lacks asked h = rw (same_result r (Ok (lone_network a)) (h ∙ sym (ap Ok (shown_lone a)))) (lone_spelled text a (known text (Ok a) asked))
  whole_read (Err x) r lacks asked h =
      rw (same_result r (Err (parse_error.AddrParseError x)) h) (ip_no_address text text x (inl (lacks, refl)) (known text (Err x) asked))

  pub slashed_read : (front back : List ℕ) (returned : Result IpAddr AddressError) (r : Result IpCidr NetworkParseError) → CutsAtLastSlash text front back → Asked front returned
      → ReadsSlashed (MadeBy located shown strict_network) returned back r → ReadsIpNetwork text r
  slashed_read front back returned r cut asked =
      ip_slashed_read (MadeBy located shown strict_network) text front back returned r
      (λ a n h. same_result r (ip_network_from a n) (h ∙ sym (shown_new a n))) cut (known front returned asked)

  pub strictly_read : (r : Result IpCidr NetworkParseError)
      → ReadsAround Asked (MadeBy located shown strict_network) (ReadsWhole Asked (MadeAlone located shown (λ a. a))) text r → ReadsIpNetwork text r
  strictly_read r (inl (lacks, (returned, asked, h))) = whole_read returned r lacks asked h
  strictly_read r (inr h) = slashed_read h.front h.back h.returned r h.cut h.asked h.follows

  pub any_strictly_read : (r : Result AnyIpCidr NetworkParseError)
      → ReadsAny (ReadsAround Asked (MadeBy located shown strict_network) (ReadsWhole Asked (MadeAlone located shown (λ a. a)))) text r → ReadsAnyNetwork text r
  any_strictly_read r (inl (same, h)) = rw h same
  any_strictly_read r (inr (other, network, reads, h)) = rw h (any_of_read text network other (strictly_read network reads))
