-- What a text with a slash gives around a strict reader of addresses, and one without around a short reader.
use Rattle.std.proofs.Common.{◌≡◌, ℕ, Bool, List, Result, ap, subst, inl, inr}
use Rattle.cidr.specs.model.Network.{network_from}
use Rattle.std.specs.Borrow.{Bor}
use Rattle.cidr.specs.model.Views.{seen, in_family}
use Rattle.cidr.specs.either.IpAddress.{IsIpText, address_family, plain_bits}
use Rattle.cidr.specs.either.IpNetwork.{network_family, network_prefix}
use Rattle.cidr.specs.either.IpText.{ReadsIpNetwork}
use Rattle.cidr.specs.texts.AddressText.{IsAddressText, Reads}
use Rattle.cidr.specs.texts.Messages.{ipv4_error, ip_error}
use Rattle.cidr.specs.texts.Parsing.{strict_network, MadeBy, ReadsSlashed, ReadsAround}
use Rattle.cidr.specs.texts.Refusal.{CutsAtLastSlash, ReadsNetwork}
use Rattle.cidr.specs.texts.ShortText.{IsShortIpText, ReadsShort}
use Rattle.cidr.proofs.EitherParsing.{slashed_read}
use Rattle.cidr.proofs.NetworkReading.{network_slashed_read}
use Rattle.cidr.proofs.Views.{seen-itself, seen_injective}
use Rattle.cidr.specs.model.Errors.{AddressError}
use Rattle.cidr.specs.declared.addr.ip.IpAddr.{IpAddr}
use Rattle.cidr.specs.declared.cidr.combined.IpCidr.{IpCidr}
use Rattle.cidr.specs.declared.errors.NetworkParseError.{NetworkParseError}
use Rattle.cidr.specs.declared.errors.NetworkParseError.TheVariants as parse_error
use Rattle.cidr.specs.declared.family.Family.{Family}
use Rattle.cidr.specs.declared.family.Family.TheVariants.{Ipv4}

abbrev in_ipv4 : List Bool → Family × List Bool
in_ipv4 p = (Ipv4, p)

same_bits : (r s : Result (List Bool) NetworkParseError) → seen in_ipv4 r ≡ seen in_ipv4 s → r ≡ s
same_bits = seen_injective in_ipv4 (λ p q h. ap (λ x. x.1) h)

pub ipv4_slashed_read : (text front back : List ℕ) (returned : Result (List Bool) AddressError) (r : Result (List Bool) NetworkParseError)
    → CutsAtLastSlash text front back → Reads (IsAddressText Ipv4) ipv4_error front returned
    → ReadsSlashed (MadeBy in_ipv4 in_ipv4 strict_network) returned back r → ReadsNetwork Ipv4 text r
ipv4_slashed_read text front back returned r cut known =
    network_slashed_read Ipv4 ipv4_error (λ a. a) (MadeBy in_ipv4 in_ipv4 strict_network) text front back returned r
    (λ a n h. same_bits r (network_from Ipv4 a n) h) cut (rw (seen-itself returned) known)

-- ---- of either family
-- what a function that is called at a text gave
abbrev CalledAt : {R : Type 0} → (List ℕ → R → Type 0) → List ℕ → R → Type 0
CalledAt Gives text r = (p : Bor (List ℕ)) × Gives p.now r × (p.now ≡ text)

pub short_ip_read : {Asked : List ℕ → Result IpAddr AddressError → Type 0} {Whole : List ℕ → Result IpCidr NetworkParseError → Type 0}
    (text : List ℕ) (r : Result IpCidr NetworkParseError)
    → ReadsAround Asked (MadeBy (in_family address_family plain_bits) (in_family network_family network_prefix) strict_network) Whole text r
    → ((text : List ℕ) (returned : Result IpAddr AddressError) → Asked text returned → CalledAt (Reads IsIpText ip_error) text returned)
    → ((text : List ℕ) (r : Result IpCidr NetworkParseError) → Whole text r → CalledAt (Reads IsShortIpText (parse_error.AddrParseError ip_error)) text r)
    → ReadsShort (Reads IsShortIpText (parse_error.AddrParseError ip_error)) ReadsIpNetwork text r
short_ip_read text r (inl (lacks, h)) asked whole =
    let read = whole text r h in
    inl (lacks, subst (λ t. Reads IsShortIpText (parse_error.AddrParseError ip_error) t r) read.2 read.1)
short_ip_read {Asked} text r (inr h) asked whole =
    inr (h.front, h.back, h.cut, slashed_read Asked (λ t x k. subst (λ s. Reads IsIpText ip_error s x) (asked t x k).2 (asked t x k).1) text h.front h.back h.returned r h.cut h.asked h.follows)
