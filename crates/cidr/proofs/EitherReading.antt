-- What reading a network or a host of either family gives, from what reading its parts gave.
use Rattle.std.proofs.Common.{◌≡◌, ◌≢◌, ℕ, Bool, false, List, codes, bytes_eq, Result, Ok, Err, refl, sym, ◌∙◌, subst, inl, inr}
use Rattle.std.proofs.lemmas.Bool.{false≢true}
use Rattle.std.proofs.lemmas.Slice.Eq.{bytes_eq-Decides}
use Rattle.cidr.specs.model.Views.{seen}
use Rattle.cidr.specs.model.Host.{Host, host_from}
use Rattle.cidr.specs.model.Network.{network_from}
use Rattle.cidr.specs.texts.AddressText.{IsAddressText, Reads}
use Rattle.cidr.specs.texts.NetworkText.{IsLengthText, IsNetworkText}
use Rattle.cidr.specs.texts.Parsing.{ReadsSlashed}
use Rattle.cidr.specs.texts.Refusal.{Lacks, CutsAtLastSlash, IsAddressPart, IsRefused}
use Rattle.cidr.specs.texts.HostText.{IsHostText}
use Rattle.cidr.specs.texts.Messages.{ip_error}
use Rattle.cidr.specs.either.IpAddress.{IsIpText}
use Rattle.cidr.specs.either.IpNetwork.{network_family, network_prefix, ip_network_from}
use Rattle.cidr.specs.either.IpHost.{host_family, host_parts, ip_host_from}
use Rattle.cidr.specs.either.IpText.{IsIpNetworkText, IsIpRefused, ReadsIpNetwork, ReadsAnyNetwork, IsAnyNetworkText, IsIpHostText, ReadsIpHost}
use Rattle.cidr.proofs.Cuts.{not_lacking, one_cut}
use Rattle.cidr.proofs.EitherAddresses.{one_family}
use Rattle.cidr.proofs.NetworkReading.{ReadsNetworkAs, ReadsHostAs, reads_no_length, reads_new, host_no_length, host_too_long}
use Rattle.cidr.proofs.NetworkTexts.{whole_not_cut, same_cut, some_host, refused_none, refused_no_host}
use Rattle.cidr.specs.model.Errors.{AddressError}
use Rattle.cidr.specs.declared.addr.ip.IpAddr.{IpAddr}
use Rattle.cidr.specs.declared.addr.ip.IpAddr.TheVariants as address
use Rattle.cidr.specs.declared.cidr.any.AnyIpCidr.{AnyIpCidr}
use Rattle.cidr.specs.declared.cidr.any.AnyIpCidr.TheVariants as any_network
use Rattle.cidr.specs.declared.cidr.combined.IpCidr.{IpCidr}
use Rattle.cidr.specs.declared.cidr.combined.IpCidr.TheVariants.{V4, V6}
use Rattle.cidr.specs.model.Errors.{LengthError}
use Rattle.cidr.specs.declared.errors.NetworkParseError.{NetworkParseError}
use Rattle.cidr.specs.declared.errors.NetworkParseError.TheVariants as parse_error
use Rattle.cidr.specs.declared.errors.ParseIntError.{ParseIntError}
use Rattle.cidr.specs.declared.family.Family.{Family}
use Rattle.cidr.specs.declared.family.Family.TheVariants.{Ipv4, Ipv6}
use Rattle.cidr.specs.declared.inet.combined.IpInet.{IpInet}
use Rattle.cidr.specs.declared.inet.combined.IpInet.TheVariants as host

-- a text of a value of either family is one of the value's family
pub network_text_of : (text : List ℕ) (n : IpCidr) → IsIpNetworkText text n → IsNetworkText (network_family n) text (network_prefix n)
network_text_of text (V4 p) h = h
network_text_of text (V6 p) h = h

pub host_text_of : (text : List ℕ) (h : IpInet) → IsIpHostText text h → IsHostText (host_family h) text (host_parts h)
host_text_of text (host.V4 h) k = k
host_text_of text (host.V6 h) k = k

-- an error other than the address's is that of the address's family
refused_in : (family : Family) (text : List ℕ) (e : NetworkParseError) → IsRefused family ip_error text e → ((a : AddressError) → e ≢ parse_error.AddrParseError a) → IsIpRefused text e
refused_in family text (parse_error.AddrParseError a) h other = absurd (other a refl)
refused_in family text (parse_error.NetworkLengthParseError a) h other = (family, h)
refused_in family text (parse_error.NetworkLengthTooLongError a) h other = (family, h)
refused_in family text parse_error.InvalidHostPart h other = (family, h)

-- Where an address of a family stands before the last slash, reading in that family is reading in both.
module _ (text front back : List ℕ) (family : Family) (a : List Bool) (cut : CutsAtLastSlash text front back) (h : IsAddressText family front a) where
  same_family : (other : Family) (host : Host) → IsHostText other text host → other ≡ family
  same_family other host (inl whole) = absurd (whole_not_cut other text front back host.address whole.0 cut)
  same_family other host (inr s) =
      one_family front other family host.address a (subst (λ t. IsAddressText other t host.address) (sym (same_cut other text front back host s cut).0) s.front_text) h

  address_found : (e : AddressError) → ¬ (IsRefused family ip_error text (parse_error.AddrParseError e))
  address_found e (_, part, inl (lacks, same), none) = not_lacking 47 front back (subst (Lacks 47) cut.0 lacks)
  address_found e (_, part, inr (behind, other), none) =
      let same = one_cut 47 front back part behind (sym cut.0 ∙ other.0) cut.1 other.1 in
      none a (subst (λ t. IsAddressText family t a) same.0 h)

  refused_here : (e : NetworkParseError) → IsRefused family ip_error text e → IsIpRefused text e
  refused_here e r = refused_in family text e r (λ x same. address_found x (subst (IsRefused family ip_error text) same r))

  no_network : ((p : List Bool) → ¬ (IsNetworkText family text p)) → (n : IpCidr) → ¬ (IsIpNetworkText text n)
  no_network none n t =
      let own = network_text_of text n t in
      let (host, s) = some_host (network_family n) text (network_prefix n) own in
      none (network_prefix n) (subst (λ f. IsNetworkText f text (network_prefix n)) (same_family (network_family n) host s) own)

  -- of a network that is made of the bits of this family
  reads_network_in : (made : List Bool → IpCidr) → ((p : List Bool) → IsNetworkText family text p → IsIpNetworkText text (made p))
      → (r : Result (List Bool) NetworkParseError) → ReadsNetworkAs family ip_error text r → ReadsIpNetwork text (seen made r)
  reads_network_in made spelled (Ok p) k = spelled p k
  reads_network_in made spelled (Err e) k = (refused_here e k.0, no_network k.1)

  reads_host_in : (e : NetworkParseError) → ReadsHostAs family ip_error text (Err e) → ReadsIpHost text (Err e)
  reads_host_in e k = ((refused_here e k.0.0, k.0.1), none)
    where
      none : (h : IpInet) → ¬ (IsIpHostText text h)
      none h t =
          let own = host_text_of text h t in
          k.1 (host_parts h) (subst (λ f. IsHostText f text (host_parts h)) (same_family (host_family h) (host_parts h) own) own)

-- ---- the exits of the readers
-- neither family has an address there
refused_address : (text part : List ℕ) (e : AddressError) → IsAddressPart text part → Reads IsIpText ip_error part (Err e)
    → (family : Family) → IsRefused family ip_error text (parse_error.AddrParseError e)
refused_address text part e is h Ipv4 = (h.0, part, is, λ a. h.1 (address.V4 a))
refused_address text part e is h Ipv6 = (h.0, part, is, λ a. h.1 (address.V6 a))

pub ip_no_address : (text part : List ℕ) (e : AddressError) → IsAddressPart text part → Reads IsIpText ip_error part (Err e) → ReadsIpNetwork text (Err (parse_error.AddrParseError e))
ip_no_address text part e is h =
    let refused = refused_address text part e is h in
    (refused, λ n t. refused_none (network_family n) ip_error text (parse_error.AddrParseError e) (network_prefix n) (refused (network_family n)) (network_text_of text n t))

pub ip_no_length : (text front back : List ℕ) (a : IpAddr) (e : ParseIntError) → CutsAtLastSlash text front back → IsIpText front a
    → Reads IsLengthText (record {}) back (Err e) → ReadsIpNetwork text (Err (parse_error.NetworkLengthParseError e))
ip_no_length text front back (address.V4 a) e cut h l =
    reads_network_in text front back Ipv4 a cut h V4 (λ p k. k) (Err (parse_error.NetworkLengthParseError e)) (reads_no_length Ipv4 ip_error text front back a e cut h l)
ip_no_length text front back (address.V6 a) e cut h l =
    reads_network_in text front back Ipv6 a cut h V6 (λ p k. k) (Err (parse_error.NetworkLengthParseError e)) (reads_no_length Ipv6 ip_error text front back a e cut h l)

pub ip_reads_new : (text front back : List ℕ) (a : IpAddr) (n : ℕ) → CutsAtLastSlash text front back → IsIpText front a → IsLengthText back n → ReadsIpNetwork text (ip_network_from a n)
ip_reads_new text front back (address.V4 a) n cut h l =
    reads_network_in text front back Ipv4 a cut h V4 (λ p k. k) (network_from Ipv4 a n) (reads_new Ipv4 ip_error text front back a n cut h l)
ip_reads_new text front back (address.V6 a) n cut h l =
    reads_network_in text front back Ipv6 a cut h V6 (λ p k. k) (network_from Ipv6 a n) (reads_new Ipv6 ip_error text front back a n cut h l)

-- what an address and a length make
abbrev pub MakesIpNetwork : IpAddr → ℕ → Result IpCidr NetworkParseError → Type 0
MakesIpNetwork a n r = r ≡ ip_network_from a n

-- a text with a slash, by what reading the part before it gave
pub ip_slashed_read : (Makes : IpAddr → ℕ → Result IpCidr NetworkParseError → Type 0) (text front back : List ℕ)
    (returned : Result IpAddr AddressError) (r : Result IpCidr NetworkParseError) → ((a : IpAddr) (n : ℕ) → Makes a n r → MakesIpNetwork a n r)
    → CutsAtLastSlash text front back → Reads IsIpText ip_error front returned → ReadsSlashed Makes returned back r → ReadsIpNetwork text r
ip_slashed_read Makes text front back (Err x) r made cut known h = rw h (ip_no_address text front x (inr (back, cut)) known)
ip_slashed_read Makes text front back (Ok a) r made cut known (inl (n, l, h)) = rw (made a n h) (ip_reads_new text front back a n cut known l)
ip_slashed_read Makes text front back (Ok a) r made cut known (inr (none, h)) = rw h (ip_no_length text front back a (record {}) cut known (refl, none))

pub ip_host_no_address : (text part : List ℕ) (e : AddressError) → IsAddressPart text part → Reads IsIpText ip_error part (Err e) → ReadsIpHost text (Err (parse_error.AddrParseError e))
ip_host_no_address text part e is h =
    let refused = refused_address text part e is h in
    ((refused, λ x. cc), λ h t. refused_no_host (host_family h) ip_error text (parse_error.AddrParseError e) (host_parts h) (refused (host_family h), λ x. cc) (host_text_of text h t))

pub ip_host_no_length : (text front back : List ℕ) (a : IpAddr) (e : ParseIntError) → CutsAtLastSlash text front back → IsIpText front a
    → Reads IsLengthText (record {}) back (Err e) → ReadsIpHost text (Err (parse_error.NetworkLengthParseError e))
ip_host_no_length text front back (address.V4 a) e cut h l =
    reads_host_in text front back Ipv4 a cut h (parse_error.NetworkLengthParseError e) (host_no_length Ipv4 ip_error text front back a e cut h l)
ip_host_no_length text front back (address.V6 a) e cut h l =
    reads_host_in text front back Ipv6 a cut h (parse_error.NetworkLengthParseError e) (host_no_length Ipv6 ip_error text front back a e cut h l)

same_refusal : {N V E : Type 0} (view : N → V) (r : Result N E) (e : E) → seen view r ≡ Err e → r ≡ Err e
same_refusal view (Ok x) e h = absurd (cc)
same_refusal view (Err d) e h = cc

pub ip_host_too_long : (text front back : List ℕ) (a : IpAddr) (n : ℕ) (e : LengthError) → CutsAtLastSlash text front back
    → IsIpText front a → IsLengthText back n → ip_host_from a n ≡ Err e → ReadsIpHost text (Err (parse_error.NetworkLengthTooLongError e))
ip_host_too_long text front back (address.V4 a) n e cut h l refused =
    let same = same_refusal host.V4 (host_from Ipv4 a n) e refused in
    reads_host_in text front back Ipv4 a cut h (parse_error.NetworkLengthTooLongError e) (host_too_long Ipv4 ip_error text front back a n e cut h l same)
ip_host_too_long text front back (address.V6 a) n e cut h l refused =
    let same = same_refusal host.V6 (host_from Ipv6 a n) e refused in
    reads_host_in text front back Ipv6 a cut h (parse_error.NetworkLengthTooLongError e) (host_too_long Ipv6 ip_error text front back a n e cut h l same)

-- a text that is found other than `any`
pub not_any : (text : List ℕ) → bytes_eq text (codes "any") ≡ false → text ≢ codes "any"
not_any text other same = false≢true (sym other ∙ (bytes_eq-Decides text (codes "any")).1 same)

-- a text other than `any` that spells no network of a family
pub any_refused : (text : List ℕ) (e : NetworkParseError) → text ≢ codes "any" → ReadsIpNetwork text (Err e) → ReadsAnyNetwork text (Err e)
any_refused text e other h = (h.0, none)
  where
    none : (n : AnyIpCidr) → ¬ (IsAnyNetworkText text n)
    none any_network.Any = other
    none (any_network.V4 p) = h.1 (V4 p)
    none (any_network.V6 p) = h.1 (V6 p)
