-- Parsing around the strict reader of addresses is strict reading, of networks and hosts of one family and of hosts of either.
use Rattle.std.proofs.Common.{◌≡◌, ℕ, ◌<◌, ◌≤◌, Bool, List, Result, Ok, Err, refl, sym, ap, ◌∙◌, inl, inr}
use Rattle.std.proofs.lemmas.Bool.{cases_lt, lt-ltb, le-ltb}
use Rattle.cidr.specs.either.IpAddress.{IsIpText, address_family, plain_bits}
use Rattle.cidr.specs.either.IpHost.{host_family, host_parts, lone_ip_host}
use Rattle.cidr.specs.either.IpText.{ReadsIpHost}
use Rattle.cidr.specs.model.Host.{Host, lone_host, host_from, host_of}
use Rattle.cidr.specs.model.Network.{width_of, network_from, too_long}
use Rattle.cidr.specs.model.Views.{seen, in_family}
use Rattle.cidr.specs.texts.AddressText.{IsAddressText, Reads, address_error}
use Rattle.cidr.specs.texts.HostText.{ReadsHost}
use Rattle.cidr.specs.texts.Messages.{ip_error}
use Rattle.cidr.specs.texts.NetworkText.{IsLengthText}
use Rattle.cidr.specs.texts.Parsing.{strict_network, made_host, lone_made, MadeBy, MadeAlone, ReadsSlashed}
use Rattle.cidr.specs.texts.Refusal.{Lacks, CutsAtLastSlash, ReadsNetwork}
use Rattle.cidr.specs.texts.Results.{ParsesAround}
use Rattle.cidr.proofs.EitherReading.{ip_host_no_address, ip_host_no_length, ip_host_too_long}
use Rattle.cidr.proofs.NetworkReading.{reads_no_address, network_slashed_read, host_no_address, host_no_front, host_no_length, host_too_long}
use Rattle.cidr.proofs.Views.{seen-itself, seen_injective}
use Rattle.cidr.specs.model.Errors.{AddressError}
use Rattle.cidr.specs.declared.addr.ip.IpAddr.{IpAddr}
use Rattle.cidr.specs.declared.addr.ip.IpAddr.TheVariants as address
use Rattle.cidr.specs.declared.errors.NetworkParseError.{NetworkParseError}
use Rattle.cidr.specs.declared.errors.NetworkParseError.TheVariants as parse_error
use Rattle.cidr.specs.declared.family.Family.{Family}
use Rattle.cidr.specs.declared.family.Family.TheVariants.{Ipv4, Ipv6}
use Rattle.cidr.specs.declared.inet.combined.IpInet.{IpInet}
use Rattle.cidr.specs.declared.inet.combined.IpInet.TheVariants as host

-- ---- one family: a value is shown by its family and itself
module _ (family : Family) where
  abbrev shown : {V : Type 0} → V → Family × V
  shown = in_family (λ _. family) (λ v. v)

  same_result : {V : Type 0} (r s : Result V NetworkParseError) → seen shown r ≡ seen shown s → r ≡ s
  same_result = seen_injective shown (λ x y h. ap (λ p. p.1) h)

  -- where the address that was read is known
  module _ (text front back : List ℕ) (cut : CutsAtLastSlash text front back) where
    host_made : (a : List Bool) (n : ℕ) (r : Result Host NetworkParseError) → IsAddressText family front a → IsLengthText back n
        → seen shown r ≡ made_host (family, a) n → ReadsHost family text r
    host_made a n r h l e =
        elim (cases_lt (width_of family) n) [
          | inl over ↦
              let refused : made_host (family, a) n ≡ Err (parse_error.NetworkLengthTooLongError (too_long n family)) = rw (lt-ltb (width_of family) n over) refl in
              let same : host_from family a n ≡ Err (too_long n family) = rw (lt-ltb (width_of family) n over) refl in
              rw (same_result r (Err (parse_error.NetworkLengthTooLongError (too_long n family))) (e ∙ refused))
              (host_too_long family (address_error family) text front back a n (too_long n family) cut h l same)
          | inr within ↦
              let made : made_host (family, a) n ≡ Ok (family, host_of a n) = rw (le-ltb (width_of family) n within) refl in
              rw (same_result r (Ok (host_of a n)) (e ∙ made)) (inr (record { front = front; back = back; spelled = cut.0; front_text = h; back_text = l; fits = within }))
        ]

    host_slashed : (returned : Result (List Bool) AddressError) (r : Result Host NetworkParseError) → Reads (IsAddressText family) (address_error family) front returned
        → ReadsSlashed (MadeBy shown shown made_host) returned back r → ReadsHost family text r
    host_slashed (Err x) r known h = rw h (host_no_front family (address_error family) text front back x cut known)
    host_slashed (Ok a) r known (inl (n, l, h)) = host_made a n r known l h
    host_slashed (Ok a) r known (inr (none, h)) = rw h (host_no_length family (address_error family) text front back a (record {}) cut known (refl, none))

    network_slashed : (returned : Result (List Bool) AddressError) (r : Result (List Bool) NetworkParseError) → Reads (IsAddressText family) (address_error family) front returned
        → ReadsSlashed (MadeBy shown shown strict_network) returned back r → ReadsNetwork family text r
    network_slashed returned r known =
        network_slashed_read family (address_error family) (λ a. a) (MadeBy shown shown strict_network) text front back returned r
        (λ a n h. same_result r (network_from family a n) h) cut (rw (seen-itself returned) known)

  module _ (Asked : List ℕ → Result (List Bool) AddressError → Type 0)
      (known : (text : List ℕ) (returned : Result (List Bool) AddressError) → Asked text returned → Reads (IsAddressText family) (address_error family) text returned)
      (text : List ℕ) where
    network_whole : (returned : Result (List Bool) AddressError) (r : Result (List Bool) NetworkParseError) → Lacks 47 text → Asked text returned
        → MadeAlone shown shown (λ a. a) returned r → ReadsNetwork family text r
    network_whole (Ok a) r lacks asked h = rw (same_result r (Ok a) h) (inl (known text (Ok a) asked))
    network_whole (Err x) r lacks asked h =
        rw (same_result r (Err (parse_error.AddrParseError x)) h) (reads_no_address family (address_error family) text x lacks (known text (Err x) asked))

    pub network_parsed : (r : Result (List Bool) NetworkParseError) → ParsesAround Asked shown shown strict_network (λ a. a) text r → ReadsNetwork family text r
    network_parsed r (inl (lacks, (returned, asked, h))) = network_whole returned r lacks asked h
    network_parsed r (inr h) = network_slashed text h.front h.back h.cut h.returned r (known h.front h.returned h.asked) h.follows

    host_whole : (returned : Result (List Bool) AddressError) (r : Result Host NetworkParseError) → Lacks 47 text → Asked text returned
        → MadeAlone shown shown lone_made returned r → ReadsHost family text r
    host_whole (Ok a) r lacks asked h = rw (same_result r (Ok (lone_host (width_of family) a)) h) (inl (known text (Ok a) asked, refl))
    host_whole (Err x) r lacks asked h =
        rw (same_result r (Err (parse_error.AddrParseError x)) h) (host_no_address family (address_error family) text x lacks (known text (Err x) asked))

    pub host_parsed : (r : Result Host NetworkParseError) → ParsesAround Asked shown shown made_host lone_made text r → ReadsHost family text r
    host_parsed r (inl (lacks, (returned, asked, h))) = host_whole returned r lacks asked h
    host_parsed r (inr h) = host_slashed text h.front h.back h.cut h.returned r (known h.front h.returned h.asked) h.follows

-- ---- hosts of either family
abbrev parts : IpInet → Family × Host
parts = in_family host_family host_parts

abbrev located : IpAddr → Family × List Bool
located = in_family address_family plain_bits

same_host : (a b : IpInet) → parts a ≡ parts b → a ≡ b
same_host (host.V4 a) (host.V4 b) h = ap (λ x. host.V4 x.1) h
same_host (host.V4 a) (host.V6 b) h =
    let same : Ipv4 ≡ Ipv6 = ap (λ x. x.0) h in
    cc
same_host (host.V6 a) (host.V4 b) h =
    let same : Ipv6 ≡ Ipv4 = ap (λ x. x.0) h in
    cc
same_host (host.V6 a) (host.V6 b) h = ap (λ x. host.V6 x.1) h

same_ip_result : (r s : Result IpInet NetworkParseError) → seen parts r ≡ seen parts s → r ≡ s
same_ip_result = seen_injective parts same_host

lone_ip_spelled : (text : List ℕ) (a : IpAddr) → IsIpText text a → ReadsIpHost text (Ok (lone_ip_host a))
lone_ip_spelled text (address.V4 a) h = inl (h, refl)
lone_ip_spelled text (address.V6 a) h = inl (h, refl)

shown_lone : (a : IpAddr) → parts (lone_ip_host a) ≡ lone_made (located a)
shown_lone (address.V4 a) = refl
shown_lone (address.V6 a) = refl

-- the host of an address and a length within the width
abbrev ip_host_of : IpAddr → ℕ → IpInet
ip_host_of (address.V4 a) n = host.V4 (host_of a n)
ip_host_of (address.V6 a) n = host.V6 (host_of a n)

module _ (text front back : List ℕ) (cut : CutsAtLastSlash text front back) where
  ip_over : (a : IpAddr) (n : ℕ) → IsIpText front a → IsLengthText back n → width_of (address_family a) < n
      → ReadsIpHost text (Err (parse_error.NetworkLengthTooLongError (too_long n (address_family a))))
  ip_over (address.V4 a) n h l over =
      ip_host_too_long text front back (address.V4 a) n (too_long n Ipv4) cut h l (rw (lt-ltb 32 n over) refl)
  ip_over (address.V6 a) n h l over =
      ip_host_too_long text front back (address.V6 a) n (too_long n Ipv6) cut h l (rw (lt-ltb 128 n over) refl)

  ip_within : (a : IpAddr) (n : ℕ) → IsIpText front a → IsLengthText back n → n ≤ width_of (address_family a) → ReadsIpHost text (Ok (ip_host_of a n))
  ip_within (address.V4 a) n h l within = inr (record { front = front; back = back; spelled = cut.0; front_text = h; back_text = l; fits = within })
  ip_within (address.V6 a) n h l within = inr (record { front = front; back = back; spelled = cut.0; front_text = h; back_text = l; fits = within })

  shown_of : (a : IpAddr) (n : ℕ) → parts (ip_host_of a n) ≡ (address_family a, host_of (plain_bits a) n)
  shown_of (address.V4 a) n = refl
  shown_of (address.V6 a) n = refl

  ip_made : (a : IpAddr) (n : ℕ) (r : Result IpInet NetworkParseError) → IsIpText front a → IsLengthText back n
      → seen parts r ≡ made_host (located a) n → ReadsIpHost text r
  ip_made a n r h l e =
      let w = width_of (address_family a) in
      elim (cases_lt w n) [
        | inl over ↦
            let error : NetworkParseError = parse_error.NetworkLengthTooLongError (too_long n (address_family a)) in
            let refused : made_host (located a) n ≡ Err error = rw (lt-ltb w n over) refl in
            rw (same_ip_result r (Err error) (e ∙ refused)) (ip_over a n h l over)
        | inr within ↦
            let made : made_host (located a) n ≡ Ok (address_family a, host_of (plain_bits a) n) = rw (le-ltb w n within) refl in
            rw (same_ip_result r (Ok (ip_host_of a n)) (e ∙ made ∙ sym (ap Ok (shown_of a n)))) (ip_within a n h l within)
      ]

  ip_slashed : (returned : Result IpAddr AddressError) (r : Result IpInet NetworkParseError) → Reads IsIpText ip_error front returned
      → ReadsSlashed (MadeBy located parts made_host) returned back r → ReadsIpHost text r
  ip_slashed (Err x) r known h = rw h (ip_host_no_address text front x (inr (back, cut)) known)
  ip_slashed (Ok a) r known (inl (n, l, h)) = ip_made a n r known l h
  ip_slashed (Ok a) r known (inr (none, h)) = rw h (ip_host_no_length text front back a (record {}) cut known (refl, none))

module _ (Asked : List ℕ → Result IpAddr AddressError → Type 0)
    (known : (text : List ℕ) (returned : Result IpAddr AddressError) → Asked text returned → Reads IsIpText ip_error text returned) (text : List ℕ) where
  ip_whole : (returned : Result IpAddr AddressError) (r : Result IpInet NetworkParseError) → Lacks 47 text → Asked text returned
      → MadeAlone located parts lone_made returned r → ReadsIpHost text r
  ip_whole (Ok a) r lacks asked h = rw (same_ip_result r (Ok (lone_ip_host a)) (h ∙ sym (ap Ok (shown_lone a)))) (lone_ip_spelled text a (known text (Ok a) asked))
  ip_whole (Err x) r lacks asked h =
      rw (same_ip_result r (Err (parse_error.AddrParseError x)) h) (ip_host_no_address text text x (inl (lacks, refl)) (known text (Err x) asked))

  pub ip_host_parsed : (r : Result IpInet NetworkParseError) → ParsesAround Asked located parts made_host lone_made text r → ReadsIpHost text r
  ip_host_parsed r (inl (lacks, (returned, asked, h))) = ip_whole returned r lacks asked h
  ip_host_parsed r (inr h) = ip_slashed text h.front h.back h.cut h.returned r (known h.front h.returned h.asked) h.follows
