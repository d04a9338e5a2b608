-- Compact bytes of values of either family, and of `any`.
use Rattle.std.proofs.Common.{◌≡◌, ◌≢◌, ℕ, Bool, List, [], ◌∷◌, ◌++◌, take, drop, Result, Ok, Err, refl, sym, ap, ◌∙◌, take-append-drop}
use Rattle.cidr.specs.model.Host.{Host, host_of, first_host}
use Rattle.cidr.specs.model.Network.{network_from}
use Rattle.cidr.specs.either.IpHost.{IsIpHost}
use Rattle.cidr.specs.either.IpNetwork.{IsIpNetwork, IsAnyNetwork}
use Rattle.cidr.specs.bytes.Compact.{any_tag, ip_host_bytes, ip_network_bytes, any_network_bytes, ReadsCompact}
use Rattle.cidr.specs.bytes.CompactRefusal.{HasHost, HasAny, Both, IsNetworkBytesRefused, IsHostBytesRefused, IsAnyBytesRefused}
use Rattle.cidr.specs.internal.Fronts.{IsUnreadable}
use Rattle.cidr.specs.declared.cidr.any.AnyIpCidr.{AnyIpCidr}
use Rattle.cidr.specs.declared.cidr.any.AnyIpCidr.TheVariants as any_network
use Rattle.cidr.specs.declared.cidr.combined.IpCidr.{IpCidr}
use Rattle.cidr.specs.declared.cidr.combined.IpCidr.TheVariants.{V4, V6}
use Rattle.cidr.specs.declared.errors.CompactError.{CompactError}
use Rattle.cidr.specs.declared.errors.CompactError.TheVariants as compact_error
use Rattle.cidr.specs.declared.errors.NetworkParseError.{NetworkParseError}
use Rattle.cidr.specs.declared.family.Family.{Family}
use Rattle.cidr.specs.declared.family.Family.TheVariants.{Ipv4, Ipv6}
use Rattle.cidr.specs.declared.inet.combined.IpInet.{IpInet}
use Rattle.cidr.specs.declared.inet.combined.IpInet.TheVariants as host
use Rattle.cidr.proofs.CompactBytes.{IsCode, one_host_first, no_host_and_any, refused_no_host, refused_no_any, unreadable, reads_value, reads_refused, host_size, network_code, network_first, network_zeros, made_network, made_none}

-- ---- hosts
other_family : (input : List ℕ) (a b : Host) → HasHost Ipv4 input a → HasHost Ipv6 input b → ⊥
other_family input a b h k = let same = (one_host_first Ipv4 Ipv6 input a b h k).0 in cc

one_ip_host_first : (input : List ℕ) (u v : IpInet) (r s : List ℕ) → IsIpHost u → IsIpHost v → input ≡ ip_host_bytes u ++ r → input ≡ ip_host_bytes v ++ s → u ≡ v
one_ip_host_first input (host.V4 a) (host.V4 b) r s iu iv e h = ap host.V4 (one_host_first Ipv4 Ipv4 input a b (iu, r, e) (iv, s, h)).1
one_ip_host_first input (host.V4 a) (host.V6 b) r s iu iv e h = absurd (other_family input a b (iu, r, e) (iv, s, h))
one_ip_host_first input (host.V6 a) (host.V4 b) r s iu iv e h = absurd (other_family input b a (iv, s, h) (iu, r, e))
one_ip_host_first input (host.V6 a) (host.V6 b) r s iu iv e h = ap host.V6 (one_host_first Ipv6 Ipv6 input a b (iu, r, e) (iv, s, h)).1

no_ip_host_first : (input : List ℕ) (e : CompactError) → IsHostBytesRefused Both input e → (v : IpInet) (r : List ℕ) → IsIpHost v → input ≢ ip_host_bytes v ++ r
no_ip_host_first input e h (host.V4 a) r is s = refused_no_host Both input e Ipv4 a h.0 (is, r, s) tt (λ x. absurd (h.1 x))
no_ip_host_first input e h (host.V6 a) r is s = refused_no_host Both input e Ipv6 a h.0 (is, r, s) tt (λ x. absurd (h.1 x))

abbrev pub IpHostReads : List ℕ → Result (IpInet × ℕ) CompactError → Type 0
IpHostReads = ReadsCompact IsIpHost ip_host_bytes (IsHostBytesRefused Both)

pub ip_host_code : IsCode IsIpHost ip_host_bytes (IsHostBytesRefused Both)
ip_host_code = record { one = one_ip_host_first; none = no_ip_host_first }

module _ (input : List ℕ) where
  pub ip_host_reads4 : (a : List Bool) (n : ℕ) → HasHost Ipv4 input (host_of a n) → IpHostReads input (Ok (host.V4 (host_of a n), 5))
  ip_host_reads4 a n h = reads_value IsIpHost ip_host_bytes (IsHostBytesRefused Both) ip_host_code input (host.V4 (host_of a n)) 5 h.1 h.0 h.2 (host_size Ipv4 (host_of a n))

  pub ip_host_reads6 : (a : List Bool) (n : ℕ) → HasHost Ipv6 input (host_of a n) → IpHostReads input (Ok (host.V6 (host_of a n), 17))
  ip_host_reads6 a n h = reads_value IsIpHost ip_host_bytes (IsHostBytesRefused Both) ip_host_code input (host.V6 (host_of a n)) 17 h.1 h.0 h.2 (host_size Ipv6 (host_of a n))

  pub ip_host_any : HasAny input → IpHostReads input (Err compact_error.InvalidAny)
  ip_host_any h = reads_refused IsIpHost ip_host_bytes (IsHostBytesRefused Both) ip_host_code input compact_error.InvalidAny (h, λ x. cc)

  pub ip_host_unreadable : (e : CompactError) → IsUnreadable input e → IpHostReads input (Err e)
  ip_host_unreadable e h = let u = unreadable Both input e h in reads_refused IsIpHost ip_host_bytes (IsHostBytesRefused Both) ip_host_code input e (u.0, u.1)

-- ---- networks
one_ip_network_first : (input : List ℕ) (u v : IpCidr) (r s : List ℕ) → IsIpNetwork u → IsIpNetwork v → input ≡ ip_network_bytes u ++ r → input ≡ ip_network_bytes v ++ s → u ≡ v
one_ip_network_first input (V4 p) (V4 q) r s iu iv e h = ap V4 ((network_code Ipv4).one input p q r s iu iv e h)
one_ip_network_first input (V4 p) (V6 q) r s iu iv e h = absurd (other_family input _ _ (network_first Ipv4 input p r iu e) (network_first Ipv6 input q s iv h))
one_ip_network_first input (V6 p) (V4 q) r s iu iv e h = absurd (other_family input _ _ (network_first Ipv4 input q s iv h) (network_first Ipv6 input p r iu e))
one_ip_network_first input (V6 p) (V6 q) r s iu iv e h = ap V6 ((network_code Ipv6).one input p q r s iu iv e h)

no_ip_network_first : (input : List ℕ) (e : CompactError) → IsNetworkBytesRefused Both input e → (v : IpCidr) (r : List ℕ) → IsIpNetwork v → input ≢ ip_network_bytes v ++ r
no_ip_network_first input e h (V4 p) r is s = refused_no_host Both input e Ipv4 _ h (network_first Ipv4 input p r is s) tt (λ x. network_zeros Ipv4 p)
no_ip_network_first input e h (V6 p) r is s = refused_no_host Both input e Ipv6 _ h (network_first Ipv6 input p r is s) tt (λ x. network_zeros Ipv6 p)

abbrev pub IpNetworkReads : List ℕ → Result (IpCidr × ℕ) CompactError → Type 0
IpNetworkReads = ReadsCompact IsIpNetwork ip_network_bytes (IsNetworkBytesRefused Both)

pub ip_network_code : IsCode IsIpNetwork ip_network_bytes (IsNetworkBytesRefused Both)
ip_network_code = record { one = one_ip_network_first; none = no_ip_network_first }

-- ---- networks and `any`
one_any_first : (input : List ℕ) (u v : AnyIpCidr) (r s : List ℕ) → IsAnyNetwork u → IsAnyNetwork v → input ≡ any_network_bytes u ++ r → input ≡ any_network_bytes v ++ s → u ≡ v
one_any_first input any_network.Any any_network.Any r s iu iv e h = refl
one_any_first input any_network.Any (any_network.V4 q) r s iu iv e h = absurd (no_host_and_any Ipv4 input _ (network_first Ipv4 input q s iv h) (r, e))
one_any_first input any_network.Any (any_network.V6 q) r s iu iv e h = absurd (no_host_and_any Ipv6 input _ (network_first Ipv6 input q s iv h) (r, e))
one_any_first input (any_network.V4 p) any_network.Any r s iu iv e h = absurd (no_host_and_any Ipv4 input _ (network_first Ipv4 input p r iu e) (s, h))
one_any_first input (any_network.V6 p) any_network.Any r s iu iv e h = absurd (no_host_and_any Ipv6 input _ (network_first Ipv6 input p r iu e) (s, h))
one_any_first input (any_network.V4 p) (any_network.V4 q) r s iu iv e h = ap any_network.V4 ((network_code Ipv4).one input p q r s iu iv e h)
one_any_first input (any_network.V6 p) (any_network.V6 q) r s iu iv e h = ap any_network.V6 ((network_code Ipv6).one input p q r s iu iv e h)
one_any_first input (any_network.V4 p) (any_network.V6 q) r s iu iv e h = absurd (other_family input _ _ (network_first Ipv4 input p r iu e) (network_first Ipv6 input q s iv h))
one_any_first input (any_network.V6 p) (any_network.V4 q) r s iu iv e h = absurd (other_family input _ _ (network_first Ipv4 input q s iv h) (network_first Ipv6 input p r iu e))

no_any_first : (input : List ℕ) (e : CompactError) → IsAnyBytesRefused input e → (v : AnyIpCidr) (r : List ℕ) → IsAnyNetwork v → input ≢ any_network_bytes v ++ r
no_any_first input e h any_network.Any r is s = refused_no_any Both input e h.0 h.1 (r, s)
no_any_first input e h (any_network.V4 p) r is s = no_ip_network_first input e h.0 (V4 p) r is s
no_any_first input e h (any_network.V6 p) r is s = no_ip_network_first input e h.0 (V6 p) r is s

abbrev pub AnyReads : List ℕ → Result (AnyIpCidr × ℕ) CompactError → Type 0
AnyReads = ReadsCompact IsAnyNetwork any_network_bytes IsAnyBytesRefused

pub any_code : IsCode IsAnyNetwork any_network_bytes IsAnyBytesRefused
any_code = record { one = one_any_first; none = no_any_first }

module _ (input : List ℕ) where
  pub any_reads4 : (a : List Bool) (n : ℕ) (p : List Bool) → HasHost Ipv4 input (host_of a n) → Ok p ≡ network_from Ipv4 a n → AnyReads input (Ok (any_network.V4 p, 5))
  any_reads4 a n p h made =
      let (fits, first) = made_network Ipv4 input a n h p made in
      reads_value IsAnyNetwork any_network_bytes IsAnyBytesRefused any_code input (any_network.V4 p) 5 h.1 fits first (host_size Ipv4 (first_host 32 p))

  pub any_reads6 : (a : List Bool) (n : ℕ) (p : List Bool) → HasHost Ipv6 input (host_of a n) → Ok p ≡ network_from Ipv6 a n → AnyReads input (Ok (any_network.V6 p, 17))
  any_reads6 a n p h made =
      let (fits, first) = made_network Ipv6 input a n h p made in
      reads_value IsAnyNetwork any_network_bytes IsAnyBytesRefused any_code input (any_network.V6 p) 17 h.1 fits first (host_size Ipv6 (first_host 128 p))

  pub any_refuses : (f : Family) (a : List Bool) (n : ℕ) (x : NetworkParseError) → HasHost f input (host_of a n) → Err x ≡ network_from f a n → AnyReads input (Err compact_error.InvalidHostPart)
  any_refuses f a n x h made =
      reads_refused IsAnyNetwork any_network_bytes IsAnyBytesRefused any_code input compact_error.InvalidHostPart ((f, host_of a n, h, tt, made_none f input a n h x made), λ y. cc)

  pub any_reads_any : HasAny input → AnyReads input (Ok (any_network.Any, 1))
  any_reads_any (rest, e) = reads_value IsAnyNetwork any_network_bytes IsAnyBytesRefused any_code input any_network.Any 1 rest tt e refl

  pub any_unreadable : (e : CompactError) → IsUnreadable input e → AnyReads input (Err e)
  any_unreadable e h = let u = unreadable Both input e h in reads_refused IsAnyNetwork any_network_bytes IsAnyBytesRefused any_code input e (u.0, u.2)

  -- a network or `any` that was read, where a network is asked for
  split_at : (k : ℕ) (bytes : List ℕ) → take k input ≡ bytes → input ≡ bytes ++ drop k input
  split_at k bytes first = sym (take-append-drop k input) ∙ ap (λ t. t ++ drop k input) first

  pub ip_network_reads4 : (p : List Bool) (k : ℕ) → AnyReads input (Ok (any_network.V4 p, k)) → IpNetworkReads input (Ok (V4 p, k))
  ip_network_reads4 p k h =
      let (is, (many, first)) = (h.exactly (any_network.V4 p) k).0 refl in
      reads_value IsIpNetwork ip_network_bytes (IsNetworkBytesRefused Both) ip_network_code input (V4 p) k (drop k input) is (split_at k _ first) many

  pub ip_network_reads6 : (p : List Bool) (k : ℕ) → AnyReads input (Ok (any_network.V6 p, k)) → IpNetworkReads input (Ok (V6 p, k))
  ip_network_reads6 p k h =
      let (is, (many, first)) = (h.exactly (any_network.V6 p) k).0 refl in
      reads_value IsIpNetwork ip_network_bytes (IsNetworkBytesRefused Both) ip_network_code input (V6 p) k (drop k input) is (split_at k _ first) many

  pub ip_network_any : (k : ℕ) → AnyReads input (Ok (any_network.Any, k)) → IpNetworkReads input (Err compact_error.InvalidAny)
  ip_network_any k h =
      let (is, (many, first)) = (h.exactly any_network.Any k).0 refl in
      reads_refused IsIpNetwork ip_network_bytes (IsNetworkBytesRefused Both) ip_network_code input compact_error.InvalidAny (drop k input, split_at k (any_tag ∷ []) first)

  pub ip_network_refused : (e : CompactError) → IsAnyBytesRefused input e → IpNetworkReads input (Err e)
  ip_network_refused e h = reads_refused IsIpNetwork ip_network_bytes (IsNetworkBytesRefused Both) ip_network_code input e h.0
