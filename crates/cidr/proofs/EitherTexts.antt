-- A text spells one network and one host of either family at most, and `any` spells none.
use Rattle.std.proofs.Common.{◌≡◌, ℕ, ◌<◌, ◌≤◌, Bool, List, [], ◌∷◌, codes, length, refl, sym, ap, ◌∙◌, subst, arith, inl, inr, length-append}
use Rattle.cidr.specs.model.Host.{Host}
use Rattle.cidr.specs.texts.AddressText.{IsAddressText}
use Rattle.cidr.specs.texts.Ipv4Text.{dot, IsIpv4Text}
use Rattle.cidr.specs.texts.Ipv6Text.{colon, IsGroups, IsRun, IsEightGroups}
use Rattle.cidr.specs.texts.NetworkText.{slash, IsNetworkText}
use Rattle.cidr.specs.texts.Refusal.{Lacks}
use Rattle.cidr.specs.texts.HostText.{IsHostText}
use Rattle.cidr.specs.either.IpNetwork.{network_family, network_prefix}
use Rattle.cidr.specs.either.IpText.{IsIpNetworkText, IsAnyNetworkText, IsIpHostText}
use Rattle.cidr.proofs.Cuts.{not_lacking, Lacks-cons, Lacks-length, one_cut}
use Rattle.cidr.proofs.EitherAddresses.{one_family}
use Rattle.cidr.proofs.EitherReading.{network_text_of}
use Rattle.cidr.proofs.NetworkTexts.{address_grammar, some_host, one_host, one_network}
use Rattle.cidr.proofs.OctetReading.{four_joined}
use Rattle.cidr.specs.declared.cidr.any.AnyIpCidr.{AnyIpCidr}
use Rattle.cidr.specs.declared.cidr.any.AnyIpCidr.TheVariants as any_network
use Rattle.cidr.specs.declared.cidr.combined.IpCidr.{IpCidr}
use Rattle.cidr.specs.declared.cidr.combined.IpCidr.TheVariants.{V4, V6}
use Rattle.cidr.specs.declared.family.Family.{Family}
use Rattle.cidr.specs.declared.family.Family.TheVariants.{Ipv4, Ipv6}
use Rattle.cidr.specs.declared.inet.combined.IpInet.{IpInet}
use Rattle.cidr.specs.declared.inet.combined.IpInet.TheVariants as host

-- no text spells hosts of two families, nor networks
same_host_family : (text : List ℕ) (f g : Family) (a b : Host) → IsHostText f text a → IsHostText g text b → f ≡ g
same_host_family text f g a b (inl h) (inl k) = one_family text f g a.address b.address h.0 k.0
same_host_family text f g a b (inl h) (inr t) =
    absurd (not_lacking slash t.front t.back (subst (Lacks slash) t.spelled ((address_grammar f).no_slash text a.address h.0)))
same_host_family text f g a b (inr s) (inl k) =
    absurd (not_lacking slash s.front s.back (subst (Lacks slash) s.spelled ((address_grammar g).no_slash text b.address k.0)))
same_host_family text f g a b (inr s) (inr t) =
    let none = Lacks-length slash s.back a.len (omega arith) (omega arith) s.back_text in
    let same = one_cut slash s.front s.back t.front t.back (sym s.spelled ∙ t.spelled) none (Lacks-length slash t.back b.len (omega arith) (omega arith) t.back_text) in
    one_family t.front f g a.address b.address (subst (λ x. IsAddressText f x a.address) same.0 s.front_text) t.front_text

same_network_family : (text : List ℕ) (f g : Family) (p q : List Bool) → IsNetworkText f text p → IsNetworkText g text q → f ≡ g
same_network_family text f g p q h k =
    let (a, s) = some_host f text p h in
    let (b, t) = some_host g text q k in
    same_host_family text f g a b s t

pub one_ip_host : (text : List ℕ) (a b : IpInet) → IsIpHostText text a → IsIpHostText text b → a ≡ b
one_ip_host text (host.V4 a) (host.V4 b) h k = ap host.V4 (one_host Ipv4 text a b h k)
one_ip_host text (host.V4 a) (host.V6 b) h k = absurd (let same = same_host_family text Ipv4 Ipv6 a b h k in cc)
one_ip_host text (host.V6 a) (host.V4 b) h k = absurd (let same = same_host_family text Ipv6 Ipv4 a b h k in cc)
one_ip_host text (host.V6 a) (host.V6 b) h k = ap host.V6 (one_host Ipv6 text a b h k)

pub one_ip_network : (text : List ℕ) (m n : IpCidr) → IsIpNetworkText text m → IsIpNetworkText text n → m ≡ n
one_ip_network text (V4 p) (V4 q) h k = ap V4 (one_network Ipv4 text p q h k)
one_ip_network text (V4 p) (V6 q) h k = absurd (let same = same_network_family text Ipv4 Ipv6 p q h k in cc)
one_ip_network text (V6 p) (V4 q) h k = absurd (let same = same_network_family text Ipv6 Ipv4 p q h k in cc)
one_ip_network text (V6 p) (V6 q) h k = ap V6 (one_network Ipv6 text p q h k)

-- ---- `any` has none of the bytes that stand in every address or network text
lacks_in_any : (c : ℕ) → c < 97 → Lacks c (codes "any")
lacks_in_any c low = Lacks-cons c 97 (110 ∷ 121 ∷ []) (omega arith) (Lacks-cons c 110 (121 ∷ []) (omega arith) (Lacks-cons c 121 [] (omega arith) (λ i l. absurd (omega arith))))

has_dot : (text : List ℕ) (a : List Bool) → IsIpv4Text text a → ¬ (Lacks dot text)
has_dot text a h lacks =
    let (i, j, k, l, (front, back, split, octet, more)) = four_joined text a h in
    not_lacking dot front back (subst (Lacks dot) split lacks)

colon_in_groups : (text groups : List ℕ) → IsGroups text groups → 2 ≤ length groups → ¬ (Lacks colon text)
colon_in_groups text [] h many = absurd h
colon_in_groups text (g ∷ []) h many = absurd (omega arith)
colon_in_groups text (g ∷ h ∷ groups) (front, back, split, first, more) many = λ lacks. not_lacking colon front back (subst (Lacks colon) split lacks)

colon_in_run : (text groups : List ℕ) → IsRun text groups → length groups ≡ 8 → ¬ (Lacks colon text)
colon_in_run text groups (inl h) eight = colon_in_groups text groups h (omega arith)
colon_in_run text groups (inr (before, g, h, e, inl (none, pair))) eight =
    absurd (omega (arith, ap length e, length-append before (g ∷ h ∷ []), ap length none))
colon_in_run text groups (inr (before, g, h, e, inr (front, back, split, more, pair))) eight =
    λ lacks. not_lacking colon front back (subst (Lacks colon) split lacks)

has_colon : (text groups : List ℕ) → IsEightGroups text groups → ¬ (Lacks colon text)
has_colon text groups (inl (run, eight)) = colon_in_run text groups run eight
has_colon text groups (inr h) = λ lacks. not_lacking colon h.front (colon ∷ h.back) (subst (Lacks colon) h.spelled lacks)

any_no_address : (family : Family) (a : List Bool) → ¬ (IsAddressText family (codes "any") a)
any_no_address Ipv4 a h = has_dot (codes "any") a h (lacks_in_any dot (omega arith))
any_no_address Ipv6 a h = has_colon (codes "any") h.groups h.eight (lacks_in_any colon (omega arith))

any_no_host : (family : Family) (host : Host) → ¬ (IsHostText family (codes "any") host)
any_no_host family host (inl h) = any_no_address family host.address h.0
any_no_host family host (inr s) = not_lacking slash s.front s.back (subst (Lacks slash) s.spelled (lacks_in_any slash (omega arith)))

any_no_network : (text : List ℕ) (n : IpCidr) → text ≡ codes "any" → ¬ (IsIpNetworkText text n)
any_no_network text n same h =
    let (host, t) = some_host (network_family n) text (network_prefix n) (network_text_of text n h) in
    any_no_host (network_family n) host (subst (λ x. IsHostText (network_family n) x host) same t)

pub one_any_network : (text : List ℕ) (m n : AnyIpCidr) → IsAnyNetworkText text m → IsAnyNetworkText text n → m ≡ n
one_any_network text any_network.Any any_network.Any h k = refl
one_any_network text any_network.Any (any_network.V4 q) h k = absurd (any_no_network text (V4 q) h k)
one_any_network text any_network.Any (any_network.V6 q) h k = absurd (any_no_network text (V6 q) h k)
one_any_network text (any_network.V4 p) any_network.Any h k = absurd (any_no_network text (V4 p) k h)
one_any_network text (any_network.V6 p) any_network.Any h k = absurd (any_no_network text (V6 p) k h)
one_any_network text (any_network.V4 p) (any_network.V4 q) h k = ap any_network.V4 (one_network Ipv4 text p q h k)
one_any_network text (any_network.V4 p) (any_network.V6 q) h k = absurd (let same = same_network_family text Ipv4 Ipv6 p q h k in cc)
one_any_network text (any_network.V6 p) (any_network.V4 q) h k = absurd (let same = same_network_family text Ipv6 Ipv4 p q h k in cc)
one_any_network text (any_network.V6 p) (any_network.V6 q) h k = ap any_network.V6 (one_network Ipv6 text p q h k)
