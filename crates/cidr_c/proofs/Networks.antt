-- What making a network from an address and a prefix length tells of a value.
use Rattle.std.proofs.Common.{◌≡◌, ◌≢◌, ◌∙◌, sym, ℕ, ◌+◌, ◌-◌, ◌*◌, ◌/◌, ◌%◌, ◌^◌, ◌≤◌, ◌<◌, Bool, List, ◌∷◌, take, drop, Ok, Err, arith, inl, inr, ap, subst}
use Rattle.std.proofs.lemmas.Bool.Decides.{nat_tests}
use Rattle.cidr.proofs.EitherHolding.{begins_behind}
use Rattle.cidr.specs.laws.BitLaws.{bits_high, same_bits, bit_eq_Decides}
use Rattle.cidr.specs.model.Bits.{bits}
use Rattle.cidr.specs.model.Network.{BeginsWith, width_of, zeros, network_from}
use Rattle.cidr.specs.either.IpNetwork.{any_bits}
use Rattle.cidr.specs.declared.cidr.any.AnyIpCidr.{AnyIpCidr}
use Rattle.cidr_c.specs.calls.Calls.{IsYesOrNo}
use Rattle.cidr.specs.declared.family.Family.{Family}
use Rattle.cidr.specs.declared.errors.NetworkParseError.{NetworkParseError}
use Rattle.cidr.specs.declared.cidr.any.AnyIpCidr.TheVariants.{V4, V6}
use Rattle.cidr.specs.declared.cidr.combined.IpCidr.TheVariants as family
use Rattle.cidr_c.specs.model.Values.{number_in, IsHostValue, IsIpNetworkValue, IsLow, IsNetworkValue, ip_network_in, network_in}
use Rattle.cidr_c.specs.declared.values.CValue.{CValue}

-- no bit of the address after the prefix is set
abbrev pub IsFirst : ℕ → ℕ → List Bool → Type 0
IsFirst w n a = (n ≤ w) × (drop n a ≡ zeros (w - n))

pub from_ok : (family : Family) (a p : List Bool) (n : ℕ) → Ok p ≡ network_from family a n
    → IsFirst (width_of family) n a × (p ≡ take n a)
from_ok family a p n h = grind (arith, nat_tests, same_bits)

pub from_err : (family : Family) (a : List Bool) (e : NetworkParseError) (n : ℕ) → Err e ≡ network_from family a n
    → IsFirst (width_of family) n a → ⊥
from_err family a e n h first = grind (arith, nat_tests, (bit_eq_Decides (drop n a) (zeros (width_of family - n))).1)

pub ipv4_in_value : (v : CValue) → v.tag < 64 → network_in v ≡ V4 (take v.tag (bits 32 v.low))
ipv4_in_value v h = grind (arith, nat_tests)

pub ipv6_in_value : (v : CValue) → v.tag < 255 → 64 ≤ v.tag → network_in v ≡ V6 (take (v.tag - 64) (bits 128 (number_in v)))
ipv6_in_value v any h = grind (arith, nat_tests)

-- what stands above the 32 bits does not count
pub low_part : (n : ℕ) → bits 32 (n % 2 ^ 32) ≡ bits 32 n
low_part n =
    let parts : n ≡ n / 2 ^ 32 * 2 ^ 32 + n % 2 ^ 32 = omega arith in
    sym (ap (λ k. bits 32 k) parts ∙ bits_high 32 (n / 2 ^ 32) (n % 2 ^ 32))

pub ipv4_network : (v : CValue) (a p : List Bool) → v.tag < 64 → IsLow v → a ≡ bits 32 v.low
    → IsFirst 32 v.tag a × (p ≡ take v.tag a) → IsNetworkValue v × (V4 p ≡ network_in v)
ipv4_network v a p h low e made =
    let bare = rw e at made in
    (inr (inl ((bare.0.0, low), bare.0.1)), rw (ipv4_in_value v h) (ap V4 bare.1))

pub no_ipv4 : (v : CValue) (a : List Bool) → v.tag < 64 → a ≡ bits 32 v.low → (IsFirst 32 v.tag a → ⊥) → IsNetworkValue v → ⊥
no_ipv4 v a h e none (inl any) = omega (arith, any.0)
no_ipv4 v a h e none (inr (inl low)) = none (low.0.0, rw e low.1)
no_ipv4 v a h e none (inr (inr high)) = omega (arith, high.0.0)

pub ipv6_network : (v : CValue) (a p : List Bool) → v.tag ≢ 255 → 64 ≤ v.tag → a ≡ bits 128 (number_in v)
    → IsFirst 128 (v.tag - 64) a × (p ≡ take (v.tag - 64) a) → IsNetworkValue v × (V6 p ≡ network_in v)
ipv6_network v a p any h e made =
    let bare = rw e at made in
    let fits : v.tag ≤ 192 = omega (arith, bare.0.0) in
    (inr (inr ((h, fits), bare.0.1)), rw (ipv6_in_value v (omega arith) h) (ap V6 bare.1))

pub no_ipv6 : (v : CValue) (a : List Bool) → v.tag ≢ 255 → 64 ≤ v.tag → a ≡ bits 128 (number_in v)
    → (IsFirst 128 (v.tag - 64) a → ⊥) → IsNetworkValue v → ⊥
no_ipv6 v a any h e none (inl whole) = any whole.0
no_ipv6 v a any h e none (inr (inl low)) = omega (arith, low.0.0)
no_ipv6 v a any h e none (inr (inr high)) =
    let fits : v.tag - 64 ≤ 128 = omega (arith, high.0.1) in
    none (fits, rw e high.1)

-- ---- networks of one family
host_value : (v : CValue) → v.tag ≢ 255 → IsNetworkValue v → IsHostValue v
host_value v other (inl any) = absurd (other any.0)
host_value v other (inr (inl low)) = inl low.0
host_value v other (inr (inr high)) = inr high.0

one_in_value4 : (v : CValue) → v.tag < 64 → ip_network_in v ≡ family.V4 (take v.tag (bits 32 v.low))
one_in_value4 v h = grind (arith, nat_tests)

one_in_value6 : (v : CValue) → 64 ≤ v.tag → ip_network_in v ≡ family.V6 (take (v.tag - 64) (bits 128 (number_in v)))
one_in_value6 v h = grind (arith, nat_tests)

pub one_ipv4 : (v : CValue) (p : List Bool) → v.tag < 64 → IsNetworkValue v × (V4 p ≡ network_in v)
    → IsIpNetworkValue v × (family.V4 p ≡ ip_network_in v)
one_ipv4 v p h (is, same) =
    let bits_are : p ≡ take v.tag (bits 32 v.low) = (let e = ipv4_in_value v h in cc) in
    ((host_value v (λ any. omega (arith, any, h)) is, is), rw (one_in_value4 v h) (ap family.V4 bits_are))

pub one_ipv6 : (v : CValue) (p : List Bool) → 64 ≤ v.tag → v.tag < 255 → IsNetworkValue v × (V6 p ≡ network_in v)
    → IsIpNetworkValue v × (family.V6 p ≡ ip_network_in v)
one_ipv6 v p h any (is, same) =
    let bits_are : p ≡ take (v.tag - 64) (bits 128 (number_in v)) = (let e = ipv6_in_value v any h in cc) in
    ((host_value v (λ e. omega (arith, any, e)) is, is), rw (one_in_value6 v h) (ap family.V6 bits_are))

pub no_family : (v : CValue) → 255 ≤ v.tag → ¬ (IsIpNetworkValue v)
no_family v h (inl low, is) = omega (arith, low.0)
no_family v h (inr high, is) = omega (arith, high.1)

pub ruleset family_laws = (one_ipv4, one_ipv6, no_family)

pub contained : (v w : CValue) (n m : AnyIpCidr) (code : ℕ) → IsNetworkValue v × (n ≡ network_in v) → IsNetworkValue w × (m ≡ network_in w)
    → IsYesOrNo code (BeginsWith (any_bits m) (any_bits n))
    → IsYesOrNo code (IsNetworkValue v × IsNetworkValue w × BeginsWith (any_bits (network_in w)) (any_bits (network_in v)))
contained v w n m code one other is =
    let told : IsYesOrNo code (BeginsWith (any_bits (network_in w)) (any_bits (network_in v))) =
    subst (λ x. IsYesOrNo code (BeginsWith (any_bits x) (any_bits (network_in v)))) other.1
    (subst (λ x. IsYesOrNo code (BeginsWith (any_bits m) (any_bits x))) one.1 is) in
    (told.0, (λ is_one. (one.0, other.0, told.1.0 is_one), λ all. told.1.1 all.2))

-- a bit in front of the bits of both changes no answer
pub told_behind : (b : Bool) (outer inner : List Bool) (code : ℕ) → IsYesOrNo code (BeginsWith inner outer)
    → IsYesOrNo code (BeginsWith (b ∷ inner) (b ∷ outer))
told_behind b outer inner code told =
    let same = begins_behind b inner outer in
    (told.0, (λ yes. same.0 (told.1.0 yes), λ h. told.1.1 (same.1 h)))
