-- Subnets in the caller's room.
use Rattle.std.proofs.Common.{◌≡◌, ℕ, ◌+◌, ◌-◌, ◌^◌, ◌<◌, ◌≤◌, Bool, List, length, set, slice_get, Some, inl, inr, arith, refl, sym, subst, ◌∙◌}
use Rattle.std.proofs.lemmas.Bool.{cases_eq, cases_lt}
use Rattle.std.proofs.Math.Pow.{pow_mono}
use Rattle.cidr.specs.either.IpNetwork.{network_family, network_prefix}
use Rattle.cidr.specs.model.Network.{width_of}
use Rattle.cidr.specs.declared.cidr.combined.IpCidr.{IpCidr}
use Rattle.cidr.specs.declared.cidr.combined.IpCidr.TheVariants.{V4, V6}
use Rattle.cidr_ext.specs.model.Subnets.{NoSubnetAt}
use Rattle.cidr_c.specs.model.Networks.{AreFirstSubnets, AreSubnetsPut}
use Rattle.cidr_c.specs.model.Values.{IsHostValue, ip_network_in}
use Rattle.cidr_c.specs.declared.values.CValue.{CValue}
use Rattle.cidr_c.proofs.Answering.{slice_get-set_here, slice_get-set_other}

-- of the first n values this holds at their indexes
abbrev pub AreMade : (ℕ → CValue → Type 0) → ℕ → List CValue → Type 0
AreMade Holds n out = (i : ℕ) (v : CValue) → i < n → slice_get out i ≡ Some v → Holds i v

-- one value more
pub one_made : (Holds : ℕ → CValue → Type 0) (n : ℕ) (out : List CValue) (a : CValue) → AreMade Holds n out → n < length out → Holds n a
    → AreMade Holds (n + 1) (set out n a)
one_made Holds n out a first fits here i v lt found = elim (cases_eq i n) [
  | inl e ↦
      let at : slice_get (set out n a) n ≡ Some v = subst (λ (k : ℕ). slice_get (set out n a) k ≡ Some v) e found in
      let same : a ≡ v = cc (slice_get-set_here out n a fits, at) in
      subst (λ (k : ℕ). Holds k v) (sym e) (subst (λ (w : CValue). Holds n w) same here)
  | inr other ↦ first i v (omega (arith, lt, other)) (sym (slice_get-set_other out n i a other) ∙ found)
]

-- those of the network of a host
pub subnets_put : (host : CValue) (n : IpCidr) (len index : ℕ) (old new : List CValue) (count made : ℕ) → IsHostValue host × (n ≡ ip_network_in host)
    → AreFirstSubnets n len index old new made → AreSubnetsPut host len index old new count made 0
subnets_put host n len index old new count made told first =
    let h : AreFirstSubnets (ip_network_in host) len index old new made = subst (λ (m : IpCidr). AreFirstSubnets m len index old new made) told.1 first in
    record {
      taken = λ _. told.0;
      networks = λ _. h.networks;
      fits = λ _. h.fits;
      all = λ _. h.all;
      behind = λ _. h.behind;
      none = λ z. absurd (omega (arith, z));
      refused = λ z. absurd (omega (arith, z));
      codes = inl refl;
      stays = λ other. absurd (other refl);
    }

no_subnet : (w : ℕ) (p : List Bool) (len index : ℕ) → w ≤ 128 → 2 ^ 128 ≤ index → NoSubnetAt w p len index
no_subnet w p len index narrow past = elim (cases_lt w len) [
  | inl longer ↦ inr (inl longer)
  | inr within ↦
      let few : 2 ^ (len - length p) ≤ 2 ^ 128 = pow_mono {i = len - length p} {j = 128} (omega (arith, narrow, within)) in
      inr (inr (omega (arith, few, past)))
]

-- no network has 2^128 subnets or more behind index 0
pub no_subnet_past : (n : IpCidr) (len index : ℕ) → 2 ^ 128 ≤ index
    → NoSubnetAt (width_of (network_family n)) (network_prefix n) len index
no_subnet_past (V4 p) len index past = no_subnet 32 p len index (omega arith) past
no_subnet_past (V6 p) len index past = no_subnet 128 p len index (omega arith) past
