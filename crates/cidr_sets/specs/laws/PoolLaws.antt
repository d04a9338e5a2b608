-- How long the networks inside another are, and how many addresses they have.
use Rattle.std.proofs.Common.{ℕ, ◌-◌, ◌^◌, ◌<◌, ◌↔◌, Bool, true, false, List, [], ◌∷◌, length, inl, inr, arith}
use Rattle.std.proofs.Math.Nat.{pow-le-pow_right}
use Rattle.std.proofs.Math.Pow.{pow-lt}
use Rattle.std.proofs.lemmas.Bool.{cases_lt}
use Rattle.cidr.specs.model.Network.{FitsWidth}
use Rattle.cidr.specs.either.IpNetwork.{any_bits, any_room}
use Rattle.cidr.specs.declared.cidr.any.AnyIpCidr.{AnyIpCidr}
use Rattle.cidr.specs.declared.cidr.any.AnyIpCidr.TheVariants.{Any, V4, V6}
use Rattle.cidr_table.specs.model.CoverAddresses.{IsIpNetworkBits}
use Rattle.cidr_sets.specs.model.Pools.{IsRoom, TellsSize, addresses_of, ip_addresses_of}

pub plain_room : (w : ℕ) (q : List Bool) → IsRoom (FitsWidth w) q (w - length q)
plain_room w q p h s b = omega (arith, h)

pub any_room_exact : (q : AnyIpCidr) → IsRoom IsIpNetworkBits (any_bits q) (any_room q)
any_room_exact Any p h s b = absurd (omega (arith, s))
any_room_exact (V4 q) [] h s b = omega arith
any_room_exact (V4 q) (false ∷ p) h s b = omega (arith, h)
any_room_exact (V4 q) (true ∷ p) h s b = absurd (cc)
any_room_exact (V6 q) [] h s b = omega arith
any_room_exact (V6 q) (false ∷ p) h s b = absurd (cc)
any_room_exact (V6 q) (true ∷ p) h s b = omega (arith, h)

same_order : (i j : ℕ) → (i < j) ↔ (2 ^ i < 2 ^ j)
same_order i j = (
  pow-lt,
  λ h. elim (cases_lt i j) [
    | inl less ↦ less
    | inr more ↦ absurd (omega (arith, h, pow-le-pow_right {n = 2} (omega arith) more))
  ],
)

pub plain_size : (w : ℕ) (p q : List Bool) → TellsSize (addresses_of w) p (w - length p) q (w - length q)
plain_size w p q s t = same_order (w - length p) (w - length q)

pub any_size : (p q : AnyIpCidr) → TellsSize ip_addresses_of (any_bits p) (any_room p) (any_bits q) (any_room q)
any_size Any q s t = absurd (omega (arith, s))
any_size (V4 p) Any s t = absurd (omega (arith, t))
any_size (V4 p) (V4 q) s t = same_order (32 - length p) (32 - length q)
any_size (V4 p) (V6 q) s t = same_order (32 - length p) (128 - length q)
any_size (V6 p) Any s t = absurd (omega (arith, t))
any_size (V6 p) (V4 q) s t = same_order (128 - length p) (32 - length q)
any_size (V6 p) (V6 q) s t = same_order (128 - length p) (128 - length q)
