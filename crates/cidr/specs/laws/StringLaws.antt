-- A network of either family, or `Any`, is known by its bits.
use Rattle.std.proofs.Common.{◌≡◌, Bool, true, false, List, [], ◌∷◌, length, get_or, drop, refl, sym, ap, arith}
use Rattle.std.proofs.lemmas.Bool.{true≢false, false≢true}
use Rattle.cidr.specs.either.IpNetwork.{any_bits}
use Rattle.cidr.specs.declared.cidr.any.AnyIpCidr.{AnyIpCidr}
use Rattle.cidr.specs.declared.cidr.any.AnyIpCidr.TheVariants.{Any, V4, V6}

not_none : (b : Bool) (p : List Bool) → ¬ ([] ≡ b ∷ p)
not_none b p h = omega (arith, ap length h)

pub any_determined : (a b : AnyIpCidr) → any_bits a ≡ any_bits b → a ≡ b
any_determined Any Any h = refl
any_determined Any (V4 q) h = absurd (not_none false q h)
any_determined Any (V6 q) h = absurd (not_none true q h)
any_determined (V4 p) Any h = absurd (not_none false p (sym h))
any_determined (V6 p) Any h = absurd (not_none true p (sym h))
any_determined (V4 p) (V4 q) h = ap (λ t. V4 (drop 1 t)) h
any_determined (V6 p) (V6 q) h = ap (λ t. V6 (drop 1 t)) h
any_determined (V4 p) (V6 q) h = absurd (false≢true (ap (λ t. get_or t 0 false) h))
any_determined (V6 p) (V4 q) h = absurd (true≢false (ap (λ t. get_or t 0 false) h))
