use Rattle.std.proofs.Common.{◌≡◌, ◌∙◌, sym, subst, ℕ, ◌^◌, ◌<◌, Bool, List, length}
use Rattle.cidr.specs.laws.BitLaws.{number-lt}
use Rattle.cidr.specs.model.Bits.{number}
use Rattle.cidr_lookup.proofs.key.Key.of.Goals as goal

below : (n w v : ℕ) (bits : List Bool) → n ≡ number bits → length bits ≡ v → w ≡ v → n < 2 ^ w
below n w v bits is size same = subst (λ k. k < 2 ^ w) (sym is) (subst (λ k. number bits < 2 ^ k) (size ∙ sym same) (number-lt bits))

pub of-requires : goal.of-requires
of-requires g c = below _ _ _ _ c.to_number-first.ensures.value c.to_number-first.ensures.width c.requires
