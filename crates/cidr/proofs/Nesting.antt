-- Networks are nested or apart, and those inside one stand together in the order of bits.
use Rattle.std.proofs.Common.{◌≢◌, ◌↔◌, ◌≤◌, Bool, true, false, List, [], ◌∷◌, length, get_or, take, drop, refl, sym, ap, ◌∙◌, arith, inl, inr}
use Rattle.std.proofs.lemmas.Bool.{cases_lt, true≢false, false≢true}
use Rattle.std.proofs.lemmas.List.{take-take}
use Rattle.std.specs.Bool.{IsTrue, IsFalse}
use Rattle.std.specs.declared.cmp.Ordering.TheVariants.{Greater}
use Rattle.cidr.specs.model.Bits.{bit_cmp}
use Rattle.cidr.specs.model.Network.{BeginsWith, AreApart, IsConsecutive}
use Rattle.cidr.proofs.Holding.{not_longer}

-- of two beginnings of one list the shorter begins the longer
begins_longer : (a p q : List Bool) → BeginsWith a p → BeginsWith a q → length p ≤ length q → BeginsWith q p
begins_longer a p q first second h = ap (take (length p)) (sym second) ∙ take-take (length p) (length q) a h ∙ first

pub apart_unless_nested : (p q : List Bool) → ¬ (BeginsWith q p) → ¬ (BeginsWith p q) → AreApart p q
apart_unless_nested p q outside inside a first second = elim (cases_lt (length q) (length p)) [
  | inl longer ↦ inside (begins_longer a q p second first (omega arith))
  | inr within ↦ outside (begins_longer a p q first second within)
]

not_after : (p q : List Bool) → BeginsWith q p → bit_cmp p q ≢ Greater
not_after [] [] h g = cc
not_after [] (c ∷ q) h g = cc
not_after (b ∷ p) [] h g = omega (arith, not_longer (b ∷ p) [] h)
not_after (true ∷ p) (true ∷ q) h g = not_after p q (ap (drop 1) h) g
not_after (false ∷ p) (false ∷ q) h g = not_after p q (ap (drop 1) h) g
not_after (true ∷ p) (false ∷ q) h g = false≢true (ap (λ t. get_or t 0 true) h)
not_after (false ∷ p) (true ∷ q) h g = true≢false (ap (λ t. get_or t 0 true) h)

between : (p q r : List Bool) → BeginsWith q p → bit_cmp p r ≢ Greater → bit_cmp r q ≢ Greater → BeginsWith r p
between [] q r h low high = refl
between (b ∷ p) [] r h low high = absurd (omega (arith, not_longer (b ∷ p) [] h))
between (b ∷ p) (c ∷ q) [] h low high = absurd (low refl)
between (true ∷ p) (true ∷ q) (true ∷ r) h low high = ap (λ t. true ∷ t) (between p q r (ap (drop 1) h) low high)
between (true ∷ p) (true ∷ q) (false ∷ r) h low high = absurd (low refl)
between (false ∷ p) (false ∷ q) (false ∷ r) h low high = ap (λ t. false ∷ t) (between p q r (ap (drop 1) h) low high)
between (false ∷ p) (false ∷ q) (true ∷ r) h low high = absurd (high refl)
between (true ∷ p) (false ∷ q) r h low high = absurd (false≢true (ap (λ t. get_or t 0 true) h))
between (false ∷ p) (true ∷ q) r h low high = absurd (true≢false (ap (λ t. get_or t 0 true) h))

pub inside_consecutive : (p q : List Bool) → BeginsWith q p → IsConsecutive p q
inside_consecutive p q h = (not_after p q h, λ r low high. between p q r h low high)

true_and_false : (b : Bool) → IsTrue b → IsFalse b → ⊥
true_and_false b t f = cc

-- what the test of two networks tells besides
module _ (p q : List Bool) (test : Bool) (begins : IsTrue test ↔ BeginsWith q p) where
  pub apart_by_test : IsFalse test → ¬ (BeginsWith p q) → AreApart p q
  apart_by_test f inside = apart_unless_nested p q (λ h. true_and_false test (begins.1 h) f) inside

  pub consecutive_by_test : IsTrue test → IsConsecutive p q
  consecutive_by_test t = inside_consecutive p q (begins.0 t)
