-- Hits that are set to 0, one after the other.
use Rattle.std.proofs.Common.{◌≡◌, ◌+◌, ◌<◌, refl, ℕ, zero, suc, List, [], ◌∷◌, Some, None, get_or, set, slice_get, arith}

pub zeros_set : (hits : List ℕ) (i : ℕ) → ((k : ℕ) → k < i → get_or hits k 0 ≡ 0) → (k : ℕ) → k < i + 1 → get_or (set hits i 0) k 0 ≡ 0
zeros_set [] i h k l = refl
zeros_set (n ∷ hits) zero h zero l = refl
zeros_set (n ∷ hits) zero h (suc k) l = absurd (omega (arith, l))
zeros_set (n ∷ hits) (suc i) h zero l = h zero (omega arith)
zeros_set (n ∷ hits) (suc i) h (suc k) l = zeros_set hits i (λ m b. h (suc m) (omega (arith, b))) k (omega (arith, l))

pub zeros_past : (hits : List ℕ) (i : ℕ) → slice_get hits i ≡ None → ((k : ℕ) → k < i → get_or hits k 0 ≡ 0) → (k : ℕ) → k < i + 1 → get_or hits k 0 ≡ 0
zeros_past [] i e h k l = refl
zeros_past (n ∷ hits) zero e h k l = let none : Some n ≡ None = e in (cc)
zeros_past (n ∷ hits) (suc i) e h zero l = h zero (omega arith)
zeros_past (n ∷ hits) (suc i) e h (suc k) l = zeros_past hits i e (λ m b. h (suc m) (omega (arith, b))) k (omega (arith, l))
