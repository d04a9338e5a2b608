-- Lists of bits that begin with one another.
use Rattle.std.proofs.Common.{◌≡◌, ◌⊎◌, ◌+◌, ◌-◌, ◌<◌, ◌≤◌, Bool, true, false, List, [], ◌∷◌, ◌++◌, length, get_or, take, refl, sym, ap, ◌∙◌, arith, inl, inr, length-append}
use Rattle.std.proofs.lemmas.List.{take-take, take_at, take_all, take_more, length-take-le}
use Rattle.cidr.specs.model.Network.{BeginsWith}
use Rattle.cidr_table.specs.model.Cover.{parent}
use Rattle.cidr_table.proofs.Beginnings.{begins_length}

pub begins_itself : (p : List Bool) → BeginsWith p p
begins_itself p = take_all (length p) p (omega arith)

-- what begins with a list begins with the beginnings of that
pub begins_begins : (a q p : List Bool) → BeginsWith a q → BeginsWith q p → BeginsWith a p
begins_begins a q p h k =
    sym (take-take (length p) (length q) a (begins_length q p k)) ∙ ap (take (length p)) h ∙ k

-- of two beginnings of one list, the longer begins with the shorter
pub begins_both : (a q p : List Bool) → BeginsWith a q → BeginsWith a p → length p ≤ length q → BeginsWith q p
begins_both a q p h k within =
    sym (ap (take (length p)) h) ∙ take-take (length p) (length q) a within ∙ k

pub same_length : (q p : List Bool) → BeginsWith q p → length q ≤ length p → q ≡ p
same_length q p h within = sym (take_all (length p) q within) ∙ h

pub length_parent : (p : List Bool) → length (parent p) ≡ length p - 1
length_parent p = length-take-le (length p - 1) p (omega arith)

pub begins_parent : (p : List Bool) → BeginsWith p (parent p)
begins_parent p = ap (λ n. take n p) (length_parent p)

-- a shorter beginning begins the parent too
pub parent_begins : (p q : List Bool) → BeginsWith p q → length q < length p → BeginsWith (parent p) q
parent_begins p q h shorter = begins_both p (parent p) q (begins_parent p) h (omega (arith, length_parent p))

pub length_half : (p : List Bool) (b : Bool) → length (p ++ b ∷ []) ≡ length p + 1
length_half p b = omega (arith, length-append p (b ∷ []))

pub half_begins : (p : List Bool) (b : Bool) → BeginsWith (p ++ b ∷ []) p
half_begins p b = take_at p (b ∷ []) (length p) refl

-- a longer list begins with one of the halves
pub next_bit : (a p : List Bool) → BeginsWith a p → length p < length a
    → BeginsWith a (p ++ get_or a (length p) false ∷ [])
next_bit a p h longer =
    ap (λ n. take n a) (length_half p (get_or a (length p) false)) ∙ take_more a (length p) false longer
    ∙ ap (λ q. q ++ get_or a (length p) false ∷ []) h

either_bit : (a p : List Bool) (b : Bool) → BeginsWith a (p ++ b ∷ [])
    → BeginsWith a (p ++ false ∷ []) ⊎ BeginsWith a (p ++ true ∷ [])
either_bit a p false h = inl h
either_bit a p true h = inr h

pub either_half : (a p : List Bool) → BeginsWith a p → length p < length a
    → BeginsWith a (p ++ false ∷ []) ⊎ BeginsWith a (p ++ true ∷ [])
either_half a p h longer = either_bit a p (get_or a (length p) false) (next_bit a p h longer)

pub empty : (p : List Bool) → length p ≡ 0 → p ≡ []
empty [] e = refl
empty (b ∷ p) e = absurd (omega (arith, e))

-- equality of bits is decided
pub same_or_not : (p q : List Bool) → (p ≡ q) ⊎ ¬ (p ≡ q)
same_or_not [] [] = inl refl
same_or_not [] (y ∷ q) = inr (λ e. cc)
same_or_not (x ∷ p) [] = inr (λ e. cc)
same_or_not (false ∷ p) (false ∷ q) = elim
    (same_or_not p q) [ inl e ↦ inl (ap (λ r. false ∷ r) e) | inr n ↦ inr (λ e. n (cc)) ]
same_or_not (true ∷ p) (true ∷ q) = elim (same_or_not p q) [
  | inl e ↦ inl (ap (λ r. true ∷ r) e)
  | inr n ↦ inr
      (λ e. n (cc))
]
same_or_not (false ∷ p) (true ∷ q) = inr (λ e. cc)
same_or_not (true ∷ p) (false ∷ q) = inr (λ e. cc)

pub parent_half : (p : List Bool) (b : Bool) → parent (p ++ b ∷ []) ≡ p
parent_half p b = take_at p (b ∷ []) (length (p ++ b ∷ []) - 1) (omega (arith, length_half p b))
