-- What the four traits say of values: they are shown by a family, and by their bits, a host or a pair.
use Rattle.std.specs.Prelude.{◌≡◌, ℕ, Bool, true, false, List, ◌∷◌, Option, Some, Result, MatchResult}
use Rattle.std.specs.Ordering.{nat_cmp, ordering_then}
use Rattle.std.specs.declared.cmp.Ordering.{Ordering}
use Rattle.cidr.specs.model.Bits.{bit_cmp}
use Rattle.cidr.specs.model.Host.{Host}
use Rattle.cidr.specs.declared.family.Family.{Family}
use Rattle.cidr.specs.declared.family.Family.TheVariants.{Ipv4, Ipv6}

-- the bits with the family bit in front
abbrev pub family_bits : Family → List Bool → List Bool
family_bits Ipv4 bits = false ∷ bits
family_bits Ipv6 bits = true ∷ bits

-- values that are shown alike are the same
abbrev pub IsKnownBy : {A V : Type 0} → (A → Family) → (A → V) → Type 0
IsKnownBy {A} family view = (a b : A) → family a ≡ family b → view a ≡ view b → a ≡ b

-- the order is by family and then by the bits
abbrev pub IsOrderByFamily : {A : Type 0} → (A → Family) → (A → List Bool) → (A → A → Ordering) → Type 0
IsOrderByFamily {A} family bits cmp = (a b : A) → cmp a b ≡ bit_cmp (family_bits (family a) (bits a)) (family_bits (family b) (bits b))

-- by family, then by the address, then by the length
abbrev pub IsHostOrderByFamily : {A : Type 0} → (A → Family) → (A → Host) → (A → A → Ordering) → Type 0
IsHostOrderByFamily {A} family host cmp =
    (a b : A) → cmp a b
    ≡ ordering_then (bit_cmp (family_bits (family a) (host a).address) (family_bits (family b) (host b).address)) (nat_cmp (host a).len (host b).len)

-- reading gives a value that the text spells in the value's family, or an error where the text spells none
abbrev pub ReadsByFamily : {A V E : Type 0} → (Family → List ℕ → V → Type 0) → (A → Family) → (A → V) → (List ℕ → Result A E → Type 0) → Type 0
ReadsByFamily {A} {V} {E} Spells family view Gives =
    (text : List ℕ) (r : Result A E) → Gives text r → MatchResult r (λ a. Spells (family a) text (view a)) (λ e. (a : A) → ¬ (Spells (family a) text (view a)))

-- what is printed is this form of the value, in its family
abbrev pub PrintsByFamily : {A V : Type 0} → (Family → V → List ℕ) → (A → Family) → (A → V) → (A → Option (List ℕ)) → Type 0
PrintsByFamily {A} form family view output = (a : A) → output a ≡ Some (form (family a) (view a))
