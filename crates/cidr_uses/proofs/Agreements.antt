-- What agreement in all of five or in none says of texts and bytes, and which addresses a mapped walk has.
use Rattle.std.proofs.Common.{◌≡◌, ◌↔◌, ℕ, zero, suc, ◌<◌, Bool, true, false, not, List, [], ◌∷◌, length, map, get_or, IsTrue, IsFalse, nat_eq, refl, sym, ap, ap₂, ◌∙◌, subst, arith, ◌⊎◌, inl, inr, slice_get, Some}
use Rattle.std.proofs.lemmas.List.{get_or-map, length-map}
use Rattle.std.proofs.lemmas.Cmp.{nat_list_eq_equiv}
use Rattle.std.proofs.lemmas.Option.{get_or_from_slice_get}
use Rattle.std.specs.Cmp.Lexicographic.{pointwise, same_text}
use Rattle.std.specs.List.{Contains, AllByRecursion}
use Rattle.std.specs.List.Sorted.{IsStrictlySortedBy}
use Rattle.std.specs.declared.cmp.Ordering.{Ordering}
use Rattle.std.specs.declared.cmp.Ordering.TheVariants.{Less, Equal}
use Rattle.std.proofs.lemmas.Simd.{map-map}
use Rattle.cidr.specs.bytes.Agreement.{AllAgree, NoneAgrees, SameAddresses, IsAddressOf}
use Rattle.cidr.specs.declared.family.Family.{Family}
use Rattle.cidr.specs.model.Walk.{network_walk, network_hosts, addresses_of, HasExactly}

-- a test of two texts tells whether they are the same
told : (s t : List ℕ) → IsTrue (pointwise nat_eq s t) ↔ (s ≡ t)
told s t = (λ h. same_text s t (sym h), λ e. subst (λ x. pointwise nat_eq s x ≡ true) e (nat_list_eq_equiv.refl s))

same_or_none : (same : Bool) → IsTrue same ⊎ IsFalse same
same_or_none true = inl refl
same_or_none false = inr refl

not_true : (b : Bool) → ¬ (IsTrue b) → IsTrue (not b)
not_true true h = absurd (h refl)
not_true false h = refl

iff_of : (same : Bool) (P : Type 0) → (IsTrue same → P) → (IsFalse same → ¬ P) → IsTrue same ↔ P
iff_of true P if_true if_false = (λ t. if_true t, λ p. refl)
iff_of false P if_true if_false = (λ t. absurd (cc), λ p. absurd (if_false refl p))

module _ {N : Type 0} (Holds : N → List Bool → Type 0) (text bytes : N → List ℕ) (cmp : N → N → Ordering) (x y : N) (same : Bool)
    (all : IsTrue same ↔ AllAgree Holds text bytes cmp x y) (none : IsFalse same ↔ NoneAgrees Holds text bytes cmp x y) where
  -- the test says of each of the five whether it holds
  by_order : IsTrue same ↔ (cmp x y ≡ Equal)
  by_order = iff_of same (cmp x y ≡ Equal) (λ t. (all.0 t).order) (λ f. (none.0 f).order)

  by_addresses : IsTrue same ↔ SameAddresses (Holds x) (Holds y)
  by_addresses = iff_of same (SameAddresses (Holds x) (Holds y)) (λ t. (all.0 t).addresses) (λ f. (none.0 f).addresses)

  by_texts : IsTrue same ↔ (text x ≡ text y)
  by_texts = iff_of same (text x ≡ text y) (λ t. (all.0 t).texts) (λ f. (none.0 f).texts)

  by_bytes : IsTrue same ↔ (bytes x ≡ bytes y)
  by_bytes = iff_of same (bytes x ≡ bytes y) (λ t. (all.0 t).compact) (λ f. (none.0 f).compact)

  -- the same texts are printed exactly of the same addresses
  pub texts_tell : (s t : List ℕ) → s ≡ text x → t ≡ text y → IsTrue (pointwise nat_eq s t) ↔ SameAddresses (Holds x) (Holds y)
  texts_tell s t e f = elim (same_or_none same) [
    | inl same_all ↦
        let agree = all.0 same_all in
        (λ h. agree.addresses, λ h. (told s t).1 (e ∙ agree.texts ∙ sym f))
    | inr apart ↦
        let differ = none.0 apart in
        (λ h. absurd (differ.texts (sym e ∙ (told s t).0 h ∙ f)), λ h. absurd (differ.addresses h))
  ]

  -- networks have the same addresses exactly if they are printed alike
  pub printed_alike : SameAddresses (Holds x) (Holds y) ↔ (text x ≡ text y)
  printed_alike = (λ h. by_texts.0 (by_addresses.1 h), λ e. by_addresses.0 (by_texts.1 e))

  -- what is ordered has other bytes
  pub bytes_differ : cmp x y ≡ Less → ¬ (bytes x ≡ bytes y)
  bytes_differ less e = let bad : Less ≡ Equal = sym less ∙ by_order.0 (by_bytes.1 e) in cc

  -- and so has what tells them
  pub bytes_tell : (s t : List ℕ) → s ≡ bytes x → t ≡ bytes y → cmp x y ≡ Less → IsTrue (not (pointwise nat_eq s t))
  bytes_tell s t e f less = elim (same_or_none same) [
    | inl same_all ↦ let bad : Less ≡ Equal = sym less ∙ (all.0 same_all).order in cc
    | inr apart ↦ not_true (pointwise nat_eq s t) (λ h. (none.0 apart).compact (sym e ∙ (told s t).0 h ∙ f))
  ]

-- the elements of a mapped list
pub contains_mapped : {X Y : Type 0} (f : X → Y) → ((a b : X) → f a ≡ f b → a ≡ b) → (xs : List X) (x : X) → Contains (map f xs) (f x) ↔ Contains xs x
contains_mapped f back xs x = (
  λ (k, within, at).
      let h : k < length xs = rw (length-map xs f) at within in
      (k, h, back (get_or xs k x) x (sym (get_or-map f xs k x (f x) h) ∙ at)),
  λ (k, within, at). (k, rw (length-map xs f) within, get_or-map f xs k x (f x) within ∙ ap f at),
)

all_at : {X : Type 0} (P : X → Type 0) (xs : List X) (i : ℕ) (d : X) → AllByRecursion P xs → i < length xs → P (get_or xs i d)
all_at P [] i d all h = absurd (omega arith)
all_at P (x ∷ xs) zero d all h = all.0
all_at P (x ∷ xs) (suc i) d all h = all_at P xs i d all.1 (omega arith)

-- of two places in strict order the earlier is less
sorted_at : {X : Type 0} (cmp : X → X → Ordering) (xs : List X) (i j : ℕ) (d e : X) → IsStrictlySortedBy cmp xs → i < j → j < length xs
    → cmp (get_or xs i d) (get_or xs j e) ≡ Less
unfolding IsStrictlySortedBy
sorted_at cmp [] i j d e sorted h within = absurd (omega arith)
sorted_at cmp (x ∷ xs) i zero d e sorted h within = absurd (omega arith)
sorted_at cmp (x ∷ xs) zero (suc j) d e sorted h within = all_at (λ y. cmp x y ≡ Less) xs j e sorted.0 (omega arith)
sorted_at cmp (x ∷ xs) (suc i) (suc j) d e sorted h within = sorted_at cmp xs i j d e sorted.1 (omega arith) (omega arith)

pub sorted_items : {X : Type 0} (cmp : X → X → Ordering) (xs : List X) (i j : ℕ) (x y : X) → x ≡ get_or xs i x → y ≡ get_or xs j y
    → IsStrictlySortedBy cmp xs → i < j → j < length xs → cmp x y ≡ Less
sorted_items cmp xs i j x y here there sorted h within = ap₂ cmp here there ∙ sorted_at cmp xs i j x y sorted h within

-- the addresses of a network's walk, in its family
walk_addresses : (family : Family) (network : List Bool) → addresses_of (network_hosts family network) ≡ map (λ a. (family, a)) (network_walk family network)
walk_addresses family network = map-map _ _ (network_walk family network)

pub walk_of_network : (family : Family) (network : List Bool) (walk : List (Family × List Bool)) → walk ≡ addresses_of (network_hosts family network)
    → HasExactly family network (network_walk family network) → (a : List Bool) → Contains walk (family, a) ↔ IsAddressOf family network a
walk_of_network family network walk e exact a =
    let mapped = contains_mapped (λ x. (family, x)) (λ x y same. ap (λ p. p.1) same) (network_walk family network) a in
    let whole = exact a in
    rw (e ∙ walk_addresses family network) (λ h. whole.0 (mapped.0 h), λ h. mapped.1 (whole.1 h))

-- the item at an index, told in two ways
pub same_item : {X : Type 0} (xs : List X) (i : ℕ) (x y : X) → x ≡ get_or xs i x → slice_get xs i ≡ Some y → y ≡ x
same_item xs i x y here got = sym (get_or_from_slice_get xs i y x got) ∙ sym here
