-- Strictly ascending lists of networks.
use Rattle.std.proofs.Common.{◌≡◌, Bool, List, [], ◌∷◌, ◌++◌, subst, inl, inr}
use Rattle.std.proofs.lemmas.List.Elements.{All-contains, Contains-append_cases, Contains-append_left}
use Rattle.std.proofs.lemmas.Map.Views.{All-after_first}
use Rattle.std.specs.List.{Contains, AllByRecursion}
use Rattle.std.specs.List.Sorted.{IsStrictlySortedBy}
use Rattle.std.specs.declared.cmp.Ordering.TheVariants.{Less}
use Rattle.cidr.specs.model.Bits.{bit_cmp}
use Rattle.cidr_table.proofs.MapLaws.{contains_first, contains_later, contains_cases, contains_nothing}

pub first_less : (m : List Bool) (ms : List (List Bool)) → IsStrictlySortedBy bit_cmp (m ∷ ms) → (x : List Bool)
    → Contains ms x → bit_cmp m x ≡ Less
first_less m ms s x c = All-contains (λ z. bit_cmp m z ≡ Less) ms x (All-after_first bit_cmp m ms s) c

pub all_less : (m : List Bool) (ms : List (List Bool)) → ((x : List Bool) → Contains ms x → bit_cmp m x ≡ Less)
    → AllByRecursion (λ z. bit_cmp m z ≡ Less) ms
all_less m [] h = tt
all_less m (x ∷ ms) h = (h x (contains_first x ms), all_less m ms (λ y c. h y (contains_later x y ms c)))

pub sorted_append : (ms ns : List (List Bool)) → IsStrictlySortedBy bit_cmp ms → IsStrictlySortedBy bit_cmp ns
    → ((m n : List Bool) → Contains ms m → Contains ns n → bit_cmp m n ≡ Less) → IsStrictlySortedBy bit_cmp (ms ++ ns)
unfolding IsStrictlySortedBy
sorted_append [] ns s t less = t
sorted_append (m ∷ ms) ns s t less = (
  all_less m (ms ++ ns) (λ x c. elim (Contains-append_cases ms ns x c) [
    | inl d ↦ first_less m ms s x d
    | inr d ↦ less m x (contains_first m ms) d
  ]),
  sorted_append ms ns s.1 t (λ l n c. less l n (contains_later m l ms c)),
)

pub sorted_front : (ms ns : List (List Bool)) → IsStrictlySortedBy bit_cmp (ms ++ ns) → IsStrictlySortedBy bit_cmp ms
unfolding IsStrictlySortedBy
sorted_front [] ns s = tt
sorted_front (m ∷ ms) ns s = (
  all_less m ms
      (λ x c. first_less m (ms ++ ns) s x (Contains-append_left ms ns x c)),
  sorted_front ms ns s.1,
)

pub sorted_push : (ms : List (List Bool)) (n : List Bool) → IsStrictlySortedBy bit_cmp ms
    → ((m : List Bool) → Contains ms m → bit_cmp m n ≡ Less)
    → IsStrictlySortedBy bit_cmp (ms ++ n ∷ [])
unfolding IsStrictlySortedBy
sorted_push ms n s less = sorted_append ms (n ∷ []) s (tt, tt) (λ m x c d. elim (contains_cases n x [] d) [
  | inl e ↦ subst (λ y. bit_cmp m y ≡ Less) e (less m c)
  | inr f ↦ absurd (contains_nothing x f)
])
