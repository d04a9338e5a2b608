-- Two ascending lists with the same elements are one list, so there is one least cover.
use Rattle.std.proofs.Common.{◌≡◌, ℕ, Bool, List, [], ◌∷◌, refl, sym, ap₂, subst, inl, inr}
use Rattle.std.proofs.lemmas.Map.Keys.{sorted_tail}
use Rattle.std.specs.List.{Contains}
use Rattle.std.specs.List.Sorted.{IsStrictlySortedBy}
use Rattle.std.specs.declared.cmp.Ordering.TheVariants.{Less}
use Rattle.cidr.specs.model.Bits.{bit_cmp}
use Rattle.cidr_table.specs.model.Cover.{IsLeastCover}
use Rattle.cidr_table.proofs.Order.{less_not_itself, not_both}
use Rattle.cidr_table.proofs.Ascending.{first_less}
use Rattle.cidr_table.proofs.MapLaws.{contains_first, contains_later, contains_cases, contains_nothing}

-- the rest of a list does not have its first again
rest_within : (m : List Bool) (ms ns : List (List Bool)) → IsStrictlySortedBy bit_cmp (m ∷ ms)
    → ((x : List Bool) → Contains (m ∷ ms) x → Contains (m ∷ ns) x) → (x : List Bool) → Contains ms x → Contains ns x
rest_within m ms ns s within x c = elim (contains_cases m x ns (within x (contains_later m x ms c))) [
  | inl e ↦ absurd (less_not_itself m (subst (λ y. bit_cmp m y ≡ Less) (sym e) (first_less m ms s x c)))
  | inr d ↦ d
]

same_first : (m : List Bool) (ms : List (List Bool)) (n : List Bool) (ns : List (List Bool))
    → IsStrictlySortedBy bit_cmp (m ∷ ms) → IsStrictlySortedBy bit_cmp (n ∷ ns) → Contains (n ∷ ns) m
    → Contains (m ∷ ms) n → m ≡ n
same_first m ms n ns s t c d = elim (contains_cases n m ns c) [
  | inl e ↦ sym e
  | inr k ↦ elim (contains_cases m n ms d) [
    | inl e ↦ e
    | inr l ↦ absurd (not_both m n (first_less m ms s n l) (first_less n ns t m k))
  ]
]

same_list : (ms ns : List (List Bool)) → IsStrictlySortedBy bit_cmp ms → IsStrictlySortedBy bit_cmp ns
    → ((x : List Bool) → Contains ms x → Contains ns x) → ((x : List Bool) → Contains ns x → Contains ms x) → ms ≡ ns
same_list [] [] s t h k = refl
same_list [] (n ∷ ns) s t h k = absurd (contains_nothing n (k n (contains_first n ns)))
same_list (m ∷ ms) [] s t h k = absurd (contains_nothing m (h m (contains_first m ms)))
same_list (m ∷ ms) (n ∷ ns) s t h k =
    let e = same_first m ms n ns s t (h m (contains_first m ms)) (k n (contains_first n ns)) in
    let r = same_list ms ns (sorted_tail bit_cmp m ms s) (sorted_tail bit_cmp n ns t)
    (rest_within m ms ns s (λ x c. subst (λ y. Contains (y ∷ ns) x) (sym e) (h x c)))
    (rest_within n ns ms t (λ x c. subst (λ y. Contains (y ∷ ms) x) e (k x c))) in
    ap₂ (λ x xs. x ∷ xs) e r

pub one_cover : (w : ℕ) (keys cover other : List (List Bool)) → IsLeastCover w keys cover → IsLeastCover w keys other
    → cover ≡ other
one_cover w keys cover other h k =
    same_list cover other h.ascending k.ascending (λ x c. (k.members x).1 ((h.members x).0 c))
    (λ x c. (h.members x).1 ((k.members x).0 c))
