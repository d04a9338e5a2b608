-- Sets by the addresses of their networks.
use Rattle.std.proofs.Common.{◌≡◌, ◌↔◌, ℕ, ◌≤◌, Bool, List, [], ◌∷◌, length, map, refl, sym, subst, inl, inr}
use Rattle.std.specs.List.{Contains}
use Rattle.std.specs.List.Sorted.{IsStrictlySortedBy}
use Rattle.cidr.specs.model.Network.{BeginsWith}
use Rattle.cidr_table.specs.model.Cover.{Covers, IsFull, IsLeastCover, CoverSame}
use Rattle.cidr_table.specs.model.Cover.{IsReduced}
use Rattle.cidr_table.proofs.Halves.{begins_begins}
use Rattle.cidr_table.proofs.MapLaws.{contains_first, contains_later, contains_cases, contains_nothing}
use Rattle.cidr_table.proofs.Members.{begins_member}
use Rattle.cidr_table.proofs.Reduced.{back, least_alike, reduced_is_least}
use Rattle.cidr_table.proofs.Refinements.{exact}
use Rattle.cidr_table.proofs.Uniqueness.{one_cover}
use Rattle.cidr_sets.specs.model.Sets.{IsSetOf}

-- ---- normal forms
pub one_list : (w : ℕ) (these those : List (List Bool)) → IsReduced w these → IsReduced w those
    → CoverSame w these those → these ≡ those
one_list w r s h k same = one_cover w r r s h (least_alike w s r s (back w r s same) k)

-- a set of the same addresses is the same list
pub same_sets : (w : ℕ) (P : List Bool → Type 0) (these those : List (List Bool)) → IsSetOf w P these → IsSetOf w P those → these ≡ those
same_sets w P r s h k = one_list w r s h.reduced k.reduced
    (λ a la. (λ c. (k.exact a la).1 ((h.exact a la).0 c), λ c. (h.exact a la).1 ((k.exact a la).0 c)))

pub none_reduced : (w : ℕ) → IsReduced w []
unfolding IsStrictlySortedBy
none_reduced w = reduced_is_least w [] tt (λ p c. absurd (contains_nothing p c)) (λ q c d. contains_nothing _ c)
    (λ p q c d b. absurd (contains_nothing p c))

-- the least cover of networks is the set of their addresses
pub set_from_cover : (w : ℕ) (keys cover : List (List Bool)) → IsLeastCover w keys cover
    → IsSetOf w (Covers keys) cover
set_from_cover w keys cover h = record {
  reduced = least_alike w keys cover cover (exact w keys cover h) h;
  exact = back w keys cover (exact w keys cover h);
}

-- the set of the same addresses
pub set_alike : (w : ℕ) (P Q : List Bool → Type 0) (s : List (List Bool))
    → ((a : List Bool) → length a ≡ w → P a ↔ Q a) → IsSetOf w P s → IsSetOf w Q s
set_alike w P Q s same h = record {
  reduced = h.reduced;
  exact = λ a la. (λ c. (same a la).0 ((h.exact a la).0 c), λ q. (h.exact a la).1 ((same a la).1 q));
}

-- all addresses of a network are in a set exactly if one of its networks contains it
pub covers_from_full : (w : ℕ) (s : List (List Bool)) (p : List Bool) → IsReduced w s → length p ≤ w
    → IsFull w s p → Covers s p
covers_from_full w s p h short f =
    let r = begins_member w s (length p) p refl short f in
    (r.0, (h.members r.0).1 r.1, r.2)

pub full_from_covers : (w : ℕ) (s : List (List Bool)) (p : List Bool) → Covers s p → IsFull w s p
full_from_covers w s p c a la b = (c.0, c.1, begins_begins a p c.0 b c.2)

-- ---- networks by their bits
module _ {C : Type 0} (f : C → List Bool) where
  pub map_contains : (xs : List C) (x : C) → Contains xs x → Contains (map f xs) (f x)
  map_contains [] x c = absurd (contains_nothing x c)
  map_contains (y ∷ xs) x c = elim (contains_cases y x xs c) [
    | inl e ↦ subst (λ z. Contains (map f (y ∷ xs)) (f z)) e (contains_first (f y) (map f xs))
    | inr d ↦ contains_later (f y) (f x) (map f xs) (map_contains xs x d)
  ]

  pub map_contained : (xs : List C) (p : List Bool) → Contains (map f xs) p → (x : C) × Contains xs x × (f x ≡ p)
  map_contained [] p c = absurd (contains_nothing p c)
  map_contained (y ∷ xs) p c = elim (contains_cases (f y) p (map f xs) c) [
    | inl e ↦ (y, contains_first y xs, e)
    | inr d ↦ let r = map_contained xs p d in (r.0, contains_later y r.0 xs r.1, r.2)
  ]

  pub covers_to : (xs : List C) (x : C) (a : List Bool) → Contains xs x → BeginsWith a (f x) → Covers (map f xs) a
  covers_to xs x a c b = (f x, map_contains xs x c, b)

  pub covers_by : (xs : List C) (a : List Bool) → Covers (map f xs) a → (x : C) × Contains xs x × BeginsWith a (f x)
  covers_by xs a c =
      let r = map_contained xs c.0 c.1 in
      (r.0, r.1, subst (BeginsWith a) (sym r.2) c.2)

  pub covers_more : (xs ys : List C) → ((x : C) → Contains xs x → Contains ys x) → (a : List Bool)
      → Covers (map f xs) a → Covers (map f ys) a
  covers_more xs ys h a c = let r = covers_by xs a c in covers_to ys r.0 a (h r.0 r.1) r.2
