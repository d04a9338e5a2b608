-- Rows at their places, and their keys.
use Rattle.std.proofs.Common.{◌≡◌, refl, ◌∙◌, ap, arith, ℕ, zero, suc, ◌-◌, ◌<◌, ◌≤◌, List, [], ◌∷◌, length, inl, inr, get_or, Option, Some, None, slice_get, ◌↔◌}
use Rattle.std.specs.Prelude.{MatchOption}
use Rattle.std.proofs.lemmas.List.{length-map}
use Rattle.std.specs.List.{Contains}
use Rattle.std.specs.Map.{keys_of}
use Rattle.std.proofs.lemmas.Bool.{cases_lt}
use Rattle.cidr.specs.declared.addr.ip.IpAddr.{IpAddr}
use Rattle.cidr.specs.declared.addr.ip.IpAddr.TheVariants.{V4, V6}
use Rattle.cidr.specs.either.IpAddress.{ip_address_bits}
use Rattle.cidr.specs.either.IpNetwork.{any_bits, any_of, lone_network}
use Rattle.cidr_table.specs.model.FiniteMap.{IsUnder}
use Rattle.cidr_table.specs.model.Loading.{IsLastPlace}

module _ {C V : Type 0} where
  -- the row at the place of a key
  pub row_of_key : (rows : List (C × V)) (i : ℕ) (key : C) → slice_get (keys_of rows) i ≡ Some key → (value : V) × (slice_get rows i ≡ Some (key, value))
  row_of_key [] i key h = absurd (none_is_some key h)
    where
      none_is_some : (key : C) → slice_get (keys_of {K = C} {X = V} []) i ≡ Some key → ⊥
      none_is_some key h = cc
  row_of_key (e ∷ rows) zero key h = (e.1, ap (λ k. Some (k, e.1)) (some_is e.0 key h))
    where
      some_is : (a b : C) → Some a ≡ Some b → a ≡ b
      some_is a b h = cc
  row_of_key (e ∷ rows) (suc i) key h = row_of_key rows i key h

  key_at : (rows : List (C × V)) (i : ℕ) (key : C) (row : C × V) → i < length rows → get_or (keys_of rows) i key ≡ (get_or rows i row).0
  key_at [] i key row l = absurd (omega arith)
  key_at (e ∷ rows) zero key row l = refl
  key_at (e ∷ rows) (suc i) key row l = key_at rows i key row (omega arith)

  -- a row's key is one of the keys
  pub contains_key : (rows : List (C × V)) (row : C × V) → Contains rows row → Contains (keys_of rows) row.0
  contains_key rows row (i, l, e) = (i, omega (arith, length-map rows (λ (x : C × V). x.0)), key_at rows i row.0 row l ∙ ap (λ r. r.0) e)

pub contains_at : {X : Type 0} (xs : List X) (i : ℕ) (x : X) → slice_get xs i ≡ Some x → Contains xs x
contains_at [] i x h = absurd (none_is_some x h)
  where
    none_is_some : {X : Type 0} (x : X) → None ≡ Some x → ⊥
    none_is_some x h = cc
contains_at (y ∷ xs) zero x h = (0, omega arith, some_is y x h)
  where
    some_is : {X : Type 0} (a b : X) → Some a ≡ Some b → a ≡ b
    some_is a b h = cc
contains_at (y ∷ xs) (suc i) x h = let c = contains_at xs i x h in (suc c.0, omega (arith, c.1), c.2)

pub within : {X : Type 0} (xs : List X) (i : ℕ) (x : X) → slice_get xs i ≡ Some x → i < length xs
within [] i x h = absurd (none_is_some x h)
  where
    none_is_some : {X : Type 0} (x : X) → None ≡ Some x → ⊥
    none_is_some x h = cc
within (y ∷ xs) zero x h = omega arith
within (y ∷ xs) (suc i) x h = let l = within xs i x h in omega (arith, l)

shown_at : {X : Type 0} (xs : List X) (i : ℕ) (x : X) → i < length xs → get_or xs i x ≡ x → slice_get xs i ≡ Some x
shown_at [] i x l e = absurd (omega arith)
shown_at (y ∷ xs) zero x l e = ap (λ z. Some z) e
shown_at (y ∷ xs) (suc i) x l e = shown_at xs i x (omega arith) e

-- what has no last place in a list isn't in it
not_listed_at : {X : Type 0} (xs : List X) (x : X) → ((place : ℕ) → ¬ (IsLastPlace xs x place)) → (n i : ℕ) → length xs - i ≤ n → ¬ (slice_get xs i ≡ Some x)
not_listed_at xs x none zero i le here = let l = within xs i x here in absurd (omega (arith, l, le))
not_listed_at xs x none (suc n) i le here = none i (record {
  here = here;
  last = λ j there. elim (cases_lt i j) [ inl lt ↦ absurd (not_listed_at xs x none n j (omega (arith, le, lt)) there) | inr ge ↦ ge ];
})

pub not_listed : {X : Type 0} (xs : List X) (x : X) → ((place : ℕ) → ¬ (IsLastPlace xs x place)) → ¬ (Contains xs x)
not_listed xs x none c = not_listed_at xs x none (length xs) c.0 (omega arith) (shown_at xs c.0 x c.1 c.2)

-- what a table of last places has under a key
pub last_listed : {C : Type 0} (keys : List C) (rows : List (C × ℕ)) (key : C) → ((row : C × ℕ) → Contains rows row ↔ IsLastPlace keys row.0 row.1)
    → (r : Option ℕ) → IsUnder rows key r → MatchOption r (¬ (Contains keys key)) (IsLastPlace keys key)
last_listed keys rows key exactly (Some place) h = (exactly (key, place)).0 h
last_listed keys rows key exactly None h = not_listed keys key (λ place last. h (contains_key rows (key, place) ((exactly (key, place)).1 last)))

-- the bits of an address of either family as a network of its own
pub bits_of_address : (address : IpAddr) → any_bits (any_of (lone_network address)) ≡ ip_address_bits address
bits_of_address (V4 a) = refl
bits_of_address (V6 a) = refl
