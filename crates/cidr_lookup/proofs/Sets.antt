-- Networks as rows, and what their longest match tells.
use Rattle.std.proofs.Common.{◌≡◌, ◌≢◌, ◌↔◌, ℕ, Bool, List, [], ◌∷◌, map, refl, sym, ap, ◌∙◌, subst, inl, inr, Option, Some, None}
use Rattle.std.specs.Bool.{Decides}
use Rattle.std.specs.List.{Contains}
use Rattle.std.specs.Map.{keys_of}
use Rattle.std.specs.Option.{is_some}
use Rattle.std.proofs.lemmas.Bool.{false≢true}
use Rattle.std.proofs.lemmas.Option.{get_or_from_slice_get, slice_get_within}
use Rattle.cidr.specs.model.Network.{BeginsWith}
use Rattle.cidr_table.specs.model.Cover.{Covers}
use Rattle.cidr_table.specs.model.LastRows.{AreLastRows}
use Rattle.cidr_table.specs.model.Prefixes.{IsLongestMatch}
use Rattle.cidr_table.proofs.LastRows.{EndsAt, end_contains, end_of, last_row}
use Rattle.cidr_table.proofs.MapLaws.{contains_cases, contains_first, contains_key, contains_later, contains_nothing}
use Rattle.cidr_table.proofs.Members.{covered_or_not}

module _ {C : Type 0} (f : C → List Bool) where
  covers_to : (xs : List C) (x : C) (a : List Bool) → Contains xs x → BeginsWith a (f x) → Covers (map f xs) a
  covers_to [] x a c b = absurd (contains_nothing x c)
  covers_to (y ∷ xs) x a c b = elim (contains_cases y x xs c) [
    | inl e ↦ (f y, contains_first (f y) (map f xs), subst (λ z. BeginsWith a (f z)) (sym e) b)
    | inr d ↦ let k = covers_to xs x a d b in (k.0, contains_later (f y) k.0 (map f xs) k.1, k.2)
  ]

  covers_by : (xs : List C) (a : List Bool) → Covers (map f xs) a → (x : C) × Contains xs x × BeginsWith a (f x)
  covers_by [] a c = absurd (contains_nothing c.0 c.1)
  covers_by (y ∷ xs) a c = elim (contains_cases (f y) c.0 (map f xs) c.1) [
    | inl e ↦ (y, contains_first y xs, subst (BeginsWith a) (sym e) c.2)
    | inr d ↦ let k = covers_by xs a (c.0, d, c.2) in (k.0, contains_later y k.0 xs k.1, k.2)
  ]

  -- a longest match tells whether there is one
  pub tells : (ks : List C) (a : List Bool) (r : Option ℕ) → IsLongestMatch f a ks r → Decides (is_some r) (Covers (map f ks) a)
  tells ks a (Some index) h = (
    λ t. covers_to ks h.key a (index, slice_get_within ks index h.key h.here, get_or_from_slice_get ks index h.key h.key h.here) h.begins,
    λ c. refl,
  )
  tells ks a None h = (λ t. absurd (false≢true t), λ c. let k = covers_by ks a c in absurd (h k.0 k.1 k.2))

  -- ---- rows of networks, of which the last one of each is kept
  abbrev row : C → C × Unit {0}
  row x = (x, tt)

  keys_are : (xs : List C) → keys_of (map row xs) ≡ xs
  keys_are [] = refl
  keys_are (x ∷ xs) = ap (λ l. x ∷ l) (keys_are xs)

  -- what is no key of a last row is none
  no_last : (rows : List (C × Unit {0})) (key : C) → ((last : C × Unit {0}) → EndsAt rows last → last.0 ≢ key) → ¬ (Contains (keys_of rows) key)
  no_last [] key none c = absurd (contains_nothing key c)
  no_last (x ∷ rows) key none c =
      let behind : ¬ (Contains (keys_of rows) key) = no_last rows key (λ last e. none last (inr e)) in
      elim (contains_cases x.0 key (keys_of rows) c) [
        | inl e ↦ none x (inl (refl, λ k. behind (subst (Contains (keys_of rows)) e k))) e
        | inr d ↦ behind d
      ]

  pub covers_same : (xs : List C) (rows kept : List (C × Unit {0})) → rows ≡ map row xs → AreLastRows rows kept
      → (a : List Bool) → Covers (map f (keys_of kept)) a ↔ Covers (map f xs) a
  covers_same xs rows kept is last a =
      let keys : keys_of rows ≡ xs = ap keys_of is ∙ keys_are xs in (
        λ c.
            let (key, in_kept, begins) = covers_by (keys_of kept) a c in
            let (one, there, same) = kept_row kept key in_kept in
            let whole = contains_key rows one (end_contains rows one (end_of rows one ((last one).0 there))) in
            covers_to xs key a (subst (λ l. Contains l key) keys (subst (Contains (keys_of rows)) same whole)) begins,
        λ c. elim (covered_or_not (map f (keys_of kept)) a) [
          | inl covered ↦ covered
          | inr lacking ↦
              let (key, in_xs, begins) = covers_by xs a c in
              absurd (no_last rows key
              (λ one end same. lacking (covers_to (keys_of kept) key a (subst (Contains (keys_of kept)) same (contains_key kept one ((last one).1 (last_row rows one end)))) begins))
              (subst (λ l. Contains l key) (sym keys) in_xs))
        ],
      )
    where
      kept_row : (all : List (C × Unit {0})) (key : C) → Contains (keys_of all) key → (one : C × Unit {0}) × Contains all one × (one.0 ≡ key)
      kept_row [] key c = absurd (contains_nothing key c)
      kept_row (x ∷ all) key c = elim (contains_cases x.0 key (keys_of all) c) [
        | inl e ↦ (x, contains_first x all, e)
        | inr d ↦ let k = kept_row all key d in (k.0, contains_later x k.0 all k.1, k.2)
      ]
