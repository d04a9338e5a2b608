-- The rows whose key begins some bits, and which rows a search may pass over.
use Rattle.std.proofs.Common.{◌≡◌, ◌≢◌, ◌↔◌, refl, sym, ◌∙◌, ap, ap₂, arith, inl, inr, ℕ, zero, suc, ◌+◌, ◌<◌, ◌≤◌, Bool, true, false, List, [], ◌∷◌, length, map, get_or, take, drop, cond, filter, length-take, not, subst, Option, Some, None, Bor, IsTrue, is_some, option_copied}
use Rattle.std.proofs.lemmas.Bool.{cases_lt, true≢false, false≢true}
use Rattle.std.proofs.lemmas.List.{take-take, get_or_default, length-map}
use Rattle.std.proofs.lemmas.Map.Keys.{Less-from_sorted}
use Rattle.std.specs.Cmp.{IsTotalOrder}
use Rattle.std.specs.Ordering.{ordering_reverse}
use Rattle.std.specs.List.{AllByRecursion, Contains}
use Rattle.std.specs.List.Sorted.{IsStrictlySortedBy, IsStrictlyIncreasing}
use Rattle.std.specs.Map.{keys_of}
use Rattle.std.specs.declared.cmp.Ordering.{Ordering}
use Rattle.std.specs.declared.cmp.Ordering.TheVariants.{Less, Greater}
use Rattle.cidr.specs.model.Bits.{bit_cmp}
use Rattle.cidr.specs.model.BitString.{IsSharedLength}
use Rattle.cidr.specs.model.Network.{BeginsWith}
use Rattle.cidr_table.specs.internal.Places.{IsLowerBound, begins_with, matching}
use Rattle.std.specs.List.{items_where_true}
use Rattle.std.specs.List.Retain.{IsFiltered}
use Rattle.cidr_table.specs.model.FiniteMap.{IsUnder, AreCloned}
use Rattle.cidr_table.specs.model.Prefixes.{AreMatching, AreShortestFirst, AreOutside}
use Rattle.cidr_table.proofs.Beginnings.{begins_decides, not_before}
use Rattle.cidr_table.proofs.Insides.{sorted_drop}
use Rattle.cidr_table.proofs.MapLaws.{contains_first, contains_later, contains_cases, contains_nothing, contains_key}

-- of two lists that begin the same bits the shorter begins the longer
pub begins_longer : (a p q : List Bool) → BeginsWith a p → BeginsWith a q → length q ≤ length p → BeginsWith p q
begins_longer a p q b d le = ap (take (length q)) (sym b) ∙ take-take (length q) (length p) a le ∙ d

-- so the earlier of them is shorter
pub shorter : (a p q : List Bool) → BeginsWith a p → BeginsWith a q → bit_cmp p q ≡ Less → length p < length q
shorter a p q b d less = elim (cases_lt (length p) (length q)) [
  | inl lt ↦ lt
  | inr le ↦ absurd (not_before p q (begins_longer a p q b d le) less)
]

-- what is behind a key, and begins some bits, is longer than what these share with the key
pub longer_than_shared : (a p k : List Bool) (n : ℕ) → IsSharedLength a p n → BeginsWith a k → bit_cmp p k ≡ Less → n < length k
longer_than_shared a p k n shared b less = elim (cases_lt n (length k)) [
  | inl lt ↦ lt
  | inr le ↦
      let s = shared.shared.0 in
      let size : length s ≡ n = shared.shared.1 in
      let within : BeginsWith s k = begins_longer a s k shared.shared.2 b (omega arith) in
      absurd (not_before p k (sym (take-take (length k) (length s) p (omega arith)) ∙ (ap (take (length k)) shared.shared.3 ∙ within)) less)
]

-- and then it isn't before as many of the bits
pub not_before_first : (a k : List Bool) (n : ℕ) → BeginsWith a k → n ≤ length k → bit_cmp k (take n a) ≢ Less
not_before_first a k n b le = not_before k (take n a) (begins_longer a k (take n a) b (first n a) (omega (arith, length-take n a)))
  where
    first : (n : ℕ) (a : List Bool) → BeginsWith a (take n a)
    first zero a = refl
    first (suc n) [] = refl
    first (suc n) (x ∷ a) = ap (λ t. x ∷ t) (first n a)

not_true : (b : Bool) → b ≢ true → b ≡ false
not_true true n = absurd (n refl)
not_true false n = refl

-- a filtered list has the elements of the list that pass the test
pub contains_filtered : {X : Type 0} (test : X → Bool) (xs : List X) (x : X) → Contains (filter test xs) x ↔ (Contains xs x × (test x ≡ true))
contains_filtered test [] x = (λ h. absurd (contains_nothing x h), λ h. absurd (contains_nothing x h.0))
contains_filtered test (e ∷ xs) x = elim (test e) as
    (λ t. test e ≡ t → Contains (cond t (e ∷ filter test xs) (filter test xs)) x ↔ (Contains (e ∷ xs) x × (test x ≡ true))) [
      | true ↦ λ q. (
        λ h. elim (contains_cases e x (filter test xs) h) [
          | inl f ↦ rw (sym f) (contains_first e xs, q)
          | inr later ↦ let r = (contains_filtered test xs x).0 later in (contains_later e x xs r.0, r.1)
        ],
        λ h. elim (contains_cases e x xs h.0) [
          | inl f ↦ rw (sym f) (contains_first e (filter test xs))
          | inr later ↦ contains_later e x (filter test xs) ((contains_filtered test xs x).1 (later, h.1))
        ],
      )
      | false ↦ λ q. (
        λ h. let r = (contains_filtered test xs x).0 h in (contains_later e x xs r.0, r.1),
        λ h. elim (contains_cases e x xs h.0) [
          | inl f ↦ absurd (true≢false (sym h.1 ∙ (ap test (sym f) ∙ q)))
          | inr later ↦ (contains_filtered test xs x).1 (later, h.1)
        ],
      )
    ] refl

module _ {C V : Type 0} (bits : C → List Bool) (a : List Bool) where
  abbrev begins : C × V → Bool
  begins row = begins_with a (bits row.0)

  pub matching_first : (row : C × V) (rows : List (C × V)) → BeginsWith a (bits row.0) → matching bits a (row ∷ rows) ≡ row ∷ matching bits a rows
  matching_first row rows b = ap (λ t. cond t (row ∷ matching bits a rows) (matching bits a rows)) ((begins_decides a (bits row.0)).1 b)

  pub matching_other : (row : C × V) (rows : List (C × V)) → ¬ (BeginsWith a (bits row.0)) → matching bits a (row ∷ rows) ≡ matching bits a rows
  matching_other row rows n =
      ap (λ t. cond t (row ∷ matching bits a rows) (matching bits a rows)) (not_true (begins_with a (bits row.0)) (λ t. n ((begins_decides a (bits row.0)).0 t)))

  -- rows whose keys don't begin the bits may be passed over
  pub matching_behind : (n : ℕ) (rows : List (C × V)) → ((j : ℕ) (any : C) → j < n → j < length rows → ¬ (BeginsWith a (bits (get_or (keys_of rows) j any))))
      → matching bits a rows ≡ matching bits a (drop n rows)
  matching_behind zero rows h = refl
  matching_behind (suc n) [] h = refl
  matching_behind (suc n) (row ∷ rows) h =
      matching_other row rows (h 0 row.0 (omega arith) (omega arith)) ∙ matching_behind n rows (λ j any l w. h (suc j) any (omega arith) (omega arith))

  -- none of them where all keys come behind the bits
  pub matching_none : (rows : List (C × V)) → AllByRecursion (λ k. bit_cmp a (bits k) ≡ Less) (keys_of rows) → matching bits a rows ≡ []
  matching_none [] all = refl
  matching_none (row ∷ rows) all = matching_other row rows (λ b. not_before a (bits row.0) b all.0) ∙ matching_none rows all.1

  -- exactly the rows whose key begins the bits
  pub are_matching : (rows : List (C × V)) → AreMatching bits a rows (matching bits a rows)
  are_matching rows row = (
    λ h. let k = (contains_filtered begins rows row).0 h in (k.0, (begins_decides a (bits row.0)).0 k.1),
    λ h. (contains_filtered begins rows row).1 (h.0, (begins_decides a (bits row.0)).1 h.1),
  )

  -- the keys of later rows that begin the bits are longer
  later_longer : (e : C × V) → BeginsWith a (bits e.0) → (rows : List (C × V)) → AllByRecursion (λ k. bit_cmp (bits e.0) (bits k) ≡ Less) (keys_of rows)
      → AllByRecursion (λ n. length (bits e.0) < n) (map (λ (row : C × V). length (bits row.0)) (matching bits a rows))
  later_longer e b [] all = tt
  later_longer e b (row ∷ rows) all = elim (begins_with a (bits row.0)) as
      (λ t. begins_with a (bits row.0) ≡ t → AllByRecursion (λ n. length (bits e.0) < n) (map (λ (r : C × V). length (bits r.0)) (cond t (row ∷ matching bits a rows) (matching bits a rows)))) [
        | true ↦ λ q. (shorter a (bits e.0) (bits row.0) b ((begins_decides a (bits row.0)).0 q) all.0, later_longer e b rows all.1)
        | false ↦ λ q. later_longer e b rows all.1
      ] refl

increasing_first : (n : ℕ) (ns : List ℕ) → AllByRecursion (λ m. n < m) ns → IsStrictlyIncreasing ns → IsStrictlyIncreasing (n ∷ ns)
increasing_first n [] all h zero l = absurd (omega arith)
increasing_first n (m ∷ ns) all h zero l = all.0
increasing_first n [] all h (suc k) l = absurd (omega arith)
increasing_first n (m ∷ ns) all h (suc k) l = let next : suc k + 1 ≡ suc (k + 1) = omega arith in rw next (h k (omega arith))

all_bits : {C : Type 0} (cmp : C → C → Ordering) (bits : C → List Bool) → ((x y : C) → cmp x y ≡ bit_cmp (bits x) (bits y))
    → (k : C) (keys : List C) → AllByRecursion (λ z. cmp k z ≡ Less) keys → AllByRecursion (λ z. bit_cmp (bits k) (bits z) ≡ Less) keys
all_bits cmp bits ordered k [] all = tt
all_bits cmp bits ordered k (z ∷ keys) all = (sym (ordered k z) ∙ all.0, all_bits cmp bits ordered k keys all.1)

module _ {C V : Type 0} (cmp : C → C → Ordering) (bits : C → List Bool) (ordered : (x y : C) → cmp x y ≡ bit_cmp (bits x) (bits y)) (a : List Bool) where
  pub are_shortest_first : (rows : List (C × V)) → IsStrictlySortedBy cmp (keys_of rows) → AreShortestFirst bits (matching bits a rows)
  unfolding IsStrictlySortedBy
  are_shortest_first [] s = λ k l. absurd (omega arith)
  are_shortest_first (e ∷ rows) s = elim (begins_with a (bits e.0)) as
      (λ t. begins_with a (bits e.0) ≡ t → AreShortestFirst bits (cond t (e ∷ matching bits a rows) (matching bits a rows))) [
        | true ↦ λ q. increasing_first (length (bits e.0)) (map (λ (row : C × V). length (bits row.0)) (matching bits a rows))
            (later_longer bits a e ((begins_decides a (bits e.0)).0 q) rows (all_bits cmp bits ordered e.0 (keys_of rows) s.0)) (are_shortest_first rows s.1)
        | false ↦ λ q. are_shortest_first rows s.1
      ] refl

-- the rows whose key isn't in the outer network
pub are_outside : {C V : Type 0} (bits : C → List Bool) (outer : List Bool) (rows : List (C × V))
    → AreOutside bits rows outer (filter (λ row. not (begins_with (bits row.0) outer)) rows)
are_outside bits outer rows row = (
  λ h. let k = (contains_filtered (λ r. not (begins_with (bits r.0) outer)) rows row).0 h in (k.0, λ b. true≢false (sym k.1 ∙ ap not ((begins_decides (bits row.0) outer).1 b))),
  λ h. (contains_filtered (λ r. not (begins_with (bits r.0) outer)) rows row).1 (h.0, ap not (not_true (begins_with (bits row.0) outer) (λ t. h.1 ((begins_decides (bits row.0) outer).0 t)))),
)

-- of ascending rows any that are kept ascend
module _ {C V : Type 0} (cmp : C → C → Ordering) where
  all_kept : (P : C → Type 0) (bs : List Bool) (rows : List (C × V)) → AllByRecursion P (keys_of rows) → AllByRecursion P (keys_of (items_where_true bs rows))
  all_kept P [] rows a = tt
  all_kept P (b ∷ bs) [] a = tt
  all_kept P (true ∷ bs) (e ∷ rows) a = (a.0, all_kept P bs rows a.1)
  all_kept P (false ∷ bs) (e ∷ rows) a = all_kept P bs rows a.1

  sorted_where : (bs : List Bool) (rows : List (C × V)) → IsStrictlySortedBy cmp (keys_of rows) → IsStrictlySortedBy cmp (keys_of (items_where_true bs rows))
  unfolding IsStrictlySortedBy
  sorted_where [] rows s = tt
  sorted_where (b ∷ bs) [] s = tt
  sorted_where (true ∷ bs) (e ∷ rows) s = (all_kept (λ z. cmp e.0 z ≡ Less) bs rows s.0, sorted_where bs rows s.1)
  sorted_where (false ∷ bs) (e ∷ rows) s = sorted_where bs rows s.1

  pub sorted_kept : {P : Type 0} (step : P → C × V → Bool → P → Type 0) (p : P) (rows kept : List (C × V)) → IsFiltered step p rows kept
      → IsStrictlySortedBy cmp (keys_of rows) → IsStrictlySortedBy cmp (keys_of kept)
  sorted_kept step p rows kept f s = subst (λ t. IsStrictlySortedBy cmp (keys_of t)) (sym f.4) (sorted_where f.0 rows s)

-- what is under a key tells whether it is there
pub under_tells : {C V : Type 0} (rows : List (C × V)) (key : C) (r : Option (Bor V)) → IsUnder rows key (option_copied r)
    → IsTrue (is_some r) ↔ Contains (keys_of rows) key
under_tells rows key None h = (λ t. absurd (false≢true t), λ c. absurd (h c))
under_tells rows key (Some v) h = (λ t. contains_key rows (key, v.now) h, λ c. refl)

-- the step over the rows: on to those behind the first, or to an end
module _ {C V : Type 0} (cmp : C → C → Ordering) (bits : C → List Bool) (ordered : (x y : C) → cmp x y ≡ bit_cmp (bits x) (bits y))
    (row : C × V) (behind : List (C × V)) (sorted : IsStrictlySortedBy cmp (keys_of (row ∷ behind))) (asked : C) where
  pub sorted_behind : IsStrictlySortedBy cmp (keys_of behind)
  sorted_behind = sorted_drop cmp 1 (row ∷ behind) sorted

  all_above : IsTotalOrder cmp → cmp asked row.0 ≡ Less → (keys : List C) → AllByRecursion (λ k. cmp row.0 k ≡ Less) keys
      → AllByRecursion (λ k. bit_cmp (bits asked) (bits k) ≡ Less) keys
  all_above o h [] all = tt
  all_above o h (k ∷ keys) all = (sym (ordered asked k) ∙ o.trans asked row.0 k h all.0, all_above o h keys all.1)

  -- a key behind the asked bits ends it
  pub none_from : IsTotalOrder cmp → cmp row.0 asked ≡ Greater → matching bits (bits asked) (row ∷ behind) ≡ []
  unfolding IsStrictlySortedBy
  none_from o h =
      let less : cmp asked row.0 ≡ Less = o.antisymm asked row.0 ∙ ap ordering_reverse h in
      matching_none bits (bits asked) (row ∷ behind) (sym (ordered asked row.0) ∙ less, all_above o less (keys_of behind) sorted.0)

  -- any other passes over the keys before as many of the asked bits as it shares with them, and one more
  pub passed_over : (next : C) (n m i : ℕ) → IsSharedLength (bits asked) (bits row.0) n → m ≤ n + 1 → bits next ≡ take m (bits asked)
      → IsLowerBound cmp (keys_of behind) next (length behind) i → matching bits (bits asked) behind ≡ matching bits (bits asked) (drop i behind)
  passed_over next n m i shared le is_next bound = matching_behind bits (bits asked) i behind (λ j any lt l b.
      let keys = keys_of behind in
      let size : length keys ≡ length behind = length-map behind (λ (x : C × V). x.0) in
      let k = get_or keys j any in
      let there : cmp k next ≡ Less = rw (get_or_default keys j next any (omega arith)) at (bound.before j lt) in
      let below : bit_cmp (bits k) (take m (bits asked)) ≡ Less = rw (ordered k next, is_next) at there in
      let above : cmp row.0 k ≡ Less = Less-from_sorted cmp (row.0 ∷ keys) 0 (suc j) any sorted (omega arith) (omega arith) in
      let longer = longer_than_shared (bits asked) (bits row.0) (bits k) n shared b (sym (ordered row.0 k) ∙ above) in
      not_before_first (bits asked) (bits k) m b (omega arith) below)

-- a clone has the same keys
pub cloned_keys : {C V : Type 0} (is_clone : V → V → Type 0) (rows copy : List (C × V)) → AreCloned is_clone rows copy → keys_of copy ≡ keys_of rows
cloned_keys is_clone [] [] h = refl
cloned_keys is_clone [] (y ∷ ys) h = absurd h
cloned_keys is_clone (x ∷ xs) [] h = absurd h
cloned_keys is_clone (x ∷ xs) (y ∷ ys) h = ap₂ (λ k ks. k ∷ ks) h.0.0 (cloned_keys is_clone xs ys h.1)
