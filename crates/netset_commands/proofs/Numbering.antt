-- The numbers of values.
use Rattle.std.proofs.Common.{◌≡◌, ℕ, ◌+◌, ◌<◌, ◌≤◌, Bool, true, false, List, [], ◌∷◌, ◌++◌, length, get_or, map, take, refl, sym, ap, ap₂, ◌∙◌, subst, arith, true≢false, inl, inr}
use Rattle.std.specs.Cmp.{IsStrictWeakOrder, tied_itself}
use Rattle.std.specs.Cmp.Lexicographic.{slice_cmp}
use Rattle.std.specs.List.{All, Contains, prefix_len}
use Rattle.std.specs.List.Sorted.{IsPartitionedBy, IsPartitionPoint, IsPermutation, IsSorted}
use Rattle.std.specs.Ordering.{is_gt, is_lt, nat_cmp, ordering_reverse}
use Rattle.std.specs.declared.cmp.Ordering.{Ordering}
use Rattle.std.specs.declared.cmp.Ordering.TheVariants.{Less, Equal, Greater}
use Rattle.std.proofs.lemmas.Bool.{cases_lt}
use Rattle.std.proofs.lemmas.Cmp.{nat_list_cmp_total}
use Rattle.std.proofs.lemmas.List.{get_or-map, get_or_default, length-map, map-append, map_more}
use Rattle.std.proofs.lemmas.List.Elements.{Contains-append_left, Contains-append_right}
use Rattle.std.proofs.lemmas.List.Sorted.{Contains-permutation, IsPermutation-map, ranks_by, sorted_far}
use Rattle.std.proofs.lemmas.List.Sums.{prefix_len_is, prefix_len_passes, prefix_len_stops}
use Rattle.std.proofs.lemmas.Map.Lookups.{exact_bytes}
use Rattle.cidr_forwarding.specs.Forwarding.{AreNetworksOf}
use Rattle.netset_commands.specs.Numbers.{AreAscending, HaveValues, number_in, numbered, row_values, slices, table_values, value_in}
use Rattle.cidr_lists.specs.Tables.{resolved, value_at}
use Rattle.cidr_lists.specs.declared.rows.Span.{Span}
use Rattle.cidr.specs.declared.family.Family.{Family}
use Rattle.cidr.specs.declared.family.Family.TheVariants.{Ipv4, Ipv6}
use Rattle.std.specs.Map.{keys_of}
use denote.Ref.{Bor}

-- a test of two strings by their order
order : IsStrictWeakOrder (λ (one other : List ℕ). is_lt (slice_cmp nat_cmp one other))
order = ranks_by nat_list_cmp_total (λ (value : List ℕ). value)

-- neither is less than the other only where they are equal
untied : (here back : Ordering) → here ≡ ordering_reverse back → is_lt here ≡ false → is_lt back ≡ false → here ≡ Equal
untied Less back e l m = absurd (true≢false l)
untied Equal back e l m = refl
untied Greater Less e l m = absurd (true≢false m)
untied Greater Equal e l m = e
untied Greater Greater e l m = absurd (true≢false (ap is_gt e))

same_by_order : (one other : List ℕ) → is_lt (slice_cmp nat_cmp one other) ≡ false → is_lt (slice_cmp nat_cmp other one) ≡ false → one ≡ other
same_by_order one other l m =
    exact_bytes one other (untied (slice_cmp nat_cmp one other) (slice_cmp nat_cmp other one) (nat_list_cmp_total.antisymm one other) l m)

is_true : (b : Bool) {c : Bool} → (b ≡ false → c ≡ false) → c ≡ true → b ≡ true
is_true true f e = refl
is_true false f e = absurd (true≢false (sym e ∙ f refl))

-- those that are less than a value stand before all others
pub parted : (values : List (List ℕ)) (value : List ℕ) → AreAscending values → IsPartitionedBy (λ other. is_lt (slice_cmp nat_cmp other value)) values
parted values value up i j d l m h =
    let far = sorted_far _ order values up i j d l m in
    let low = is_lt (slice_cmp nat_cmp (get_or values i d) value) in
    is_true low (λ no. order.chain (get_or values j d) (get_or values i d) value far no) h

-- a value that is among the values stands at its number
pub number_back : (values : List (List ℕ)) (value : List ℕ) → AreAscending values → Contains values value → value_in values (number_in values value) ≡ value
unfolding number_in
number_back values value up m =
    let p = λ (other : List ℕ). is_lt (slice_cmp nat_cmp other value) in
    let n = prefix_len p values in
    let itself : is_lt (slice_cmp nat_cmp value value) ≡ false = ap is_lt (tied_itself nat_list_cmp_total value) in
    let behind : n ≤ m.0 = elim (cases_lt m.0 n) [
      | inl l ↦ absurd (true≢false (sym (prefix_len_passes p values m.0 value l) ∙ ap p m.2 ∙ itself))
      | inr l ↦ l
    ] in
    let within : n < length values = omega (arith, m.1) in
    let low = prefix_len_stops p values [] within in
    let far = sorted_far _ order values up n m.0 [] behind m.1 in
    let here : get_or values m.0 [] ≡ value = get_or_default values m.0 [] value m.1 ∙ m.2 in
    same_by_order (get_or values n []) value low (ap (λ v. is_lt (slice_cmp nat_cmp v (get_or values n []))) (sym here) ∙ far)

-- ---- slices of bytes
abbrev now : Bor (List ℕ) → List ℕ
now value = value.now

-- they ascend where a sort says so
pub slices_ascend : (values : List (Bor (List ℕ))) → IsSorted (λ one other. slice_cmp nat_cmp one.now other.now) values → AreAscending (slices values)
slices_ascend [] up k d l m = absurd (omega arith)
slices_ascend (v ∷ values) up k d l m =
    let within : k + 1 < length (v ∷ values) = omega (arith, length-map (v ∷ values) now, m) in
    let first = get_or-map now (v ∷ values) k v d (omega arith) in
    let next = get_or-map now (v ∷ values) (k + 1) v d within in
    ap₂ (λ one other. is_lt (slice_cmp nat_cmp one other)) next first ∙ up k v l within

-- a sort keeps their bytes
pub slices_kept : (values sorted : List (Bor (List ℕ))) → IsPermutation values sorted → (value : List ℕ) → Contains (slices values) value → Contains (slices sorted) value
slices_kept values sorted m value h = Contains-permutation (slices values) (slices sorted) value (IsPermutation-map now values sorted m) h

-- those that are less than a value stand before all others
pub slices_parted : (values : List (Bor (List ℕ))) (value : List ℕ) → AreAscending (slices values) → IsPartitionedBy (λ other. is_lt (slice_cmp nat_cmp other.now value)) values
slices_parted values value up i j d l m h =
    let within : i < length values = omega (arith, l, m) in
    let whole = length-map values now in
    let here = get_or-map now values j d [] m in
    let there = get_or-map now values i d [] within in
    ap (λ v. is_lt (slice_cmp nat_cmp v value)) (sym there)
    ∙ parted (slices values) value up i j [] l (omega (arith, whole, m)) (ap (λ v. is_lt (slice_cmp nat_cmp v value)) here ∙ h)

-- and there is the number
pub number_at : (values : List (Bor (List ℕ))) (value : List ℕ) (i : ℕ) → i ≤ length values
    → IsPartitionPoint (λ (other : Bor (List ℕ)). is_lt (slice_cmp nat_cmp other.now value) ≡ true) (λ (other : Bor (List ℕ)). is_lt (slice_cmp nat_cmp other.now value) ≡ false) values i
    → i ≡ number_in (slices values) value
unfolding number_in
number_at [] value i most point = omega arith
number_at (v ∷ values) value i most point =
    let p = λ (other : List ℕ). is_lt (slice_cmp nat_cmp other value) in
    let whole = length-map (v ∷ values) now in
    sym (prefix_len_is p (slices (v ∷ values)) i [] (omega (arith, whole, most))
    (λ k l. ap p (get_or-map now (v ∷ values) k v [] (omega (arith, l, most))) ∙ point.0 k v (omega arith) l)
    (λ l. let within : i < length (v ∷ values) = omega (arith, whole, l) in
    ap p (get_or-map now (v ∷ values) i v [] within) ∙ point.1 i v (omega arith) within))

-- ---- tables
-- the value of a row is one of those of all rows
value_of_row : {C : Type 0} (rows : List (C × List ℕ)) (row : C × List ℕ) → Contains rows row → Contains (row_values rows) row.1
value_of_row {C} rows row m =
    let value : C × List ℕ → List ℕ = λ r. r.1 in
    (m.0, omega (arith, length-map rows value, m.1), get_or-map value rows m.0 row row.1 m.1 ∙ ap value m.2)

-- behind other values stand those of a table
pub has_table : (table : Family → List (List Bool × List ℕ)) (before values : List (List ℕ)) → values ≡ before ++ table_values table → HaveValues values table
has_table table before values e Ipv4 row m =
    let here = Contains-append_left (row_values (table Ipv4)) (row_values (table Ipv6)) row.1 (value_of_row (table Ipv4) row m) in
    subst (λ l. Contains l row.1) (sym e) (Contains-append_right before (table_values table) row.1 here)
has_table table before values e Ipv6 row m =
    let here = Contains-append_right (row_values (table Ipv4)) (row_values (table Ipv6)) row.1 (value_of_row (table Ipv6) row m) in
    subst (λ l. Contains l row.1) (sym e) (Contains-append_right before (table_values table) row.1 here)

-- those of a first table stay
pub has_still : (table : Family → List (List Bool × List ℕ)) (values more all : List (List ℕ)) → HaveValues values table → all ≡ values ++ more → HaveValues all table
has_still table values more all has e family row m = subst (λ l. Contains l row.1) (sym e) (Contains-append_left values more row.1 (has family row m))

-- the keys of rows with numbers are those of the rows
pub keys_numbered : {C : Type 0} (values : List (List ℕ)) (all : List ℕ) (rows : List (C × Span)) → keys_of (numbered values (map (resolved all) rows)) ≡ keys_of rows
keys_numbered values all [] = refl
keys_numbered values all (row ∷ rows) = ap (λ keys. row.0 ∷ keys) (keys_numbered values all rows)

-- all networks have so many bits at most
pub networks_of_width : {C V : Type 0} (bits : C → List Bool) (w : ℕ) (rows : List (C × V)) → All (λ (row : C × V). length (bits row.0) ≤ w) rows → AreNetworksOf bits w rows
networks_of_width {C} {V} bits w rows all row (k, within, is) = subst (λ (r : C × V). length (bits r.0) ≤ w) is (all k row within)

-- one more row with its number
pub numbered_more : {C : Type 0} (values : List (List ℕ)) (all : List ℕ) (rows : List (C × Span)) (i number : ℕ) (row : C × Span) (value : List ℕ) (old new : List (C × ℕ))
    → i < length rows → row ≡ get_or rows i row → value ≡ value_at all row.1 → number ≡ number_in values value → new ≡ old ++ (row.0, number) ∷ []
    → old ≡ numbered values (map (resolved all) (take i rows)) → new ≡ numbered values (map (resolved all) (take (i + 1) rows))
numbered_more {C} values all rows i number row value old new l is valued counted pushed so =
    let f : C × List ℕ → C × ℕ = λ r. (r.0, number_in values r.1) in
    let h : C × Span → C × List ℕ = resolved all in
    let make : ℕ → C × ℕ = λ n. (row.0, n) in
    let added : make number ≡ f (h (get_or rows i row)) = ap make (counted ∙ ap (number_in values) valued) ∙ ap (λ (r : C × Span). f (h r)) is in
    pushed
    ∙ (ap₂ (λ (xs : List (C × ℕ)) (x : C × ℕ). xs ++ x ∷ []) so added
    ∙ sym (ap (map f) (map_more h rows i row l) ∙ map-append f (map h (take i rows)) (h (get_or rows i row) ∷ [])))
