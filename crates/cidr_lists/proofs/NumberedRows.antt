-- The networks of lines as rows of their families, in their order, and what stands near a row as what stands near its
-- network.
use Rattle.std.proofs.Common.{◌≡◌, ◌≢◌, ◌↔◌, refl, sym, ◌∙◌, ap, ap₂, subst, arith, inl, inr, ℕ, ◌+◌, ◌-◌, ◌<◌, ◌≤◌, Bool, true, false, List, [], ◌∷◌, ◌++◌, length, take, drop, get_or, Option, Some, None, slice_get, length-take}
use Rattle.std.specs.Cmp.{IsTotalOrder}
use Rattle.std.specs.List.{Contains}
use Rattle.std.specs.List.Sorted.{IsPermutation, IsSorted}
use Rattle.std.specs.Ordering.{is_lt, nat_cmp, ordering_then}
use Rattle.std.specs.declared.cmp.Ordering.{Ordering}
use Rattle.std.specs.declared.cmp.Ordering.TheVariants.{Less, Equal, Greater}
use Rattle.std.proofs.lemmas.Bool.{cases_lt, false≢true, true≢false}
use Rattle.std.proofs.lemmas.Cmp.{by_ranked, nat_cmp_total, on_total, ranked, then_total, tied_itself}
use Rattle.std.proofs.lemmas.List.{get_or-take, take-append-drop, take_all, take_more}
use Rattle.std.proofs.lemmas.List.Elements.{Contains-append_left, Contains-push, Contains-push_cases}
use Rattle.std.proofs.lemmas.List.Sorted.{Contains-permutation, IsPermutation-sym, ranks_by, sorted_far}
use Rattle.std.proofs.lemmas.Option.{get_or_from_slice_get, same_Some, slice_get-get_or, slice_get_within}
use Rattle.cidr.specs.either.IpNetwork.{network_bits, network_prefix}
use Rattle.cidr.specs.model.Bits.{bit_cmp}
use Rattle.cidr.specs.declared.cidr.combined.IpCidr.{IpCidr}
use Rattle.cidr.specs.declared.cidr.combined.IpCidr.TheVariants.{V4, V6}
use Rattle.cidr_ext.specs.model.Tree.{AreSiblings}
use Rattle.cidr_table.proofs.MapLaws.{contains_nothing}
use Rattle.cidr_lists.specs.Findings.{AreHalves, AreBitsInside, IsInside}
use Rattle.cidr_lists.specs.Nearness.{AreRowsInOrder, AreNearKept, AreNear, AreOthersSame, AreRows, AreRowsOf, IsAroundAt, IsFirstIndex, IsHalfAt, IsLast, IsLeast, IsNear, IsRowAround, IsRowHalf, IsRowNear}
use Rattle.cidr_lists.specs.declared.near.Near.{Near}
use Rattle.cidr_lists.proofs.Nested.{not_greater_back}
use Rattle.cidr_lists.proofs.OpenNetworks.{AreBefore}

-- ---- the rows of lines
module _ (of : List Bool → IpCidr) (networks : List IpCidr) where
  -- those of the lines before this index
  abbrev pub AreRowsBelow : ℕ → List (List Bool × ℕ) → Type 0
  AreRowsBelow n rows = (row : List Bool × ℕ) → Contains rows row ↔ ((slice_get networks row.1 ≡ Some (of row.0)) × (row.1 < n))

  pub none_below : (n : ℕ) (rows : List (List Bool × ℕ)) → n ≡ 0 → rows ≡ [] → AreRowsBelow n rows
  none_below n rows start none = λ row. (
    λ c. absurd (contains_nothing row (subst (λ (k : List (List Bool × ℕ)). Contains k row) none c)),
    λ h. absurd (omega (arith, h.1, start)),
  )

  -- the network at this index is of the family
  pub one_below : (apart : (p q : List Bool) → of p ≡ of q → p ≡ q) → (n : ℕ) (rows : List (List Bool × ℕ)) (p : List Bool)
      → slice_get networks n ≡ Some (of p) → AreRowsBelow n rows → AreRowsBelow (n + 1) (rows ++ (p, n) ∷ [])
  one_below apart n rows p there h row = (
    λ c. elim (Contains-push_cases rows (p, n) row c) [
      | inl before ↦ let k = (h row).0 before in (k.0, omega (arith, k.1))
      | inr is ↦ subst (λ (r : List Bool × ℕ). (slice_get networks r.1 ≡ Some (of r.0)) × (r.1 < n + 1)) is (there, omega arith)
    ],
    λ k. elim (cases_lt row.1 n) [
      | inl lt ↦ Contains-append_left rows ((p, n) ∷ []) row ((h row).1 (k.0, lt))
      | inr ge ↦
          let at : n ≡ row.1 = omega (arith, ge, k.1) in
          let same : p ≡ row.0 = apart p row.0 (same_Some (of p) (of row.0) (sym there ∙ (ap (slice_get networks) at ∙ k.0))) in
          subst (Contains (rows ++ (p, n) ∷ [])) (ap₂ (λ (c : List Bool) (m : ℕ). (c, m)) same at) (Contains-push rows (p, n))
    ],
  )

  -- it is of the other family
  pub none_more_below : (n : ℕ) (rows : List (List Bool × ℕ)) (network : IpCidr) → slice_get networks n ≡ Some network
      → ((p : List Bool) → ¬ (network ≡ of p)) → AreRowsBelow n rows → AreRowsBelow (n + 1) rows
  none_more_below n rows network there other h row = (
    λ c. let k = (h row).0 c in (k.0, omega (arith, k.1)),
    λ k. elim (cases_lt row.1 n) [
      | inl lt ↦ (h row).1 (k.0, lt)
      | inr ge ↦
          let at : n ≡ row.1 = omega (arith, ge, k.1) in
          absurd (other row.0 (same_Some network (of row.0) (sym there ∙ (ap (slice_get networks) at ∙ k.0))))
    ],
  )

  pub moved_rows : (rows new : List (List Bool × ℕ)) → ((row : List Bool × ℕ) → Contains new row ↔ Contains rows row) → AreRowsOf of networks rows
      → AreRowsOf of networks new
  moved_rows rows new same are row = (λ c. (are row).0 ((same row).0 c), λ is. (same row).1 ((are row).1 is))

  pub all_below : (n : ℕ) (rows : List (List Bool × ℕ)) → length networks ≤ n → AreRowsBelow n rows → AreRowsOf of networks rows
  all_below n rows past h row = (
    λ c. ((h row).0 c).0,
    λ is. (h row).1 (is, omega (arith, past, slice_get_within networks row.1 (of row.0) is)),
  )

-- ---- their order
pair_up : (o : Ordering) (m n : ℕ) → is_lt (ordering_then o (nat_cmp m n)) ≡ false → (o ≢ Less) × (o ≡ Equal → n ≤ m)
pair_up Less m n h = absurd (true≢false h)
pair_up Greater m n h = (λ e. cc, λ e. cc)
pair_up Equal m n h = (
  λ e. cc,
  λ _. by_ranked (m < n) (m ≡ n) (n < m) (nat_cmp m n) (ranked m n (nat_cmp m n) refl)
      (λ less lt. absurd (true≢false (sym (ap is_lt less) ∙ h))) (λ same is. omega (arith, is)) (λ more gt. omega (arith, gt)),
)

pub ascending : {C : Type 0} (cmp : C → C → Ordering) (bits : C → List Bool) → IsTotalOrder cmp → ((x y : C) → cmp x y ≡ bit_cmp (bits x) (bits y))
    → (rows : List (C × ℕ)) → IsSorted (λ (x y : C × ℕ). ordering_then (cmp x.0 y.0) (nat_cmp x.1 y.1)) rows → AreRowsInOrder bits rows
ascending {C} cmp bits o ordered rows sorted i j a b le at_i at_j =
    let total : IsTotalOrder (λ (x y : C × ℕ). ordering_then (cmp x.0 y.0) (nat_cmp x.1 y.1)) =
    then_total (on_total (λ (row : C × ℕ). row.0) o) (on_total (λ (row : C × ℕ). row.1) nat_cmp_total) in
    let test : is_lt (ordering_then (cmp b.0 a.0) (nat_cmp b.1 a.1)) ≡ false =
    sym (ap₂ (λ (x y : C × ℕ). is_lt (ordering_then (cmp x.0 y.0) (nat_cmp x.1 y.1))) (get_or_from_slice_get rows j b a at_j) (get_or_from_slice_get rows i a a at_i))
    ∙ sorted_far (λ (x y : C × ℕ). is_lt (ordering_then (cmp x.0 y.0) (nat_cmp x.1 y.1))) (ranks_by total (λ (row : C × ℕ). row)) rows sorted i j a le
    (slice_get_within rows j b at_j) in
    let up = pair_up (cmp b.0 a.0) b.1 a.1 test in (
      not_greater_back (bits b.0) (bits a.0) (λ less. up.0 (ordered b.0 a.0 ∙ less)),
      λ same. up.1 (ap (cmp b.0) same ∙ tied_itself o b.0),
    )

pub same_rows : {X : Type 0} (rows new : List X) → IsPermutation rows new → (row : X) → Contains new row ↔ Contains rows row
same_rows rows new moved row = (Contains-permutation new rows row (IsPermutation-sym rows new moved), Contains-permutation rows new row moved)

module _ {C : Type 0} (rows : List (C × ℕ)) (place : ℕ) (row : C × ℕ) (here : slice_get rows place ≡ Some row) where
  pub taken : (other : C × ℕ) → Contains (take place rows) other → Contains rows other
  taken other c = subst (λ (k : List (C × ℕ)). Contains k other) (take-append-drop place rows) (Contains-append_left (take place rows) (drop place rows) other c)

  pub one_taken : take (place + 1) rows ≡ take place rows ++ row ∷ []
  one_taken =
      take_more rows place row (slice_get_within rows place row here)
      ∙ ap (λ (k : C × ℕ). take place rows ++ k ∷ []) (get_or_from_slice_get rows place row row here)

  pub row_here : Contains rows row
  row_here = (place, slice_get_within rows place row here, get_or_from_slice_get rows place row row here)

  pub one_more_taken : (other : C × ℕ) → Contains (take place rows ++ row ∷ []) other → Contains rows other
  one_more_taken other c = elim (Contains-push_cases (take place rows) row other c) [
    | inl before ↦ taken other before
    | inr is ↦ subst (Contains rows) is row_here
  ]

  pub before_row : (bits : C → List Bool) → AreRowsInOrder bits rows → AreBefore bits (take place rows) row
  before_row bits up other c =
      let lt : c.0 < place = omega (arith, c.1, length-take place rows) in
      let within : c.0 < length rows = omega (arith, c.1, length-take place rows) in
      let at : slice_get rows c.0 ≡ Some other = slice_get-get_or rows c.0 other within ∙ ap Some (sym (get_or-take place rows c.0 other lt) ∙ c.2) in
      up c.0 place other row (omega (arith, lt)) at here

pub last_row : {C : Type 0} (rows : List (C × ℕ)) (row : C × ℕ) → 0 < length rows → slice_get rows (length rows - 1) ≡ Some row → IsLast rows (Some row)
last_row rows row some at =
    let last : length rows - 1 + 1 ≡ length rows = omega (arith, some) in (
      take (length rows - 1) rows,
      sym (ap (λ (n : ℕ). take n rows) last ∙ take_all (length rows) rows (omega arith))
          ∙ one_taken rows (length rows - 1) row at,
    )

-- ---- networks by their families
pub v4_apart : (p q : List Bool) → V4 p ≡ V4 q → p ≡ q
v4_apart p q e = ap (λ (n : IpCidr). network_prefix n) e

pub v6_apart : (p q : List Bool) → V6 p ≡ V6 q → p ≡ q
v6_apart p q e = ap (λ (n : IpCidr). network_prefix n) e

front_bit : (xs ys : List Bool) → xs ≡ ys → get_or xs 0 false ≡ get_or ys 0 false
front_bit xs ys e = ap (λ (t : List Bool). get_or t 0 false) e

pub v4_no_v6 : (p q : List Bool) → ¬ (V4 p ≡ V6 q)
v4_no_v6 p q e = false≢true (front_bit _ _ (ap (λ (n : IpCidr). network_bits n) e))

-- what is known of a family's networks
pub record IsFamily (of : List Bool → IpCidr) : Type 0 where
  pub apart : (p q : List Bool) → of p ≡ of q → p ≡ q
  pub inside : (p : List Bool) (other : IpCidr) → IsInside (of p) other → (q : List Bool) × (other ≡ of q) × AreBitsInside p q
  pub are_inside : (p q : List Bool) → AreBitsInside p q → IsInside (of p) (of q)
  pub size : (p : List Bool) → length (network_bits (of p)) ≡ length p + 1
  pub halves : (p : List Bool) (other : IpCidr) → AreHalves (of p) other → (q : List Bool) × (other ≡ of q) × AreSiblings p q
  pub are_halves : (p q : List Bool) → AreSiblings p q → AreHalves (of p) (of q)

inside_v4 : (p : List Bool) (other : IpCidr) → IsInside (V4 p) other → (q : List Bool) × (other ≡ V4 q) × AreBitsInside p q
inside_v4 p (V4 q) (h, short) = (q, refl, (ap (drop 1) h, omega (arith, short)))
inside_v4 p (V6 q) (h, short) = absurd (false≢true (front_bit _ _ h))

inside_v6 : (p : List Bool) (other : IpCidr) → IsInside (V6 p) other → (q : List Bool) × (other ≡ V6 q) × AreBitsInside p q
inside_v6 p (V4 q) (h, short) = absurd (true≢false (front_bit _ _ h))
inside_v6 p (V6 q) (h, short) = (q, refl, (ap (drop 1) h, omega (arith, short)))

halves_v4 : (p : List Bool) (other : IpCidr) → AreHalves (V4 p) other → (q : List Bool) × (other ≡ V4 q) × AreSiblings p q
halves_v4 p (V4 q) (family, h) = (q, refl, h)
halves_v4 p (V6 q) (family, h) = cc

halves_v6 : (p : List Bool) (other : IpCidr) → AreHalves (V6 p) other → (q : List Bool) × (other ≡ V6 q) × AreSiblings p q
halves_v6 p (V4 q) (family, h) = cc
halves_v6 p (V6 q) (family, h) = (q, refl, h)

pub v4_family : IsFamily V4
v4_family = record {
  apart = v4_apart;
  inside = inside_v4;
  are_inside = λ p q h. (ap (λ (t : List Bool). false ∷ t) h.0, omega (arith, h.1));
  size = λ p. omega arith;
  halves = halves_v4;
  are_halves = λ p q h. (refl, h);
}

pub v6_family : IsFamily V6
v6_family = record {
  apart = v6_apart;
  inside = inside_v6;
  are_inside = λ p q h. (ap (λ (t : List Bool). true ∷ t) h.0, omega (arith, h.1));
  size = λ p. omega arith;
  halves = halves_v6;
  are_halves = λ p q h. (refl, h);
}

abbrev pub as_bits : List Bool → List Bool
as_bits p = p

module _ (of : List Bool → IpCidr) (family : IsFamily of) (networks : List IpCidr) (rows : List (List Bool × ℕ)) (are : AreRowsOf of networks rows) where
  pub rows_of_lines : (count : ℕ) → count ≡ length networks → AreRows rows count
  rows_of_lines count size = record {
    within = λ row c. omega (arith, size, slice_get_within networks row.1 (of row.0) ((are row).0 c));
    one = λ a b here there same.
        family.apart a.0 b.0 (same_Some (of a.0) (of b.0) (sym ((are a).0 here) ∙ (ap (slice_get networks) same ∙ (are b).0 there)));
  }

  first_of_row : (p : List Bool) (i : ℕ) → IsLeast rows p i → IsFirstIndex networks (of p) i
  first_of_row p i (here, least) = ((are (p, i)).0 here, λ j there. least j ((are (p, j)).1 there))

  around_of_row : (p : List Bool) (r : Option ℕ) → IsRowAround as_bits rows p r → IsAroundAt networks (of p) r
  around_of_row p None none = λ j other there within.
      let (q, is, h) = family.inside p other within in
      none (q, j) ((are (q, j)).1 (there ∙ ap Some is)) h
  around_of_row p (Some i) (outer, least, within, longest) = (
    of outer,
    first_of_row outer i least,
    family.are_inside p outer within,
    λ j other there around.
        let (q, is, h) = family.inside p other around in
        let shorter = longest (q, j) ((are (q, j)).1 (there ∙ ap Some is)) h in
        omega (arith, shorter, family.size outer, family.size q, ap (λ (n : IpCidr). length (network_bits n)) is),
  )

  half_of_row : (p : List Bool) (r : Option ℕ) → IsRowHalf as_bits rows p r → IsHalfAt networks (of p) r
  half_of_row p None none = λ j other there halves.
      let (q, is, h) = family.halves p other halves in
      none (q, j) ((are (q, j)).1 (there ∙ ap Some is)) h
  half_of_row p (Some i) (other, least, siblings) = (of other, family.are_halves p other siblings, first_of_row other i least)

  near_of_row : (p : List Bool) (i : ℕ) (one : Near) → IsRowNear as_bits rows (p, i) one
      → IsFirstIndex networks (of p) one.first × (one.first ≡ i → IsAroundAt networks (of p) one.outer × IsHalfAt networks (of p) one.half)
  near_of_row p i one (least, near) = (
    first_of_row p one.first least,
    λ first. (around_of_row p one.outer (near first).0, half_of_row p one.half (near first).1),
  )

-- both families one after the other
pub near_found : (networks : List IpCidr) (rows_v4 rows_v6 : List (List Bool × ℕ)) (start middle near : List Near) → length start ≡ length networks
    → AreRowsOf V4 networks rows_v4 → AreRowsOf V6 networks rows_v6 → AreNearKept as_bits rows_v4 middle → AreOthersSame rows_v4 start middle
    → AreNearKept as_bits rows_v6 near → AreOthersSame rows_v6 middle near → AreNear networks near
near_found networks rows_v4 rows_v6 start middle near size are_v4 are_v6 kept_v4 others_v4 kept_v6 others_v6 = record {
  size = others_v6.size ∙ (others_v4.size ∙ size);
  each = by_family;
}
  where
    by_family : (i : ℕ) (network : IpCidr) (one : Near) → slice_get networks i ≡ Some network → slice_get near i ≡ Some one
        → IsFirstIndex networks network one.first
        × (one.first ≡ i → IsAroundAt networks network one.outer × IsHalfAt networks network one.half)
    by_family i (V4 p) one there at =
        let (n, kept, h) = kept_v4 (p, i) ((are_v4 (p, i)).1 there) in
        let stays : slice_get near i ≡ slice_get middle i =
        others_v6.same i (λ q c. v4_no_v6 p q (same_Some (V4 p) (V6 q) (sym there ∙ (are_v6 (q, i)).0 c))) in
        let same : n ≡ one = same_Some n one (sym kept ∙ (sym stays ∙ at)) in
        near_of_row V4 v4_family networks rows_v4 are_v4 p i one (subst (IsRowNear as_bits rows_v4 (p, i)) same h)
    by_family i (V6 p) one there at =
        let (n, kept, h) = kept_v6 (p, i) ((are_v6 (p, i)).1 there) in
        let same : n ≡ one = same_Some n one (sym kept ∙ at) in
        near_of_row V6 v6_family networks rows_v6 are_v6 p i one (subst (IsRowNear as_bits rows_v6 (p, i)) same h)

-- an element stands at an index
pub element : {X : Type 0} (xs : List X) (i : ℕ) → i < length xs → (x : X) × (slice_get xs i ≡ Some x)
element [] i lt = absurd (omega (arith, lt))
element (x ∷ xs) i lt = (get_or (x ∷ xs) i x, slice_get-get_or (x ∷ xs) i x lt)

-- ---- what stands near a line
module _ (networks : List IpCidr) (near : List Near) (h : AreNear networks near) (i : ℕ) (one : Near) (at : slice_get near i ≡ Some one) where
  pub first_within : one.first < length near
  first_within =
      let (network, there) = element networks i (omega (arith, slice_get_within near i one at, h.size)) in
      let first = (h.each i network one there at).0 in
      omega (arith, slice_get_within networks one.first network first.0, h.size)

  pub near_line : (two : Near) (network : IpCidr) → slice_get near one.first ≡ Some two → slice_get networks i ≡ Some network → IsNear networks network two
  near_line two network at_first there =
      let first = (h.each i network one there at).0 in
      let (again, stands) = h.each one.first network two first.0 at_first in
      let same : two.first ≡ one.first = omega (arith, again.1 one.first first.0, first.1 two.first again.0) in
      let found = stands same in
      (again, found.0, found.1)
