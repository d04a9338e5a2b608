-- Networks with their indexes, and the longest match among them.
use Rattle.std.proofs.Common.{◌≡◌, ℕ, zero, suc, ◌+◌, ◌<◌, List, [], ◌∷◌, ◌++◌, drop, length, take, get_or, slice_get, Some, map, inl, inr, refl, sym, ap, ap₂, ◌∙◌, arith, subst}
use Rattle.std.specs.List.Sorted.{IsPermutation}
use Rattle.std.proofs.lemmas.List.{get_or-map, length-map, take_more, length-take-le}
use Rattle.std.proofs.lemmas.Option.{get_or_from_slice_get, same_Some, slice_get-get_or, slice_get_within}
use Rattle.cidr.specs.declared.cidr.any.AnyIpCidr.{AnyIpCidr}
use Rattle.cidr.proofs.BothEnds.{contains_got}
use Rattle.cidr_table.specs.model.Loading.{placed}
use Rattle.cidr_table.proofs.LastPlaces.{placed_push}
use Rattle.cidr_lists.proofs.NumberedRows.{same_rows}
use Rattle.cidr_c.specs.Nested.{AreNearestPut, AreRowsOfList}
use Rattle.cidr_c.specs.calls.Lookups.{AreAllAnswered, AreAnswered}
use Rattle.cidr_c.specs.calls.Batches.{AreNetworkValues}
use Rattle.cidr_c.specs.calls.Ordering.{IsNearestIndex}
use Rattle.cidr_c.specs.model.Values.{IsNetworkValue, network_in}
use Rattle.cidr_c.specs.declared.values.CValue.{CValue}

-- one network more
pub placed_more : (ns : List AnyIpCidr) (i : ℕ) (d : AnyIpCidr) → i < length ns
    → placed 0 (take i ns) ++ (get_or ns i d, i) ∷ [] ≡ placed 0 (take (i + 1) ns)
placed_more ns i d h =
    let size : 0 + length (take i ns) ≡ i = omega (arith, length-take-le i ns (omega (arith, h))) in
    ap (λ (m : ℕ). placed 0 (take i ns) ++ (get_or ns i d, m) ∷ []) (sym size)
    ∙ (sym (placed_push 0 (take i ns) (get_or ns i d)) ∙ ap (placed 0) (sym (take_more ns i d h)))

module _ {C : Type 0} where
  row_placed : (n : ℕ) (keys : List C) (row : C × ℕ) (i : ℕ) → slice_get (placed n keys) i ≡ Some row
      → (row.1 ≡ n + i) × (slice_get keys i ≡ Some row.0)
  row_placed n [] row i h = absurd (cc)
  row_placed n (k ∷ keys) row zero h =
      let same : (k, n) ≡ row = cc in
      (omega (arith, ap (λ (r : C × ℕ). r.1) same), ap (λ (r : C × ℕ). Some r.0) same)
  row_placed n (k ∷ keys) row (suc i) h = let t = row_placed (n + 1) keys row i h in (omega (arith, t.0), t.1)

  placed_here : (n : ℕ) (keys : List C) (i : ℕ) (key : C) → slice_get keys i ≡ Some key → slice_get (placed n keys) i ≡ Some (key, n + i)
  placed_here n [] i key h = absurd (cc)
  placed_here n (k ∷ keys) zero key h =
      let same : k ≡ key = same_Some k key h in
      let at : n ≡ n + zero = omega arith in
      ap₂ (λ (x : C) (m : ℕ). Some (x, m)) same at
  placed_here n (k ∷ keys) (suc i) key h =
      let at : n + 1 + i ≡ n + suc i = omega arith in
      placed_here (n + 1) keys i key h ∙ ap (λ (m : ℕ). Some (key, m)) at

-- in whatever order they are
pub listed_rows : (ns : List AnyIpCidr) (rows : List (AnyIpCidr × ℕ)) → IsPermutation (placed 0 ns) rows → AreRowsOfList ns rows
listed_rows ns rows moved row = (
  λ c.
      let d = (same_rows (placed 0 ns) rows moved row).0 c in
      let at = row_placed 0 ns row d.0 (slice_get-get_or (placed 0 ns) d.0 row d.1 ∙ ap Some d.2) in
      let is : d.0 ≡ row.1 = omega (arith, at.0) in
      subst (λ (k : ℕ). slice_get ns k ≡ Some row.0) is at.1,
  λ there.
      let is : 0 + row.1 ≡ row.1 = omega arith in
      let here : slice_get (placed 0 ns) row.1 ≡ Some row = placed_here 0 ns row.1 row.0 there ∙ ap (λ (m : ℕ). Some (row.0, m)) is in
      (same_rows (placed 0 ns) rows moved row).1 (contains_got (placed 0 ns) row.1 row here),
)

-- each asked value has its answer
pub all_done : (Answers : AnyIpCidr → ℕ → Type 0) (values asked : List CValue) (old out : List ℕ) → AreNetworkValues values
    → AreAnswered Answers asked out → drop (length asked) out ≡ drop (length asked) old → AreAllAnswered Answers values asked old out 0
all_done Answers values asked old out fine answered behind = record {
  networks = λ _. fine;
  answers = λ _. answered;
  value = λ z. absurd (omega (arith, z));
  room = λ z. absurd (omega (arith, z));
  codes = inl refl;
  behind = behind;
  stays = λ h. elim h [ inl z ↦ absurd (omega (arith, z)) | inr z ↦ absurd (omega (arith, z)) ];
  refused = λ none. absurd (none fine);
}

-- the nearest ones that are put are those of the values
pub all_nearest : (values : List CValue) (out : List ℕ) → AreNetworkValues values → AreNearestPut (map network_in values) out
    → AreAnswered (IsNearestIndex (map network_in values)) values out
all_nearest values out fine put i v found =
    let lt = slice_get_within values i v found in
    let is : get_or values i v ≡ v = get_or_from_slice_get values i v v found in
    let size : i < length (map network_in values) = omega (arith, lt, length-map values network_in) in
    let here : slice_get (map network_in values) i ≡ Some (network_in v) =
    slice_get-get_or (map network_in values) i (network_in v) size
    ∙ ap Some (get_or-map network_in values i v (network_in v) lt ∙ ap network_in is) in
    let its = put i (network_in v) here in
    (subst IsNetworkValue is (fine i v lt), its.0, its.1, its.2)
