-- Networks as keys: those of rows that ascend do, and the longest match among keys is that among rows.
use Rattle.std.proofs.Common.{◌≡◌, ◌⊎◌, refl, sym, ◌∙◌, ap, ap₂, subst, arith, inl, inr, ℕ, ◌+◌, ◌-◌, ◌^◌, ◌<◌, ◌≤◌, Bool, List, [], ◌∷◌, ◌++◌, length, get_or, map, take, Option, Some, None, slice_get, Result, Ok, Err, IfErr}
use Rattle.std.proofs.lemmas.Bool.{cases_eq}
use Rattle.std.proofs.lemmas.Cmp.{ranked}
use Rattle.std.proofs.lemmas.List.{drop_at, get_or-map, get_or_default, length-map, map_more, map_push, take_at}
use Rattle.std.proofs.lemmas.Map.Keys.{Less-from_sorted}
use Rattle.std.proofs.lemmas.Option.{get_or_from_slice_get, none-some, same_Some, slice_get-get_or, slice_get-map, slice_get_within}
use Rattle.std.proofs.lemmas.Simd.{map-map}
use Rattle.std.specs.List.{Contains}
use Rattle.std.specs.List.Sorted.{IsStrictlySortedBy}
use Rattle.std.specs.Map.{keys_of}
use Rattle.std.specs.Option.{option_and_then, option_map}
use Rattle.std.specs.Ordering.{MatchOrdering, nat_cmp, ordering_then}
use Rattle.std.specs.declared.cmp.Ordering.{Ordering}
use Rattle.std.specs.declared.cmp.Ordering.TheVariants.{Less, Equal, Greater}
use Rattle.cidr.proofs.NetworkNumbers.{rem_from_zeros, same_from_number}
use Rattle.cidr.proofs.OrderLaws.{bit_cmp-padded}
use Rattle.cidr.specs.laws.BitLaws.{bit_cmp-numbers, number-lt}
use Rattle.cidr.specs.laws.NetworkLaws.{length-first_of}
use Rattle.cidr.specs.model.Bits.{bit_cmp, bits, number}
use Rattle.cidr.specs.model.Network.{BeginsWith, first_of, zeros}
use Rattle.cidr_table.proofs.Beginnings.{begins_length}
use Rattle.cidr_table.proofs.Halves.{begins_begins, begins_both}
use Rattle.cidr_table.proofs.MapLaws.{contains_key}
use Rattle.cidr_table.specs.model.Prefixes.{IsLongestAt, IsLongestMatch, IsLookedUp}
use Rattle.cidr_lookup.specs.Keys.{AreAscendingNetworks, IsNetwork, Precedes, key_networks, prefix_bits}
use Rattle.cidr_lookup.specs.declared.key.Key.{Key}
use Rattle.cidr_lookup.specs.Rows.{IsCountRefused, numbered, numbered_rows}
use Rattle.cidr_lookup.specs.Tables.{HasTooManyWords, IsLookupTable, IsTableRefused}
use Rattle.cidr_lookup.specs.declared.table.TableError.{TableError}
use Rattle.cidr_lookup.specs.declared.table.TableError.TheVariants.{TooMany, Refused, TooLarge, NoMemory}

module _ (w : ℕ) where
  -- the bits of a network are the first bits of its first address
  pub own_bits : (p : List Bool) → length p ≤ w → prefix_bits w (numbered w p) ≡ p
  own_bits p fit =
      ap (take (length p)) (same_from_number w (number (first_of w p)) (first_of w p) (length-first_of w p fit) refl)
      ∙ take_at p (zeros (w - length p)) (length p) refl

  network_fits : (p : List Bool) → length p ≤ w → IsNetwork w (numbered w p)
  network_fits p fit =
      record {
        fits = fit;
        within = subst (λ (j : ℕ). number (first_of w p) < 2 ^ j) (length-first_of w p fit) (number-lt (first_of w p));
        host = rem_from_zeros w (length p) (first_of w p) fit (length-first_of w p fit) (drop_at p (zeros (w - length p)) (length p) refl);
      }

  by_order : (r s : Ordering) (a b m n : ℕ) → MatchOrdering r (a < b) (a ≡ b) (b < a) → MatchOrdering s (m < n) (m ≡ n) (n < m) → ordering_then r s ≡ Less
      → (a < b) ⊎ ((a ≡ b) × (m < n))
  by_order Less s a b m n h k e = inl h
  by_order Equal Less a b m n h k e = inr (h, k)
  by_order Equal Equal a b m n h k e = cc
  by_order Equal Greater a b m n h k e = cc
  by_order Greater s a b m n h k e = cc

  -- the order of networks is that of their first addresses and then of their lengths
  precedes : (p q : List Bool) → length p ≤ w → length q ≤ w → bit_cmp p q ≡ Less → Precedes (numbered w p) (numbered w q)
  precedes p q fp fq less =
      let a : ℕ = number (first_of w p) in
      let b : ℕ = number (first_of w q) in
      let numbers : bit_cmp (first_of w p) (first_of w q) ≡ nat_cmp a b =
      bit_cmp-numbers (first_of w p) (first_of w q) (length-first_of w p fp ∙ sym (length-first_of w q fq)) in
      let padded : ordering_then (nat_cmp a b) (nat_cmp (length p) (length q)) ≡ Less =
      ap (λ (r : Ordering). ordering_then r (nat_cmp (length p) (length q))) (sym numbers) ∙ (sym (bit_cmp-padded w p q fp fq) ∙ less) in
      by_order (nat_cmp a b) (nat_cmp (length p) (length q)) a b (length p) (length q) (ranked a b (nat_cmp a b) refl)
      (ranked (length p) (length q) (nat_cmp (length p) (length q)) refl) padded

module _ {C : Type 0} (w : ℕ) (f : C → List Bool) where
  abbrev pub keyed : C → ℕ × ℕ
  keyed c = numbered w (f c)

  -- networks that ascend do so as keys
  pub ascending : (cmp : C → C → Ordering) → ((a b : C) → cmp a b ≡ bit_cmp (f a) (f b)) → (ks : List C) → IsStrictlySortedBy cmp ks
      → ((any : C) (i : ℕ) → i < length ks → length (f (get_or ks i any)) ≤ w) → AreAscendingNetworks w (map keyed ks)
  ascending cmp ordered ks sorted fit =
      let many : length (map keyed ks) ≡ length ks = length-map ks keyed in record {
        each = λ i l.
            let (c, at) = here ks i (omega (arith, many, l)) in
            subst (IsNetwork w) (sym (shown ks i c at))
            (network_fits w (f c) (subst (λ x. length (f x) ≤ w) (get_or_from_slice_get ks i c c at) (fit c i (omega (arith, many, l)))));
        ascending = λ i k less l.
            let l' : k < length ks = omega (arith, many, l) in
            let (c, at) = here ks i (omega (arith, less, l')) in
            let (d, behind) = here ks k l' in
            let fc = subst (λ x. length (f x) ≤ w) (get_or_from_slice_get ks i c c at) (fit c i (omega (arith, less, l'))) in
            let fd = subst (λ x. length (f x) ≤ w) (get_or_from_slice_get ks k d c behind) (fit c k l') in
            let sorted' = Less-from_sorted cmp ks i k c sorted less l' in
            let before : cmp c d ≡ Less =
            subst (λ x. cmp x d ≡ Less) (get_or_from_slice_get ks i c c at) (subst (λ x. cmp (get_or ks i c) x ≡ Less) (get_or_from_slice_get ks k d c behind) sorted') in
            subst (λ (x : ℕ × ℕ). Precedes x (get_or (map keyed ks) k (0, 0))) (sym (shown ks i c at))
            (subst (λ (y : ℕ × ℕ). Precedes (keyed c) y) (sym (shown ks k d behind)) (precedes w (f c) (f d) fc fd (sym (ordered c d) ∙ before)));
      }
    where
      here : (xs : List C) (i : ℕ) → i < length xs → (c : C) × (slice_get xs i ≡ Some c)
      here [] i l = absurd (omega arith)
      here (x ∷ xs) i l = (get_or (x ∷ xs) i x, slice_get-get_or (x ∷ xs) i x l)

      shown : (xs : List C) (i : ℕ) (c : C) → slice_get xs i ≡ Some c → get_or (map keyed xs) i (0, 0) ≡ keyed c
      shown xs i c at = get_or_from_slice_get (map keyed xs) i (keyed c) (0, 0) (slice_get-map keyed xs i ∙ ap (λ o. option_map keyed o) at)

  -- ---- the longest match
  key_at : (ks : List C) (i : ℕ) (n : ℕ × ℕ) → slice_get (map keyed ks) i ≡ Some n → (c : C) × (slice_get ks i ≡ Some c) × (keyed c ≡ n)
  key_at ks i n at = of_option (slice_get ks i) refl (sym (slice_get-map keyed ks i) ∙ at)
    where
      of_option : (o : Option C) → slice_get ks i ≡ o → option_map keyed o ≡ Some n → (c : C) × (slice_get ks i ≡ Some c) × (keyed c ≡ n)
      of_option None e h = cc
      of_option (Some c) e h = (c, e, same_Some (keyed c) n h)

  key_of : (ks : List C) (c : C) → Contains ks c → Contains (map keyed ks) (keyed c)
  key_of ks c (i, l, e) = (i, omega (arith, l, length-map ks keyed), get_or-map keyed ks i c (keyed c) l ∙ ap keyed e)

  fits : (ks : List C) (c : C) → AreAscendingNetworks w (map keyed ks) → Contains ks c → length (f c) ≤ w
  fits ks c are (i, l, e) =
      subst (λ (n : ℕ × ℕ). n.1 ≤ w) (get_or-map keyed ks i c (0, 0) l ∙ ap keyed e) (are.each i (omega (arith, l, length-map ks keyed))).fits

  -- that among keys is that among their networks
  pub found : (a : List Bool) (ks : List C) (r : Option ℕ) → AreAscendingNetworks w (map keyed ks)
      → IsLongestMatch (prefix_bits w) a (map keyed ks) r → IsLongestMatch f a ks r
  found a ks (Some index) are h =
      let (c, at, same) = key_at ks index h.key h.here in
      let there : Contains ks c = (index, slice_get_within ks index c at, get_or_from_slice_get ks index c c at) in
      let own : prefix_bits w h.key ≡ f c = ap (prefix_bits w) (sym same) ∙ own_bits w (f c) (fits ks c are there) in
      record {
        key = c;
        here = at;
        begins = subst (BeginsWith a) own h.begins;
        longest = λ other in_ks begins.
            let its = own_bits w (f other) (fits ks other are in_ks) in
            omega (arith, h.longest (keyed other) (key_of ks other in_ks) (subst (BeginsWith a) (sym its) begins), ap length its, ap length own);
      }
  found a ks None are h = λ c there begins.
      h (keyed c) (key_of ks c there) (subst (BeginsWith a) (sym (own_bits w (f c) (fits ks c are there))) begins)

  -- what begins with a network begins with what that begins with
  first_begins : (k : List Bool) → BeginsWith (first_of w k) k
  first_begins k = take_at k (zeros (w - length k)) (length k) refl

  -- no match of the first address is none of the network
  pub nothing : (k : List Bool) (ks : List C) → IsLongestMatch f (first_of w k) ks None → IsLongestMatch f k ks None
  nothing k ks h = λ c there begins. h c there (begins_begins (first_of w k) k (f c) (first_begins k) begins)

  -- and one that is no longer than the network is its own
  pub no_longer : (k : List Bool) (ks : List C) (index : ℕ) (c : C) → IsLongestAt f (first_of w k) ks index → slice_get ks index ≡ Some c
      → length (f c) ≤ length k → IsLongestAt f k ks index
  no_longer k ks index c h at short =
      let same : h.key ≡ c = same_Some h.key c (sym h.here ∙ at) in
      record {
        key = h.key;
        here = h.here;
        begins = begins_both (first_of w k) k (f h.key) (first_begins k) h.begins (omega (arith, short, ap (λ x. length (f x)) same));
        longest = λ other there begins. h.longest other there (begins_begins (first_of w k) k (f other) (first_begins k) begins);
      }

  -- of an address any match is its own
  pub host_match : (k : List Bool) (ks : List C) (index : ℕ) → length k ≡ w → IsLongestAt f (first_of w k) ks index → IsLongestAt f k ks index
  host_match k ks index whole h =
      let fit : length k ≤ w = omega arith in
      no_longer k ks index h.key h h.here (omega (arith, begins_length (first_of w k) (f h.key) h.begins, length-first_of w k fit))

-- ---- rows
module _ {C V : Type 0} (w : ℕ) (f : C → List Bool) where
  pub by_keys : (rows : List (C × V)) → numbered_rows f w rows ≡ map (keyed w f) (keys_of rows)
  by_keys rows = sym (map-map (keyed w f) (λ (row : C × V). row.0) rows)

  fit_keys : (rows : List (C × V)) → ((any : C × V) (i : ℕ) → i < length rows → length (f (get_or rows i any).0) ≤ w)
      → (any : C) (i : ℕ) → i < length (keys_of rows) → length (f (get_or (keys_of rows) i any)) ≤ w
  fit_keys [] fit any i l = absurd (omega (arith, l))
  fit_keys (row ∷ rows) fit any i l =
      let key : C × V → C = λ r. r.0 in
      let l' : i < length (row ∷ rows) = omega (arith, l, length-map (row ∷ rows) key) in
      subst (λ (c : C). length (f c) ≤ w) (sym (get_or-map key (row ∷ rows) i row any l')) (fit row i l')

  pub rows_ascend : (cmp : C → C → Ordering) → ((a b : C) → cmp a b ≡ bit_cmp (f a) (f b)) → (rows : List (C × V)) → IsStrictlySortedBy cmp (keys_of rows)
      → ((any : C × V) (i : ℕ) → i < length rows → length (f (get_or rows i any).0) ≤ w) → AreAscendingNetworks w (numbered_rows f w rows)
  rows_ascend cmp ordered rows sorted fit =
      subst (AreAscendingNetworks w) (sym (by_keys rows)) (ascending w f cmp ordered (keys_of rows) sorted (fit_keys rows fit))

  -- one more row as a key
  pub one_more : {W : Type 0} (value : W → ℕ) (rows : List (C × V)) (keys keys' : List (Key W)) (n : ℕ) (row : C × V) (key : Key W)
      → keys' ≡ keys ++ key ∷ [] → n < length rows → row ≡ get_or rows n row → value key.address ≡ number (first_of w (f row.0)) → key.len ≡ length (f row.0)
      → key_networks value keys ≡ numbered_rows f w (take n rows) → key_networks value keys' ≡ numbered_rows f w (take (n + 1) rows)
  one_more {W} value rows keys keys' n row key k l is addressed long same =
      let pair : C × V → ℕ × ℕ = λ r. numbered w (f r.0) in
      let make : ℕ → ℕ → ℕ × ℕ = λ a b. (a, b) in
      let named : make (value key.address) key.len ≡ pair row = ap₂ make addressed long in
      ap (key_networks value) k
      ∙ (map_push (λ (x : Key W). (value x.address, x.len)) keys key
      ∙ (ap₂ (λ (xs : List (ℕ × ℕ)) (x : ℕ × ℕ). xs ++ x ∷ []) same (named ∙ ap pair is) ∙ sym (map_more pair rows n row l)))

  pub one_fits : (rows : List (C × V)) (n : ℕ) (row : C × V) → n < length rows → row ≡ get_or rows n row → length (f row.0) ≤ w
      → ((any : C × V) (i : ℕ) → i < n → length (f (get_or rows i any).0) ≤ w) → (any : C × V) (i : ℕ) → i < n + 1 → length (f (get_or rows i any).0) ≤ w
  one_fits rows n row l is fit before any i l' = elim (cases_eq i n) [
    | inl e ↦ omega (arith, fit, ap (λ (j : ℕ). length (f (get_or rows j any).0)) e, ap (λ (r : C × V). length (f r.0)) (is ∙ get_or_default rows n row any l))
    | inr other ↦ before any i (omega arith)
  ]

  -- the row of the longest match
  pub row_found : (asked : List Bool) (rows : List (C × V)) (r : Option ℕ) → IsLongestMatch f asked (keys_of rows) r
      → IsLookedUp f asked rows (option_and_then (λ i. slice_get rows i) r)
  row_found asked rows None h = λ row there begins. h row.0 (contains_key rows row there) begins
  row_found asked rows (Some index) h = at_place (slice_get rows index) refl
    where
      at_place : (o : Option (C × V)) → slice_get rows index ≡ o → IsLookedUp f asked rows o
      at_place None e = absurd (none-some h.key (sym (slice_get-map (λ (row : C × V). row.0) rows index ∙ ap (λ o. option_map (λ (row : C × V). row.0) o) e) ∙ h.here))
      at_place (Some row) e =
          let same : row.0 ≡ h.key = same_Some row.0 h.key (sym (slice_get-map (λ (row : C × V). row.0) rows index ∙ ap (λ o. option_map (λ (row : C × V). row.0) o) e) ∙ h.here) in
          record {
            here = (index, slice_get_within rows index row e, get_or_from_slice_get rows index row row e);
            begins = subst (λ c. BeginsWith asked (f c)) (sym same) h.begins;
            longest = λ other there begins. omega (arith, h.longest other.0 (contains_key rows other there) begins, ap (λ c. length (f c)) same);
          }

  pub row_no_longer : (k : List Bool) (rows : List (C × V)) (index : ℕ) (row : C × V) → IsLongestAt f (first_of w k) (keys_of rows) index
      → slice_get rows index ≡ Some row → length (f row.0) ≤ length k → IsLongestAt f k (keys_of rows) index
  row_no_longer k rows index row h at short =
      no_longer w f k (keys_of rows) index row.0 h
      (slice_get-map (λ (r : C × V). r.0) rows index ∙ ap (λ (o : Option (C × V)). option_map (λ (r : C × V). r.0) o) at) short

  -- the longest match that the words of rows give
  pub first_match : (padding steps : ℕ) (first words first' words' : List ℕ) (value : ℕ) (k : List Bool) (rows rows' : List (C × V)) (r : Option ℕ)
      → IsLookupTable w padding steps (numbered_rows f w rows) first words → first' ≡ first → words' ≡ words → rows ≡ rows'
      → value ≡ number (first_of w k) → length k ≤ w
      → ((networks : List (ℕ × ℕ)) → IsLookupTable w padding steps networks first' words' → IsLongestMatch (prefix_bits w) (bits w value) networks r)
      → IsLongestMatch f (first_of w k) (keys_of rows') r
  first_match padding steps first words first' words' value k rows rows' r table same_first same_words same_rows is fit known =
      let address : bits w value ≡ first_of w k = same_from_number w value (first_of w k) (length-first_of w k fit) is in
      let given : IsLookupTable w padding steps (numbered_rows f w rows) first' words' =
      subst (λ (xs : List ℕ). IsLookupTable w padding steps (numbered_rows f w rows) xs words') (sym same_first)
      (subst (λ (xs : List ℕ). IsLookupTable w padding steps (numbered_rows f w rows) first xs) (sym same_words) table) in
      let h : IsLongestMatch (prefix_bits w) (first_of w k) (map (keyed w f) (keys_of rows)) r =
      subst (λ (a : List Bool). IsLongestMatch (prefix_bits w) a (map (keyed w f) (keys_of rows)) r) address
      (subst (λ (ns : List (ℕ × ℕ)). IsLongestMatch (prefix_bits w) (bits w value) ns r) (by_keys rows) (known (numbered_rows f w rows) given)) in
      subst (λ (xs : List (C × V)). IsLongestMatch f (first_of w k) (keys_of xs) r) same_rows
      (found w f (first_of w k) (keys_of rows) r (subst (AreAscendingNetworks w) (by_keys rows) table.keys) h)

-- ---- why there is no table of networks that ascend
pub large_result : {T : Type 0} (w padding : ℕ) (steps : ℕ → ℕ) (m n : ℕ) (networks numbers : List (ℕ × ℕ)) (result : Result T TableError) → m ≡ n → networks ≡ numbers
    → IfErr result (IsTableRefused w padding (steps m) networks) → IfErr result (λ error. error ≡ TooLarge → HasTooManyWords w padding (steps n) numbers)
large_result w padding steps m n networks numbers (Ok table) same is h = tt
large_result w padding steps m n networks numbers (Err TooMany) same is h = λ e. cc e
large_result w padding steps m n networks numbers (Err (Refused index)) same is h = λ e. cc e
large_result w padding steps m n networks numbers (Err TooLarge) same is h = λ e. rw (sym same, sym is) h.2
large_result w padding steps m n networks numbers (Err NoMemory) same is h = λ e. cc e

pub refused : (w padding steps count : ℕ) (networks : List (ℕ × ℕ)) (error : TableError) → length networks ≡ count → count < 2 ^ 31 → AreAscendingNetworks w networks
    → IsTableRefused w padding steps networks error → IsCountRefused count error
refused w padding steps count networks TooMany same few are many = absurd (omega (arith, same, few, many))
refused w padding steps count networks (Refused index) same few are (n, (within, before, wrong)) = wrong (record {
  each = λ i l. are.each i (omega (arith, l, within));
  ascending = λ i k less l. are.ascending i k less (omega (arith, l, within));
})
refused w padding steps count networks TooLarge same few are h = few
refused w padding steps count networks NoMemory same few are h = few

pub refused_result : {T : Type 0} (w padding steps count : ℕ) (networks : List (ℕ × ℕ)) (result : Result T TableError) → length networks ≡ count → count < 2 ^ 31
    → AreAscendingNetworks w networks → IfErr result (IsTableRefused w padding steps networks) → IfErr result (IsCountRefused count)
refused_result w padding steps count networks (Ok table) same few are h = tt
refused_result w padding steps count networks (Err error) same few are h = refused w padding steps count networks error same few are h
