-- A block that lies in a range of addresses has its answer, and no other block has one.
use Rattle.std.proofs.Common.{◌≡◌, refl, sym, ap, subst, ◌∙◌, arith, inl, inr, ℕ, zero, suc, ◌+◌, ◌*◌, ◌/◌, ◌%◌, ◌^◌, ◌<◌, ◌≤◌, List, length, get_or, take}
use Rattle.std.proofs.lemmas.Bool.{cases_eq, cases_lt}
use Rattle.std.proofs.lemmas.Nat.{pow_pos, shl-shr, shr_split, shr_below, mod_below, le-div, div_below, mul-le, div-add-mod'}
use Rattle.std.specs.List.{Contains}
use Rattle.std.proofs.lemmas.Option.{get_or_from_slice_get, slice_get_within}
use Rattle.cidr.specs.model.Bits.{bits}
use Rattle.cidr.specs.laws.BitLaws.{bits_high}
use Rattle.cidr_table.specs.model.Prefixes.{IsLongestAt, IsLongestMatch}
use Rattle.cidr_lookup.specs.Keys.{AreAscendingNetworks, prefix_bits, row_behind}
use Rattle.cidr_lookup.specs.Ranges.{AreMatchRanges}
use Rattle.cidr_lookup.specs.Passing.{HasNumber, at}
use Rattle.cidr_lookup.proofs.Longest.{inside, length_network, row_within}
use Rattle.cidr_lookup.proofs.Numbers.{nests}
use Rattle.cidr_lookup.specs.Putting.{AllHave}
use Rattle.cidr_lookup.proofs.Blocks.{cut, in_block}
use Rattle.cidr_lookup.specs.Tables.{IsAnswer}

-- ---- a number has one answer
module _ (w : ℕ) (networks : List (ℕ × ℕ)) (good : AreAscendingNetworks w networks) (address : ℕ) (within : address < 2 ^ w) where
  -- a longest match is a network that has the address, and is as long as its bits
  matched : (i : ℕ) (m : IsLongestAt (prefix_bits w) (bits w address) networks i)
      → (i < length networks) × (at w networks i ≡ m.key) × HasNumber w networks (at w networks i) address × (length (prefix_bits w m.key) ≡ (at w networks i).1)
  matched i m =
      let l : i < length networks = slice_get_within networks i m.key m.here in
      let is : at w networks i ≡ m.key = get_or_from_slice_get networks i m.key (0, 0) m.here in (
        l,
        is,
        inside w (at w networks i) (good.each i l) address within (subst (λ k. take (length (prefix_bits w k)) (bits w address) ≡ prefix_bits w k) (sym is) m.begins),
        ap (λ k. length (prefix_bits w k)) (sym is) ∙ length_network w (at w networks i) (good.each i l).fits,
      )

  contained : (i : ℕ) (m : IsLongestAt (prefix_bits w) (bits w address) networks i) → Contains networks m.key
  contained i m = (i, slice_get_within networks i m.key m.here, get_or_from_slice_get networks i m.key m.key m.here)

  apart : (i k : ℕ) → i < k → IsLongestAt (prefix_bits w) (bits w address) networks i → IsLongestAt (prefix_bits w) (bits w address) networks k → ⊥
  apart i k lt m n =
      let a = matched i m in
      let b = matched k n in
      let nested = nests w (at w networks i) (at w networks k) (good.each i a.0) (good.each k b.0) (good.ascending i k lt b.0) (omega (arith, b.2.0, a.2.1)) in
      omega (arith, nested.0, a.3, b.3, m.longest n.key (contained k n) n.begins)

  one_match : (value value' : ℕ) → IsLongestMatch (prefix_bits w) (bits w address) networks (row_behind value) → IsLongestMatch (prefix_bits w) (bits w address) networks (row_behind value')
      → value ≡ value'
  one_match zero zero m n = refl
  one_match zero (suc k) m n = absurd (m n.key (contained k n) n.begins)
  one_match (suc i) zero m n = absurd (n m.key (contained i m) m.begins)
  one_match (suc i) (suc k) m n = elim (cases_eq i k) [
    | inl e ↦ ap suc e
    | inr other ↦ elim (cases_lt i k) [
      | inl lt ↦ absurd (apart i k lt m n)
      | inr le ↦ absurd (apart k i (omega arith) n m)
    ]
  ]

pub one_answer : (w padding : ℕ) (networks : List (ℕ × ℕ)) → AreAscendingNetworks w networks → (number value value' : ℕ)
    → IsAnswer w padding networks number value → IsAnswer w padding networks number value' → value ≡ value'
one_answer w padding networks good number value value' known known' =
    let address = number / 2 ^ padding in
    let same : bits w address ≡ bits w (address % 2 ^ w) = ap (bits w) (sym (shr_split address w)) ∙ bits_high w (address / 2 ^ w) (address % 2 ^ w) in
    one_match w networks good (address % 2 ^ w) (mod_below address (2 ^ w) (pow_pos w)) value value'
    (subst (λ b. IsLongestMatch (prefix_bits w) b networks (row_behind value)) same known) (subst (λ b. IsLongestMatch (prefix_bits w) b networks (row_behind value')) same known')

-- ---- blocks
module _ (w padding : ℕ) (networks : List (ℕ × ℕ)) (starts answers : List ℕ) (ranges : AreMatchRanges w networks starts answers) where
  abbrev pub start : ℕ → ℕ
  start k = get_or starts k 0 * 2 ^ padding

  -- the range of a number has its answer
  pub answered : (number k : ℕ) → number < 2 ^ (w + padding) → k < length starts → start k ≤ number → (k + 1 < length starts → number < start (k + 1))
      → IsAnswer w padding networks number (get_or answers k 0)
  answered number k fits within from next = ranges.matches (number / 2 ^ padding) k (shr_below number w padding fits) (record {
    within = within;
    from = le-div (get_or starts k 0) number (2 ^ padding) (pow_pos padding) from;
    last = λ i lt l.
        let behind : number / 2 ^ padding < get_or starts (k + 1) 0 = div_below number (2 ^ padding) (get_or starts (k + 1) 0) (pow_pos padding) (next (omega arith)) in
        elim (cases_eq i (k + 1)) [
          | inl e ↦ omega (arith, behind, ap (λ j. get_or starts j 0) e)
          | inr other ↦ omega (arith, behind, ranges.ordered.ascending (k + 1) i (omega arith) l)
        ];
  })

  module _ (steps block k : ℕ) (fits : (block + 1) * 2 ^ (6 * steps) ≤ 2 ^ (w + padding)) (within : k < length starts) (from : start k ≤ block * 2 ^ (6 * steps)) where
    -- no later range begins in the block
    pub whole : length networks < 2 ^ 31 → (k + 1 < length starts → block < start (k + 1) / 2 ^ (6 * steps)) → AllHave (IsAnswer w padding networks) steps block (get_or answers k 0)
    whole few next =
        let s = 2 ^ (6 * steps) in
        let some : 0 < s = pow_pos (6 * steps) in
        let all : (number : ℕ) → number / s ≡ block → IsAnswer w padding networks number (get_or answers k 0) = λ number e.
        let inside = in_block number block s some e in
        answered number k (omega (arith, inside.1, fits)) within (omega (arith, inside.0, from)) (λ l.
        let far : (block + 1) * s ≤ start (k + 1) / s * s = mul-le (block + 1) s (start (k + 1) / s) s (omega (arith, next l)) (omega arith) in
        omega (arith, inside.1, far, div-add-mod' (start (k + 1)) s)) in
        let first = all (block * s) (shl-shr block (6 * steps)) in
        (omega (arith, few, row_within w networks (bits w (block * s / 2 ^ padding)) (get_or answers k 0) first), all)

    -- one does
    pub parted : AreAscendingNetworks w networks → k + 1 < length starts → block * 2 ^ (6 * steps) < start (k + 1) → start (k + 1) / 2 ^ (6 * steps) ≤ block
        → ¬ ((value : ℕ) × AllHave (IsAnswer w padding networks) steps block value)
    parted good more behind inner = λ (value, all).
        let s = 2 ^ (6 * steps) in
        let some : 0 < s = pow_pos (6 * steps) in
        let next = start (k + 1) in
        let upto : block ≤ next / s = le-div block next s some (omega arith) in
        let here : next / s ≡ block = omega arith in
        let inside = in_block next block s some here in
        let last : k + 1 + 1 < length starts → next < start (k + 1 + 1) = λ l.
        let up : (get_or starts (k + 1) 0 + 1) * 2 ^ padding ≤ start (k + 1 + 1) =
        mul-le (get_or starts (k + 1) 0 + 1) (2 ^ padding) (get_or starts (k + 1 + 1) 0) (2 ^ padding) (omega (arith, ranges.ordered.ascending (k + 1) (k + 1 + 1) (omega arith) l)) (omega arith) in
        omega (arith, up, pow_pos padding) in
        let one = one_answer w padding networks good (block * s) value (get_or answers k 0) (all.1 (block * s) (shl-shr block (6 * steps)))
        (answered (block * s) k (omega (arith, behind, inside.1, fits)) within from (λ _. behind)) in
        let two = one_answer w padding networks good next value (get_or answers (k + 1) 0) (all.1 next here)
        (answered next (k + 1) (omega (arith, inside.1, fits)) more (omega arith) last) in
        ranges.changes k more (sym one ∙ two)

  -- so a block has parts where a range begins in it, behind the last that begins at most with its first number
  pub divided : (steps block k count : ℕ) → length starts ≡ count → AreAscendingNetworks w networks → (block + 1) * 2 ^ (6 * steps) ≤ 2 ^ (w + padding) → k < count
      → start k ≤ block * 2 ^ (6 * steps) → (k + 1 < count → block * 2 ^ (6 * steps) < start (k + 1)) → ((k + 1 < count → block < start (k + 1) / 2 ^ (6 * steps)) → ⊥)
      → ¬ ((value : ℕ) × AllHave (IsAnswer w padding networks) steps block value)
  divided steps block k count size good fits within from behind other =
      let at = cut steps block k count (start (k + 1)) behind other in
      parted steps block k fits (omega arith) from good (omega (arith, at.0)) at.1 at.2
