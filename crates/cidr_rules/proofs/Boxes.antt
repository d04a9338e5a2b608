-- How boxes lie to each other: lists of ranges, one for each field.
use Rattle.std.proofs.Common.{◌≡◌, ℕ, zero, suc, ◌<◌, ◌≤◌, Bool, true, false, ◌&&◌, nat_le, min, max, List, [], ◌∷◌, ◌++◌, length, set, map, refl, sym, ◌∙◌, ap, inl, inr, arith}
use Rattle.std.proofs.lemmas.Bool.{true≢false, false≢true, leb-true, leb-false, le-leb, lt-leb, and_parts, and_cases, and_from, and_left, and_right}
use Rattle.cidr_rules.specs.declared.fields.Range.{Range}
use Rattle.cidr_rules.specs.Packets.{is_between, is_in}
use Rattle.cidr_rules.specs.Regions.{are_full, meet, are_within, common_of, shared_of, range_at}

-- tests that pass together are the same
pub same_tests : (p q : Bool) → (p ≡ true → q ≡ true) → (q ≡ true → p ≡ true) → p ≡ q
same_tests true true f g = refl
same_tests true false f g = sym (f refl)
same_tests false true f g = g refl
same_tests false false f g = refl

pairwise : (a b c d : Bool) → ((a && b) && (c && d)) ≡ ((a && c) && (b && d))
pairwise true true c d = refl
pairwise true false true d = refl
pairwise true false false d = refl
pairwise false b c d = refl

-- ---- what is in both
common_between : (r s : Range ℕ) (n : ℕ) → is_between (common_of r s) n ≡ (is_between r n && is_between s n)
common_between r s n = same_tests _ _
    (λ e.
    let lo : max r.first s.first ≤ n = leb-true _ _ (and_parts _ _ e).0 in
    let hi : n ≤ min r.last s.last = leb-true _ _ (and_parts _ _ e).1 in
    and_from _ _ (and_from _ _ (le-leb r.first n (omega arith)) (le-leb n r.last (omega arith)))
    (and_from _ _ (le-leb s.first n (omega arith)) (le-leb n s.last (omega arith))))
    (λ e.
    let a : r.first ≤ n = leb-true _ _ (and_parts _ _ (and_parts _ _ e).0).0 in
    let b : n ≤ r.last = leb-true _ _ (and_parts _ _ (and_parts _ _ e).0).1 in
    let c : s.first ≤ n = leb-true _ _ (and_parts _ _ (and_parts _ _ e).1).0 in
    let d : n ≤ s.last = leb-true _ _ (and_parts _ _ (and_parts _ _ e).1).1 in
    and_from _ _ (le-leb (max r.first s.first) n (omega arith)) (le-leb n (min r.last s.last) (omega arith)))

pub shared_both : (rs ss : List (Range ℕ)) (x : List ℕ) → length rs ≡ length ss → is_in (shared_of rs ss) x ≡ (is_in rs x && is_in ss x)
unfolding is_in shared_of
shared_both [] [] [] e = refl
shared_both [] [] (n ∷ ns) e = refl
shared_both [] (s ∷ ss) x e = absurd (omega (arith, e))
shared_both (r ∷ rs) [] x e = absurd (omega (arith, e))
shared_both (r ∷ rs) (s ∷ ss) [] e = refl
shared_both (r ∷ rs) (s ∷ ss) (n ∷ ns) e =
    ap (λ b. b && is_in (shared_of rs ss) ns) (common_between r s n)
    ∙ ap (λ b. (is_between r n && is_between s n) && b) (shared_both rs ss ns (omega (arith, e)))
    ∙ pairwise (is_between r n) (is_between s n) (is_in rs ns) (is_in ss ns)

-- ---- boxes without a common packet, and boxes within others
apart_between : (r s : Range ℕ) (n : ℕ) → (nat_le s.first r.last && nat_le r.first s.last) ≡ false → is_between r n ≡ true → is_between s n ≡ false
apart_between r s n e b =
    let lo : r.first ≤ n = leb-true _ _ (and_parts _ _ b).0 in
    let hi : n ≤ r.last = leb-true _ _ (and_parts _ _ b).1 in
    elim (and_cases _ _ e) [
      | inl h ↦ let k : r.last < s.first = leb-false _ _ h in and_left _ _ (lt-leb s.first n (omega arith))
      | inr h ↦ let k : s.last < r.first = leb-false _ _ h in and_right _ _ (lt-leb n s.last (omega arith))
    ]

pub meet_apart : (rs ss : List (Range ℕ)) → meet rs ss ≡ false → (x : List ℕ) → is_in rs x ≡ true → is_in ss x ≡ false
unfolding meet is_in
meet_apart [] ss e x i = absurd (true≢false e)
meet_apart (r ∷ rs) [] e x i = absurd (true≢false e)
meet_apart (r ∷ rs) (s ∷ ss) e [] i = refl
meet_apart (r ∷ rs) (s ∷ ss) e (n ∷ ns) i = elim (and_cases _ _ e) [
  | inl h ↦ and_left _ _ (apart_between r s n h (and_parts _ _ i).0)
  | inr h ↦ and_right _ _ (meet_apart rs ss h ns (and_parts _ _ i).1)
]

within_between : (r s : Range ℕ) (n : ℕ) → (nat_le s.first r.first && nat_le r.last s.last) ≡ true → is_between r n ≡ true → is_between s n ≡ true
within_between r s n e b =
    let lo : r.first ≤ n = leb-true _ _ (and_parts _ _ b).0 in
    let hi : n ≤ r.last = leb-true _ _ (and_parts _ _ b).1 in
    let low : s.first ≤ r.first = leb-true _ _ (and_parts _ _ e).0 in
    let high : r.last ≤ s.last = leb-true _ _ (and_parts _ _ e).1 in
    and_from _ _ (le-leb s.first n (omega arith)) (le-leb n s.last (omega arith))

pub within_part : (rs ss : List (Range ℕ)) → are_within rs ss ≡ true → (x : List ℕ) → is_in rs x ≡ true → is_in ss x ≡ true
unfolding are_within is_in
within_part [] [] e x i = i
within_part [] (s ∷ ss) e x i = absurd (false≢true e)
within_part (r ∷ rs) [] e x i = absurd (false≢true e)
within_part (r ∷ rs) (s ∷ ss) e [] i = absurd (false≢true i)
within_part (r ∷ rs) (s ∷ ss) e (n ∷ ns) i = and_from _ _
    (within_between r s n (and_parts _ _ e).0 (and_parts _ _ i).0)
    (within_part rs ss (and_parts _ _ e).1 ns (and_parts _ _ i).1)

pub within_push : (rs ss : List (Range ℕ)) (r s : Range ℕ) → are_within rs ss ≡ true → s.first ≤ r.first → r.last ≤ s.last
    → are_within (rs ++ r ∷ []) (ss ++ s ∷ []) ≡ true
unfolding are_within
within_push [] [] r s e lo hi = and_from _ _ (and_from _ _ (le-leb _ _ lo) (le-leb _ _ hi)) refl
within_push [] (t ∷ ss) r s e lo hi = absurd (false≢true e)
within_push (q ∷ rs) [] r s e lo hi = absurd (false≢true e)
within_push (q ∷ rs) (t ∷ ss) r s e lo hi = and_from _ _ (and_parts _ _ e).0 (within_push rs ss r s (and_parts _ _ e).1 lo hi)

-- ---- boxes with a packet
pub full_corner : (rs : List (Range ℕ)) → are_full rs ≡ true → is_in rs (map (λ r. r.first) rs) ≡ true
unfolding are_full is_in
full_corner [] e = refl
full_corner (r ∷ rs) e = and_from _ _
    (and_from _ _ (le-leb r.first r.first (omega arith)) (and_parts _ _ e).0)
    (full_corner rs (and_parts _ _ e).1)

pub full_of : (rs : List (Range ℕ)) (x : List ℕ) → is_in rs x ≡ true → are_full rs ≡ true
unfolding are_full is_in
full_of [] x i = refl
full_of (r ∷ rs) [] i = absurd (false≢true i)
full_of (r ∷ rs) (n ∷ ns) i =
    let lo : r.first ≤ n = leb-true _ _ (and_parts _ _ (and_parts _ _ i).0).0 in
    let hi : n ≤ r.last = leb-true _ _ (and_parts _ _ (and_parts _ _ i).0).1 in
    and_from _ _ (le-leb r.first r.last (omega arith)) (full_of rs ns (and_parts _ _ i).1)

-- ---- one field
pub meet_at : (rs ss : List (Range ℕ)) (d : ℕ) → d < length rs → d < length ss → meet rs ss ≡ true
    → ((range_at ss d).first ≤ (range_at rs d).last) × ((range_at rs d).first ≤ (range_at ss d).last)
unfolding meet
meet_at [] ss d lr ls e = absurd (omega (arith, lr))
meet_at (r ∷ rs) [] d lr ls e = absurd (omega (arith, ls))
meet_at (r ∷ rs) (s ∷ ss) zero lr ls e = (leb-true _ _ (and_parts _ _ (and_parts _ _ e).0).0, leb-true _ _ (and_parts _ _ (and_parts _ _ e).0).1)
meet_at (r ∷ rs) (s ∷ ss) (suc d) lr ls e = meet_at rs ss d (omega (arith, lr)) (omega (arith, ls)) (and_parts _ _ e).1

pub full_at : (rs : List (Range ℕ)) (d : ℕ) → d < length rs → are_full rs ≡ true → (range_at rs d).first ≤ (range_at rs d).last
unfolding are_full
full_at [] d lr e = absurd (omega (arith, lr))
full_at (r ∷ rs) zero lr e = leb-true _ _ (and_parts _ _ e).0
full_at (r ∷ rs) (suc d) lr e = full_at rs d (omega (arith, lr)) (and_parts _ _ e).1

pub full_set : (rs : List (Range ℕ)) (d : ℕ) (r : Range ℕ) → are_full rs ≡ true → r.first ≤ r.last → are_full (set rs d r) ≡ true
unfolding are_full
full_set [] d r e le = refl
full_set (q ∷ rs) zero r e le = and_from _ _ (le-leb _ _ le) (and_parts _ _ e).1
full_set (q ∷ rs) (suc d) r e le = and_from _ _ (and_parts _ _ e).0 (full_set rs d r (and_parts _ _ e).1 le)

pub meet_set : (rs ss : List (Range ℕ)) (d : ℕ) (r : Range ℕ) → meet rs ss ≡ true → (range_at ss d).first ≤ r.last → r.first ≤ (range_at ss d).last
    → meet (set rs d r) ss ≡ true
unfolding meet
meet_set [] ss d r e lo hi = refl
meet_set (q ∷ rs) [] zero r e lo hi = refl
meet_set (q ∷ rs) [] (suc d) r e lo hi = refl
meet_set (q ∷ rs) (s ∷ ss) zero r e lo hi = and_from _ _ (and_from _ _ (le-leb _ _ lo) (le-leb _ _ hi)) (and_parts _ _ e).1
meet_set (q ∷ rs) (s ∷ ss) (suc d) r e lo hi = and_from _ _ (and_parts _ _ e).0 (meet_set rs ss d r (and_parts _ _ e).1 lo hi)
