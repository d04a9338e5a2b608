-- The regions of rules that are left out of a region, and the search for what is left.
use Rattle.std.proofs.Common.{◌≡◌, ℕ, ◌+◌, ◌*◌, ◌^◌, ◌<◌, ◌≤◌, Bool, true, false, ◌&&◌, ◌||◌, not, cond, nat_le, nat_lt, List, [], ◌∷◌, ◌++◌, length, get_or, take, length-take, refl, sym, ◌∙◌, ap, inl, inr, arith}
use Rattle.std.specs.List.{list_any}
use Rattle.std.proofs.Math.Nat.{one-le-pow, pow-le-pow_left, pow-succ'}
use Rattle.std.proofs.lemmas.Bool.{true≢false, cases_Bool, and_cases, or_parts, not-false, false_from_ne_true}
use Rattle.std.proofs.lemmas.Nat.{mul-le}
use Rattle.std.proofs.lemmas.List.{length-map, length_push, map-append}
use Rattle.std.proofs.lemmas.List.Elements.{All-nil, All-cons, All-push}
use Rattle.std.proofs.lemmas.List.Folds.{list_any-append, list_any_at, Any-from_list_any}
use Rattle.std.proofs.lemmas.List.Sums.{count_by-le-length}
use Rattle.cidr_rules.specs.declared.fields.Range.{Range}
use Rattle.cidr_rules.specs.declared.regions.Region.{Region}
use Rattle.cidr_rules.specs.declared.rules.Rule.{Rule}
use Rattle.cidr_rules.specs.Packets.{is_in, ranges_of}
use Rattle.cidr_rules.specs.Regions.{are_full, meet, are_within}
use Rattle.cidr_rules.specs.Parts.{AreAllFull, IsRest, all_cells, boxes_of, cells, edges, held, is_covered, ranges_between}
use Rattle.cidr_rules.specs.Lists.{most_parts}
use Rattle.cidr_rules.specs.Searches.{AreHoles, IsFree, IsSearch, is_held}
use Rattle.cidr_rules.proofs.Boxes.{full_of, meet_apart, within_part}
use Rattle.cidr_rules.proofs.Deciding.{held_more, or_no}

or_assoc : (a b c : Bool) → ((a || b) || c) ≡ (a || (b || c))
or_assoc true b c = refl
or_assoc false b c = refl

-- ---- how many parts
edges_length : (holes : List (List (Range ℕ))) (d : ℕ) → length (edges holes d) ≡ 2 * length holes
edges_length [] d = refl
edges_length (h ∷ holes) d = omega (arith, edges_length holes d)

pub cells_bound : (holes : List (List (Range ℕ))) (from : ℕ) (rs : List (Range ℕ)) → cells holes from rs ≤ (2 * length holes + 1) ^ length rs
unfolding cells
cells_bound holes from [] = one-le-pow 0 (2 * length holes + 1) (omega arith)
cells_bound holes from (r ∷ rs) = rw (pow-succ' (2 * length holes + 1) (length rs))
    (mul-le (ranges_between (edges holes from) r) (cells holes (from + 1) rs) (2 * length holes + 1) ((2 * length holes + 1) ^ length rs)
    (omega (arith, count_by-le-length (λ p. nat_lt r.first p && nat_le p r.last) (edges holes from), edges_length holes from))
    (cells_bound holes (from + 1) rs))

pub most_more : (m n : ℕ) → m ≤ n → most_parts m ≤ most_parts n
unfolding most_parts
most_more m n le = pow-le-pow_left (omega (arith, le)) 5

module _ {A : Type 0} (number : A → ℕ) where
  pub covered_push : (hs : List (Region A)) (h : Region A) (x : List ℕ)
      → is_covered (boxes_of number (hs ++ h ∷ [])) x ≡ (is_covered (boxes_of number hs) x || is_in (ranges_of number h) x)
  covered_push hs h x = ap (λ (b : List (List (Range ℕ))). is_covered b x) (map-append (ranges_of number) hs (h ∷ []))
      ∙ list_any-append (λ b. is_in b x) (boxes_of number hs) (ranges_of number h ∷ [])
      ∙ ap (λ b. is_covered (boxes_of number hs) x || b) (or_no (is_in (ranges_of number h) x))

  full_push : (hs : List (Region A)) (h : Region A) → AreAllFull (boxes_of number hs) → are_full (ranges_of number h) ≡ true → AreAllFull (boxes_of number (hs ++ h ∷ []))
  full_push hs h all one = rw (map-append (ranges_of number) hs (h ∷ []))
      (All-push (λ (b : List (Range ℕ)). are_full b ≡ true) (boxes_of number hs) (ranges_of number h) all one)

  pub holes_start : (rs : List (Range ℕ)) (rules : List (Rule A)) (old : List (Region A)) → AreAllFull (boxes_of number old) → AreHoles number rs (take 0 rules) old old
  holes_start rs rules old all = record {
    full = all;
    inside = λ x i. sym (or_no (is_covered (boxes_of number old) x));
    free = λ x none. refl;
    few = omega arith;
  }

  module _ (rs : List (Range ℕ)) (rules : List (Rule A)) (i : ℕ) (r : Rule A) (lt : i < length rules) (is : r ≡ get_or rules i r) (old new : List (Region A))
      (h : AreHoles number rs (take i rules) old new) where
    more : (x : List ℕ) → is_held number (take (i + 1) rules) x ≡ (is_held number (take i rules) x || is_in (ranges_of number r.region) x)
    more x = held_more number rules i r x lt is

    longer : length (take (i + 1) rules) ≡ length (take i rules) + 1
    longer = omega (arith, length-take (i + 1) rules, length-take i rules)

    pub hole_pushed : are_full (ranges_of number r.region) ≡ true → AreHoles number rs (take (i + 1) rules) old (new ++ r.region ∷ [])
    hole_pushed full = record {
      full = full_push new r.region h.full full;
      inside = λ x in'. covered_push new r.region x ∙ ap (λ b. b || is_in (ranges_of number r.region) x) (h.inside x in')
          ∙ or_assoc (is_covered (boxes_of number old) x) (is_held number (take i rules) x) (is_in (ranges_of number r.region) x)
          ∙ ap (λ b. is_covered (boxes_of number old) x || b) (sym (more x));
      free = λ x none.
          let two = or_parts (is_held number (take i rules) x) (is_in (ranges_of number r.region) x) (sym (more x) ∙ none) in
          covered_push new r.region x ∙ ap (λ b. is_covered (boxes_of number new) x || b) two.1 ∙ or_no (is_covered (boxes_of number new) x) ∙ h.free x two.0;
      few = omega (arith, h.few, longer, length_push new r.region);
    }

    pub hole_skipped : (meet rs (ranges_of number r.region) && are_full (ranges_of number r.region)) ≡ false → AreHoles number rs (take (i + 1) rules) old new
    hole_skipped e = record {
      full = h.full;
      inside = λ x in'.
          let out : is_in (ranges_of number r.region) x ≡ false = elim (and_cases _ _ e) [
            | inl apart ↦ meet_apart rs (ranges_of number r.region) apart x in'
            | inr bare ↦ false_from_ne_true _ (λ i. true≢false (sym (full_of (ranges_of number r.region) x i) ∙ bare))
          ] in
          h.inside x in' ∙ ap (λ b. is_covered (boxes_of number old) x || b)
          (sym (more x ∙ ap (λ b. is_held number (take i rules) x || b) out ∙ or_no (is_held number (take i rules) x)));
      free = λ x none. h.free x (or_parts (is_held number (take i rules) x) (is_in (ranges_of number r.region) x) (sym (more x) ∙ none)).0;
      few = omega (arith, h.few, longer);
    }

  -- ---- a rule that has all of the region
  pub held_by_one : (rs : List (Range ℕ)) (rules : List (Rule A)) → list_any (λ r. are_within rs (ranges_of number r.region)) rules ≡ true
      → (x : List ℕ) → is_in rs x ≡ true → is_held number rules x ≡ true
  held_by_one rs rules e x i =
      let (k, r, lt, is, within) = Any-from_list_any (λ (q : Rule A). are_within rs (ranges_of number q.region)) rules e in
      list_any_at (λ q. is_in (ranges_of number q.region) x) rules k r lt
      (ap (λ (q : Rule A). is_in (ranges_of number q.region) x) is ∙ within_part rs (ranges_of number r.region) within x i)

  -- ---- searches
  pub search_nothing : (rs : List (Range ℕ)) (rules others : List (Rule A))
      → (are_full rs && (not (list_any (λ r. are_within rs (ranges_of number r.region)) rules) && not (list_any (λ r. are_within rs (ranges_of number r.region)) others))) ≡ false
      → IsSearch number rs rules others [] []
  search_nothing rs rules others e = record {
    parts_full = All-nil (λ (b : List (Range ℕ)). are_full b ≡ true);
    holes_full = All-nil (λ (b : List (Range ℕ)). are_full b ≡ true);
    found = λ x fr fo.
        let gone : is_in rs x ≡ false = false_from_ne_true _ (λ i. elim (and_cases _ _ e) [
          | inl bare ↦ true≢false (sym (full_of rs x i) ∙ bare)
          | inr one ↦ elim (and_cases _ _ one) [
            | inl a ↦ true≢false (sym (held_by_one rs rules (not-false _ a) x i) ∙ fr)
            | inr b ↦ true≢false (sym (held_by_one rs others (not-false _ b) x i) ∙ fo)
          ]
        ]) in
        (refl, sym (ap (λ b. cond b 1 0) gone));
    left = λ x clear. inl refl;
    few = omega arith;
  }

  one_held : (x : List ℕ) (r : Region A) → held x (boxes_of number (r ∷ [])) ≡ cond {A = ℕ} (is_in (ranges_of number r) x) 1 0
  one_held x r = omega arith

  one_cell : (holes : List (List (Range ℕ))) (r : Region A) → all_cells holes (boxes_of number (r ∷ [])) ≡ cells holes 0 (ranges_of number r)
  one_cell holes r = omega arith

  few_parts : (r : Region A) (holes : List (Region A)) (n : ℕ) → length holes ≤ n → all_cells (boxes_of number holes) (boxes_of number (r ∷ [])) ≤ most_parts n
  unfolding most_parts
  few_parts r holes n le =
      let bound : cells (boxes_of number holes) 0 (ranges_of number r) ≤ (2 * length (boxes_of number holes) + 1) ^ 5 = cells_bound (boxes_of number holes) 0 (ranges_of number r) in
      let more : (2 * length (boxes_of number holes) + 1) ^ 5 ≤ (2 * n + 1) ^ 5 = pow-le-pow_left (omega (arith, le, length-map holes (ranges_of number))) 5 in
      omega (arith, one_cell (boxes_of number holes) r, bound, more)

  pub search_region : (r : Region A) (rules others : List (Rule A)) (first second : List (Region A)) → are_full (ranges_of number r) ≡ true
      → AreHoles number (ranges_of number r) rules [] first → AreHoles number (ranges_of number r) others first second → IsSearch number (ranges_of number r) rules others (r ∷ []) second
  search_region r rules others first second full a b = record {
    parts_full = All-cons (λ (q : List (Range ℕ)). are_full q ≡ true) (ranges_of number r) [] full (All-nil (λ (q : List (Range ℕ)). are_full q ≡ true));
    holes_full = b.full;
    found = λ x fr fo. (b.free x fo ∙ a.free x fr, one_held x r);
    left = λ x clear. elim (cases_Bool (is_in (ranges_of number r) x)) [
      | inl i ↦
          let late = or_parts (is_covered (boxes_of number first) x) (is_held number others x) (sym (b.inside x i) ∙ clear) in
          let early : is_held number rules x ≡ false = sym (a.inside x i) ∙ late.0 in
          inr (early, late.1, i)
      | inr f ↦ inl (one_held x r ∙ ap (λ b. cond {A = ℕ} b 1 0) f)
    ];
    few = few_parts r second (length rules + length others) (omega (arith, a.few, b.few));
  }

  -- ---- what a search finds
  module _ (rs : List (Range ℕ)) (rules others : List (Rule A)) (parts holes : List (Region A)) (s : IsSearch number rs rules others parts holes) where
    pub free_none : ((x : List ℕ) → is_covered (boxes_of number holes) x ≡ false → held x (boxes_of number parts) ≡ 0) → (x : List ℕ) → ¬ (IsFree number rs rules others x)
    free_none none x free =
        let k = s.found x free.here free.there in
        let one : cond {A = ℕ} (is_in rs x) 1 0 ≡ 1 = ap (λ b. cond {A = ℕ} b 1 0) free.inside in
        omega (arith, k.1, one, none x k.0)

    pub free_some : (new : List (List (Range ℕ))) (rest : List (Range ℕ)) → IsRest (boxes_of number holes) (boxes_of number parts) new rest
        → (x : List ℕ) → is_in rest x ≡ true → IsFree number rs rules others x
    free_some new rest is x in' =
        let clear = is.clear x in' in
        let one : cond {A = ℕ} (is_in rest x) 1 0 ≡ 1 = ap (λ b. cond {A = ℕ} b 1 0) in' in
        elim (s.left x clear) [
          | inl z ↦ absurd (omega (arith, z, one, is.counts x clear))
          | inr k ↦ record { inside = k.2; here = k.0; there = k.1 }
        ]
