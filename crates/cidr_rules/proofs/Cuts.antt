-- What a hole leaves of a box, one field after the other.
use Rattle.std.proofs.Common.{◌≡◌, ℕ, zero, suc, ◌+◌, ◌-◌, ◌<◌, ◌≤◌, Bool, true, false, ◌&&◌, cond, nat_lt, min, max, Some, None, if◌then◌else◌, List, [], ◌∷◌, ◌++◌, length, set, take, refl, sym, ◌∙◌, ap, subst, inl, inr, arith, length-set}
use Rattle.std.specs.List.{Contains}
use Rattle.std.proofs.lemmas.Bool.{true≢false, le-leb, lt-leb, lt-ltb, le-ltb, ltb-true, and_from, and_left, and_right, cases_lt, false_from_ne_true}
use Rattle.std.proofs.lemmas.List.{take_more, take_more_set, take_all}
use Rattle.std.proofs.lemmas.List.Elements.{All-append, All-nil, All-cons}
use Rattle.std.proofs.lemmas.List.Sums.{sum_by-append}
use Rattle.cidr_rules.specs.declared.fields.Range.{Range}
use Rattle.cidr_rules.specs.Packets.{is_between, is_in}
use Rattle.cidr_rules.specs.Regions.{are_full, meet, are_within, common_of, below_of, above_of, range_at}
use Rattle.cidr_rules.specs.Parts.{AreAllFull, IsCut, IsTrimmed, all_cells, cells, edges, held, piece}
use Rattle.cidr_rules.proofs.Boxes.{full_at, full_set, meet_at, meet_set, within_part, within_push}
use Rattle.cidr_rules.proofs.Cells.{beside, cells_some, cut_cells, edges_end, edges_start, piece_sum}

-- ---- sums of tests
pub one_of : (b : Bool) → b ≡ true → cond {A = ℕ} b 1 0 ≡ 1
one_of b e = ap (λ t. cond t 1 0) e

pub none_of : (b : Bool) → b ≡ false → cond {A = ℕ} b 1 0 ≡ 0
none_of b e = ap (λ t. cond t 1 0) e

pub and_yes : (a : Bool) → (a && true) ≡ a
and_yes true = refl
and_yes false = refl

pub and_no : (a : Bool) → (a && false) ≡ false
and_no true = refl
and_no false = refl

nothing : (g h : Bool) → cond (g && false) 1 0 + cond (h && false) 1 0 + 0 ≡ 0
nothing true true = refl
nothing true false = refl
nothing false true = refl
nothing false false = refl

module _ (g h a b m q : Bool) (e : cond (g && a) 1 0 + cond (h && b) 1 0 + cond m 1 0 ≡ cond q 1 0) where
  front : (t : Bool) → cond (g && (t && a)) 1 0 + cond (h && (t && b)) 1 0 + cond (t && m) 1 0 ≡ cond (t && q) 1 0
  front true = e
  front false = nothing g h

  behind : (t : Bool) → cond (g && (a && t)) 1 0 + cond (h && (b && t)) 1 0 + cond (m && t) 1 0 ≡ cond (q && t) 1 0
  behind true = simp and_yes e
  behind false = rw (and_no a, and_no b, and_no m, and_no q) (nothing g h)

sums : (B A M R b a m r : Bool) → B ≡ b → A ≡ a → M ≡ m → R ≡ r → cond b 1 0 + cond a 1 0 + cond m 1 0 ≡ cond r 1 0
    → cond B 1 0 + cond A 1 0 + cond M 1 0 ≡ cond R 1 0
sums B A M R b a m r eB eA eM eR h = rw (eB, eA, eM, eR) h

-- ---- one range: a number of it is below the other, above it, or in both
module _ (r s : Range ℕ) (n : ℕ) (low : s.first ≤ r.last) (high : r.first ≤ s.last) (full : s.first ≤ s.last) where
  three_between : cond (nat_lt r.first s.first && is_between (record { first = r.first; last = s.first - 1 }) n) 1 0
      + cond (nat_lt s.last r.last && is_between (record { first = s.last + 1; last = r.last }) n) 1 0
      + cond (is_between (common_of r s) n) 1 0 ≡ cond (is_between r n) 1 0
  three_between =
      elim (cases_lt n r.first) [
        | inl a ↦ sums _ _ _ _ false false false false
            (and_right _ _ (and_left _ _ (lt-leb r.first n a)))
            (and_right _ _ (and_left _ _ (lt-leb (s.last + 1) n (omega (arith, a, high)))))
            (and_left _ _ (lt-leb (max r.first s.first) n (omega (arith, a))))
            (and_left _ _ (lt-leb r.first n a)) refl
        | inr a ↦ elim (cases_lt r.last n) [
          | inl b ↦ sums _ _ _ _ false false false false
              (and_right _ _ (and_right _ _ (lt-leb n (s.first - 1) (omega (arith, b, low)))))
              (and_right _ _ (and_right _ _ (lt-leb n r.last b)))
              (and_right _ _ (lt-leb n (min r.last s.last) (omega (arith, b))))
              (and_right _ _ (lt-leb n r.last b)) refl
          | inr b ↦ elim (cases_lt n s.first) [
            | inl d ↦ sums _ _ _ _ true false false true
                (and_from _ _ (lt-ltb r.first s.first (omega (arith, a, d))) (and_from _ _ (le-leb r.first n a) (le-leb n (s.first - 1) (omega (arith, d)))))
                (and_right _ _ (and_left _ _ (lt-leb (s.last + 1) n (omega (arith, d, full)))))
                (and_left _ _ (lt-leb (max r.first s.first) n (omega (arith, d))))
                (and_from _ _ (le-leb r.first n a) (le-leb n r.last b)) refl
            | inr d ↦ elim (cases_lt s.last n) [
              | inl f ↦ sums _ _ _ _ false true false true
                  (and_right _ _ (and_right _ _ (lt-leb n (s.first - 1) (omega (arith, f, full)))))
                  (and_from _ _ (lt-ltb s.last r.last (omega (arith, f, b))) (and_from _ _ (le-leb (s.last + 1) n (omega (arith, f))) (le-leb n r.last b)))
                  (and_right _ _ (lt-leb n (min r.last s.last) (omega (arith, f))))
                  (and_from _ _ (le-leb r.first n a) (le-leb n r.last b)) refl
              | inr f ↦ sums _ _ _ _ false false true true
                  (elim (cases_lt r.first s.first) [
                    | inl k ↦ and_right _ _ (and_right _ _ (lt-leb n (s.first - 1) (omega (arith, k, d))))
                    | inr k ↦ and_left _ _ (le-ltb r.first s.first k)
                  ])
                  (and_right _ _ (and_left _ _ (lt-leb (s.last + 1) n (omega (arith, f)))))
                  (and_from _ _ (le-leb (max r.first s.first) n (omega (arith, a, d))) (le-leb n (min r.last s.last) (omega (arith, b, f))))
                  (and_from _ _ (le-leb r.first n a) (le-leb n r.last b)) refl
            ]
          ]
        ]
      ]

-- ---- one field of a box
module _ (a b m : Range ℕ) (g h : Bool) where
  three_parts : (rs : List (Range ℕ)) (d : ℕ) → d < length rs
      → ((n : ℕ) → cond (g && is_between a n) 1 0 + cond (h && is_between b n) 1 0 + cond (is_between m n) 1 0 ≡ cond (is_between (range_at rs d) n) 1 0)
      → (x : List ℕ) → cond (g && is_in (set rs d a) x) 1 0 + cond (h && is_in (set rs d b) x) 1 0 + cond (is_in (set rs d m) x) 1 0 ≡ cond (is_in rs x) 1 0
  unfolding is_in
  three_parts [] d lt split x = absurd (omega (arith, lt))
  three_parts (q ∷ rs) zero lt split [] = nothing g h
  three_parts (q ∷ rs) zero lt split (n ∷ ns) = behind g h (is_between a n) (is_between b n) (is_between m n) (is_between q n) (split n) (is_in rs ns)
  three_parts (q ∷ rs) (suc d) lt split [] = nothing g h
  three_parts (q ∷ rs) (suc d) lt split (n ∷ ns) =
      front g h (is_in (set rs d a) ns) (is_in (set rs d b) ns) (is_in (set rs d m) ns) (is_in rs ns)
      (three_parts rs d (omega (arith, lt)) split ns) (is_between q n)

held_piece : (x : List ℕ) (rs : List (Range ℕ)) (d : ℕ) (g : Bool) (q : Range ℕ)
    → held x (piece rs d (if g then Some q else None)) ≡ cond (g && is_in (set rs d q) x) 1 0
held_piece x rs d true q = omega arith
held_piece x rs d false q = refl

full_piece : (rs : List (Range ℕ)) (d : ℕ) (g : Bool) (q : Range ℕ) → are_full rs ≡ true → (g ≡ true → q.first ≤ q.last)
    → AreAllFull (piece rs d (if g then Some q else None))
full_piece rs d true q full le = All-cons (λ (b : List (Range ℕ)). are_full b ≡ true) (set rs d q) [] (full_set rs d q full (le refl)) (All-nil (λ (b : List (Range ℕ)). are_full b ≡ true))
full_piece rs d false q full le = All-nil (λ (b : List (Range ℕ)). are_full b ≡ true)

held-append : (x : List ℕ) (xs ys : List (List (Range ℕ))) → held x (xs ++ ys) ≡ held x xs + held x ys
held-append x xs ys = sum_by-append (λ rs. cond {A = ℕ} (is_in rs x) 1 0) xs ys

cells-append : (holes xs ys : List (List (Range ℕ))) → all_cells holes (xs ++ ys) ≡ all_cells holes xs + all_cells holes ys
cells-append holes xs ys = sum_by-append (λ rs. cells holes 0 rs) xs ys

-- ---- the fields up to a place
-- the boxes and the rest are the old ones and the box, and the rest is within the hole in the fields so far
pub record IsCutUpto (d : ℕ) (rs left hole : List (Range ℕ)) (old new : List (List (Range ℕ))) : Type 0 where
  pub boxes : AreAllFull new
  pub full : are_full left ≡ true
  pub met : meet left hole ≡ true
  pub within : are_within (take d left) (take d hole) ≡ true
  pub long : length left ≡ length rs
  pub counts : (x : List ℕ) → held x new + cond (is_in left x) 1 0 ≡ held x old + cond (is_in rs x) 1 0
  pub fewer : (holes : List (List (Range ℕ))) → Contains holes hole
      → all_cells holes new + cells holes 0 left ≤ all_cells holes old + cells holes 0 rs

pub cut_start : (rs hole : List (Range ℕ)) (old : List (List (Range ℕ))) → AreAllFull old → are_full rs ≡ true → meet rs hole ≡ true
    → IsCutUpto 0 rs rs hole old old
unfolding are_within
cut_start rs hole old boxes full met = record {
  boxes = boxes;
  full = full;
  met = met;
  within = refl;
  long = refl;
  counts = λ x. refl;
  fewer = λ holes has. omega arith;
}

module _ (d : ℕ) (rs left hole rest : List (Range ℕ)) (old new more : List (List (Range ℕ))) (solid : are_full hole ≡ true)
    (h : IsCutUpto d rs left hole old new) (t : IsTrimmed d left rest hole new more) (lr : d < length rs) (ls : d < length hole) where
  ll : d < length left
  ll = omega (arith, h.long, lr)

  pub cut_more : IsCutUpto (d + 1) rs rest hole old more
  cut_more =
      let q = range_at left d in
      let s = range_at hole d in
      let m = common_of q s in
      let lo : s.first ≤ q.last = (meet_at left hole d ll ls h.met).0 in
      let hi : q.first ≤ s.last = (meet_at left hole d ll ls h.met).1 in
      let fq : q.first ≤ q.last = full_at left d ll h.full in
      let fs : s.first ≤ s.last = full_at hole d ls solid in
      let below : Range ℕ = record { first = q.first; last = s.first - 1 } in
      let above : Range ℕ = record { first = s.last + 1; last = q.last } in
      record {
        boxes = rw t.boxes (All-append (λ (b : List (Range ℕ)). are_full b ≡ true) (new ++ piece left d (below_of q s)) (piece left d (above_of q s))
            (All-append (λ (b : List (Range ℕ)). are_full b ≡ true) new (piece left d (below_of q s)) h.boxes
            (full_piece left d (nat_lt q.first s.first) below h.full (λ e. omega (arith, ltb-true q.first s.first e))))
            (full_piece left d (nat_lt s.last q.last) above h.full (λ e. omega (arith, ltb-true s.last q.last e))));
        full = rw t.left (full_set left d m h.full (omega arith));
        met = rw t.left (meet_set left hole d m h.met (omega arith) (omega arith));
        within = rw (t.left, take_more_set left d m ll, take_more hole d (record { first = 0; last = 0 }) ls)
            (within_push (take d left) (take d hole) m s h.within (omega arith) (omega arith));
        long = ap length t.left ∙ length-set left d m ∙ h.long;
        counts = λ x. rw (t.left, t.boxes) (omega (
          arith,
          h.counts x,
          held-append x (new ++ piece left d (below_of q s)) (piece left d (above_of q s)),
          held-append x new (piece left d (below_of q s)),
          held_piece x left d (nat_lt q.first s.first) below,
          held_piece x left d (nat_lt s.last q.last) above,
          three_parts below above m (nat_lt q.first s.first) (nat_lt s.last q.last) left d ll (λ n. three_between q s n lo hi fs) x,
        ));
        fewer = λ holes has. rw (t.left, t.boxes) (omega (
          arith,
          h.fewer holes has,
          cells-append holes (new ++ piece left d (below_of q s)) (piece left d (above_of q s)),
          cells-append holes new (piece left d (below_of q s)),
          piece_sum holes left d (below_of q s),
          piece_sum holes left d (above_of q s),
          cut_cells holes left 0 d d (below_of q s) (above_of q s) m ll (omega arith)
              (beside (edges holes d) q s lo hi fs (edges_start holes hole d has) (edges_end holes hole d has)),
        ));
      }

pub cut_end : (d : ℕ) (rs left hole : List (Range ℕ)) (old new : List (List (Range ℕ))) → length rs ≤ d → length hole ≤ d
    → IsCutUpto d rs left hole old new → IsCut rs hole old new
cut_end d rs left hole old new lr ls h = record {
  full = h.boxes;
  counts = λ x out.
      let a : take d left ≡ left = take_all d left (omega (arith, h.long, lr)) in
      let b : take d hole ≡ hole = take_all d hole ls in
      let within : are_within left hole ≡ true = subst (λ l. are_within l hole ≡ true) a (subst (λ l. are_within (take d left) l ≡ true) b h.within) in
      let gone : is_in left x ≡ false = false_from_ne_true _ (λ i. true≢false (sym (within_part left hole within x i) ∙ out)) in
      omega (arith, h.counts x, none_of (is_in left x) gone);
  fewer = λ holes has. omega (arith, h.fewer holes has, cells_some holes 0 left);
}
