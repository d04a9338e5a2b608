-- The runs of a node, which are counted by its marks.
use Rattle.std.proofs.Common.{◌≡◌, ◌≢◌, refl, sym, ap, ap₂, subst, ◌∙◌, arith, add-one, inl, inr, Bool, true, false, Result, Ok, Err, ℕ, zero, suc, ◌+◌, ◌-◌, ◌*◌, ◌/◌, ◌%◌, ◌^◌, ◌<◌, ◌≤◌, ◌==◌, ◌||◌, not, if◌then◌else◌, List, [], ◌∷◌, ◌++◌, length, get_or, take, replicate, slice_set, count_ones, append_assoc, length-append, length-set, length-take-le, get_or-take, take_all}
use Rattle.std.proofs.Math.Nat.{mul_assoc, mul_comm, pow-succ'}
use Rattle.std.proofs.lemmas.Bool.{cases_Bool, cases_eq, cases_lt, false≢true, cond-true, cond-false, eqb-true, eq-eqb, ne_eqb, or_parts, not-false, cond_both}
use Rattle.std.proofs.lemmas.List.{append-nil, get_or_append_left, get_or-append_right, get_or-replicate, get_or_push, length-replicate, take_more, take_more_set}
use Rattle.std.proofs.lemmas.Nat.{mod_below, mul-le, pow-add, pow_pos, shr-shr, shr_high, shr_split, ones_cat, ones_le_self, zero_from_ones}
use Rattle.std.specs.Result.{OnErr}
use Rattle.cidr_lookup.specs.Nodes.{IsNode}
use Rattle.cidr_lookup.specs.Putting.{AreRuns, begins_run, marks, node, runs}

abbrev pub mark : Bool → ℕ
mark b = if b then 1 else 0

mark_fits : (b : Bool) → mark b < 2
mark_fits b = cond_both b 1 0 (λ n. n < 2) (λ _. omega arith) (λ _. omega arith)

no_ones : count_ones 0 ≡ 0
no_ones = omega (arith, ones_le_self 0)

ones_mark : (mark : ℕ) → mark < 2 → count_ones mark ≡ mark
ones_mark mark lt = elim (cases_eq (count_ones mark) 0) [
  | inl e ↦ e ∙ sym (zero_from_ones mark e)
  | inr n ↦ omega (arith, ones_le_self mark)
]

ones_more : (marks mark : ℕ) → mark < 2 → count_ones (marks * 2 + mark) ≡ count_ones marks + mark
ones_more marks mark lt = ones_cat 1 marks mark lt ∙ ap (λ n. count_ones marks + n) (ones_mark mark lt)

module _ (entries : List ℕ) where
  -- the marks of fewer parts
  pub marks_before : (n j k : ℕ) → n ≡ k + j → marks entries n / 2 ^ j ≡ marks entries k
  unfolding marks
  marks_before n zero k e = omega (arith, ap (marks entries) (let s : n ≡ k = omega arith in s))
  marks_before zero (suc j) k e = absurd (omega arith)
  marks_before (suc n) (suc j) k e =
      let b = mark (begins_run entries n) in
      let one : 1 + j ≡ suc j = omega arith in
      ap (λ i. (marks entries n * 2 + b) / 2 ^ i) (sym one) ∙ (sym (shr-shr (marks entries n * 2 + b) 1 j)
      ∙ (ap (λ m. m / 2 ^ j) (shr_high (marks entries n) 1 b (mark_fits (begins_run entries n))) ∙ marks_before n j k (omega arith)))

  -- there are as many runs as marks that are set
  pub ones_runs : (n : ℕ) → count_ones (marks entries n) ≡ length (runs entries n)
  unfolding marks runs
  ones_runs zero = no_ones
  ones_runs (suc n) =
      let b = begins_run entries n in
      let more = runs entries n ++ get_or entries n 0 ∷ [] in
      let counted : count_ones (marks entries n * 2 + mark b) ≡ length (runs entries n) + mark b = ones_more (marks entries n) (mark b) (mark_fits b) ∙ ap (λ m. m + mark b) (ones_runs n) in
      elim (cases_Bool b) [
        | inl is ↦ counted ∙ (ap (λ m. length (runs entries n) + m) (cond-true b 1 0 is)
            ∙ (sym (length-append (runs entries n) (get_or entries n 0 ∷ [])) ∙ ap length (sym (cond-true b more (runs entries n) is))))
        | inr other ↦ counted ∙ (ap (λ m. length (runs entries n) + m) (cond-false b 1 0 other) ∙ (omega arith ∙ ap length (sym (cond-false b more (runs entries n) other))))
      ]

  -- the last run has the last part
  abbrev HasLast : List ℕ → ℕ → Type 0
  HasLast xs n = (0 < length xs) × (get_or xs (length xs - 1) 0 ≡ get_or entries n 0)

  with_last : (old : List ℕ) (n : ℕ) → HasLast (old ++ get_or entries n 0 ∷ []) n
  with_last old n =
      let size : length (old ++ get_or entries n 0 ∷ []) ≡ length old + 1 = length-append old (get_or entries n 0 ∷ []) in
      (omega arith, get_or_push old (get_or entries n 0) 0 (length (old ++ get_or entries n 0 ∷ []) - 1) (omega arith))

  pub last_run : (n : ℕ) → (0 < length (runs entries (suc n))) × (get_or (runs entries (suc n)) (length (runs entries (suc n)) - 1) 0 ≡ get_or entries n 0)
  unfolding runs
  last_run zero = with_last [] 0
  last_run (suc m) =
      let old = runs entries (suc m) in
      let before = last_run m in
      cond_both (begins_run entries (suc m)) (old ++ get_or entries (suc m) 0 ∷ []) old (λ xs. HasLast xs (suc m))
      (λ _. with_last old (suc m))
      (λ other.
      let here : get_or entries (suc m) 0 ≡ get_or entries (suc m - 1) 0 = eqb-true (get_or entries (suc m) 0) (get_or entries (suc m - 1) 0) (not-false (get_or entries (suc m) 0 == get_or entries (suc m - 1) 0) (or_parts (suc m == 0) (not (get_or entries (suc m) 0 == get_or entries (suc m - 1) 0)) other).1) in
      let one : suc m - 1 ≡ m = omega arith in
      (before.0, before.1 ∙ sym (here ∙ ap (λ i. get_or entries i 0) one)))

  -- a run of fewer parts
  pub grown : (n k : ℕ) → k ≤ n → (length (runs entries k) ≤ length (runs entries n))
      × ((r : ℕ) → r < length (runs entries k) → get_or (runs entries n) r 0 ≡ get_or (runs entries k) r 0)
  unfolding runs
  grown zero k le = let z : k ≡ zero = omega arith in subst (λ i. (length (runs entries i) ≤ length (runs entries zero)) × ((r : ℕ) → r < length (runs entries i) → get_or (runs entries zero) r 0 ≡ get_or (runs entries i) r 0)) (sym z) (omega arith, λ r l. refl)
  grown (suc n) k le = elim (cases_eq k (suc n)) [
    | inl e ↦ subst (λ i. (length (runs entries i) ≤ length (runs entries (suc n))) × ((r : ℕ) → r < length (runs entries i) → get_or (runs entries (suc n)) r 0 ≡ get_or (runs entries i) r 0)) (sym e) (omega arith, λ r l. refl)
    | inr less ↦
        let old = grown n k (omega arith) in
        let P : List ℕ → Type 0 = λ xs. (length (runs entries k) ≤ length xs) × ((r : ℕ) → r < length (runs entries k) → get_or xs r 0 ≡ get_or (runs entries k) r 0) in
        cond_both (begins_run entries n) (runs entries n ++ get_or entries n 0 ∷ []) (runs entries n) P
        (λ _. (omega (arith, length-append (runs entries n) (get_or entries n 0 ∷ []), old.0), λ r l. get_or_append_left (runs entries n) (get_or entries n 0 ∷ []) 0 r (omega (arith, old.0)) ∙ old.1 r l))
        (λ _. old)
  ]

  -- the marks up to a part count its run
  pub run_of : (all part : ℕ) → part < all → (0 < count_ones (marks entries all / 2 ^ (all - 1 - part)))
      × (count_ones (marks entries all / 2 ^ (all - 1 - part)) ≤ length (runs entries all))
      × (get_or (runs entries all) (count_ones (marks entries all / 2 ^ (all - 1 - part)) - 1) 0 ≡ get_or entries part 0)
  run_of all part l =
      let upto : count_ones (marks entries all / 2 ^ (all - 1 - part)) ≡ length (runs entries (suc part)) = ap count_ones (marks_before all (all - 1 - part) (suc part) (omega arith)) ∙ ones_runs (suc part) in
      let last = last_run part in
      let more = grown all (suc part) (omega arith) in
      (omega (arith, upto, last.0), omega (arith, upto, more.0), ap (λ i. get_or (runs entries all) (i - 1) 0) upto ∙ (more.1 (length (runs entries (suc part)) - 1) (omega (arith, last.0)) ∙ last.1))

-- a node has the parts' entries alone
same_begin : (entries entries' : List ℕ) (n : ℕ) → get_or entries' n 0 ≡ get_or entries n 0 → (0 < n → get_or entries' (n - 1) 0 ≡ get_or entries (n - 1) 0)
    → begins_run entries' n ≡ begins_run entries n
same_begin entries entries' zero here before = refl
same_begin entries entries' (suc n) here before = ap₂ (λ a b. (suc n == 0) || not (a == b)) here (before (omega arith))

pub same_node : (entries entries' : List ℕ) (n : ℕ) → ((i : ℕ) → i < n → get_or entries' i 0 ≡ get_or entries i 0)
    → (runs entries' n ≡ runs entries n) × (marks entries' n ≡ marks entries n)
unfolding runs marks
same_node entries entries' zero same = (refl, refl)
same_node entries entries' (suc n) same =
    let old = same_node entries entries' n (λ i l. same i (omega arith)) in
    let here = same n (omega arith) in
    let begins : begins_run entries' n ≡ begins_run entries n = same_begin entries entries' n here (λ some. same (n - 1) (omega arith)) in (
      ap₂ (λ b xs. if b then xs ++ get_or entries' n 0 ∷ [] else xs) begins old.0 ∙ ap (λ x. if begins_run entries n then runs entries n ++ x ∷ [] else runs entries n) here,
      ap₂ (λ b m. m * 2 + mark b) begins old.1,
    )

-- the marks of so many parts take as many bits
pub marks_fit : (entries : List ℕ) (n : ℕ) → marks entries n < 2 ^ n
unfolding marks
marks_fit entries zero = omega arith
marks_fit entries (suc n) = omega (arith, marks_fit entries n, mark_fits (begins_run entries n), pow-succ' 2 n)

pub no_marks : (entries : List ℕ) → marks entries 0 ≡ 0
unfolding marks
no_marks entries = refl

pub marks_more : (entries : List ℕ) (n : ℕ) → marks entries (n + 1) ≡ marks entries n * 2 + mark (begins_run entries n)
unfolding marks
marks_more entries n = ap (marks entries) (let e : n + 1 ≡ suc n = omega arith in e)

pub no_runs : (entries : List ℕ) → runs entries 0 ≡ []
unfolding runs
no_runs entries = refl

pub runs_more : (entries : List ℕ) (n : ℕ) → runs entries (n + 1) ≡ (if begins_run entries n then runs entries n ++ get_or entries n 0 ∷ [] else runs entries n)
unfolding runs
runs_more entries n = ap (runs entries) (let e : n + 1 ≡ suc n = omega arith in e)

-- ---- parts that have one entry, behind others
-- a part with the entry of the one before it begins no run, and one with another does
no_begin : (entries : List ℕ) (n : ℕ) → 0 < n → get_or entries n 0 ≡ get_or entries (n - 1) 0 → begins_run entries n ≡ false
no_begin entries n some same =
    ap₂ (λ a b. a || not b) (ne_eqb n 0 (λ e. absurd (omega (arith, e, some)))) (eq-eqb (get_or entries n 0) (get_or entries (n - 1) 0) same)

a_begin : (entries : List ℕ) (n : ℕ) → (0 < n → get_or entries n 0 ≢ get_or entries (n - 1) 0) → begins_run entries n ≡ true
a_begin entries n other = elim (cases_eq n 0) [
  | inl e ↦ ap (λ a. a || not (get_or entries n 0 == get_or entries (n - 1) 0)) (eq-eqb n 0 e)
  | inr some ↦ ap₂ (λ a b. a || not b) (ne_eqb n 0 some) (ne_eqb (get_or entries n 0) (get_or entries (n - 1) 0) (other (omega arith)))
]

module _ (entries : List ℕ) (entry n : ℕ) (some : 0 < n) where
  go_on : (k : ℕ) → ((i : ℕ) → n ≤ i + 1 → i < n + k → get_or entries i 0 ≡ entry) → (runs entries (n + k) ≡ runs entries n) × (marks entries (n + k) ≡ marks entries n * 2 ^ k)
  go_on zero same =
      let e : n + 0 ≡ n = omega arith in
      (ap (runs entries) e, ap (marks entries) e ∙ omega arith)
  go_on (suc k) same =
      let m = n + k in
      let e : n + suc k ≡ m + 1 = omega arith in
      let old = go_on k (λ i le l. same i le (omega arith)) in
      let no = no_begin entries m (omega arith) (same m (omega arith) (omega arith) ∙ sym (same (m - 1) (omega arith) (omega arith))) in (
        ap (runs entries) e ∙ (runs_more entries m ∙ (cond-false (begins_run entries m) (runs entries m ++ get_or entries m 0 ∷ []) (runs entries m) no ∙ old.0)),
        ap (marks entries) e ∙ (marks_more entries m ∙ (ap (λ b. marks entries m * 2 + mark b) no ∙ (none (marks entries m)
            ∙ (ap (λ x. x * 2) old.1 ∙ (mul_assoc (marks entries n) (2 ^ k) 2 ∙ ap (λ p. marks entries n * p) (sym (pow-add 2 k 1) ∙ ap (λ j. 2 ^ j) (add-one k))))))),
      )
    where
      none : (x : ℕ) → x * 2 + 0 ≡ x * 2
      none x = omega arith

module _ (before : List ℕ) (from end entry : ℕ) (long : length before ≡ from) (more : from < end) where
  abbrev pub added : List ℕ
  added = before ++ replicate (end - from) entry

  old_part : (i : ℕ) → i < from → get_or added i 0 ≡ get_or before i 0
  old_part i l = get_or_append_left before (replicate (end - from) entry) 0 i (omega (arith, long))

  new_part : (i : ℕ) → from ≤ i → i < end → get_or added i 0 ≡ entry
  new_part i le l =
      get_or-append_right before (replicate (end - from) entry) from i 0 long le ∙ get_or-replicate (end - from) (i - from) entry 0 (omega arith)

  pub added_long : length added ≡ end
  added_long = omega (arith, length-append before (replicate (end - from) entry), length-replicate (end - from) entry, long)

  front : (runs added from ≡ runs before from) × (marks added from ≡ marks before from)
  front = same_node before added from old_part

  all_is : from + (end - from) ≡ end
  all_is = omega arith

  pub added_same : 0 < from → get_or before (from - 1) 0 ≡ entry → (runs added end ≡ runs before from) × (marks added end ≡ marks before from * 2 ^ (end - from))
  added_same some same =
      let on = go_on added entry from some (end - from) (λ i le l. elim (cases_eq (i + 1) from) [
        | inl e ↦ let last : i ≡ from - 1 = omega arith in old_part i (omega arith) ∙ (ap (λ j. get_or before j 0) last ∙ same)
        | inr other ↦ new_part i (omega (arith, other)) (omega arith)
      ]) in
      (ap (runs added) (sym all_is) ∙ (on.0 ∙ front.0), ap (marks added) (sym all_is) ∙ (on.1 ∙ ap (λ m. m * 2 ^ (end - from)) front.1))

  pub added_other : (0 < from → get_or before (from - 1) 0 ≢ entry)
      → (runs added end ≡ runs before from ++ entry ∷ []) × (marks added end ≡ (marks before from * 2 + 1) * 2 ^ (end - from - 1))
  added_other other =
      let here = new_part from (omega arith) more in
      let begins : begins_run added from ≡ true = a_begin added from (λ some same. other some (sym (old_part (from - 1) (omega arith)) ∙ (sym same ∙ here))) in
      let on = go_on added entry (from + 1) (omega arith) (end - from - 1) (λ i le l. new_part i (omega arith) (omega arith)) in
      let e : from + 1 + (end - from - 1) ≡ end = omega arith in (
        ap (runs added) (sym e) ∙ (on.0 ∙ (runs_more added from ∙ (cond-true (begins_run added from) (runs added from ++ get_or added from 0 ∷ []) (runs added from) begins
            ∙ ap₂ (λ r x. r ++ x ∷ []) front.0 here))),
        ap (marks added) (sym e) ∙ (on.1 ∙ ap (λ m. m * 2 ^ (end - from - 1)) (marks_more added from ∙ ap₂ (λ m b. m * 2 + mark b) front.1 begins)),
      )

-- the runs of the first parts, and the last of them
module _ (before : List ℕ) (from set : ℕ) (kept : List ℕ) (count : ℕ) (are : AreRuns before from set kept count) where
  pub counted : count ≡ length (runs before from)
  counted = sym (length-take-le count kept (omega (arith, are.few, are.most, are.room))) ∙ ap length are.are_runs

  pub last_kept : 0 < from → (0 < count) × (get_or kept (count - 1) 0 ≡ get_or before (from - 1) 0)
  last_kept some =
      let n = from - 1 in
      let e : suc n ≡ from = omega arith in
      let last = last_run before n in
      let size : length (runs before (suc n)) ≡ count = ap (λ k. length (runs before k)) e ∙ sym counted in
      let pos : 0 < count = omega (arith, last.0, size) in (
        pos,
        sym (get_or-take count kept (count - 1) 0 (omega arith)) ∙ (ap (λ l. get_or l (count - 1) 0) are.are_runs
            ∙ (ap (λ k. get_or (runs before k) (count - 1) 0) (sym e) ∙ (ap (λ c. get_or (runs before (suc n)) (c - 1) 0) (sym size) ∙ last.1))),
      )

  -- the marks leave room for one more
  pub next_mark : from < 64 → set + 2 ^ (63 - from) < 2 ^ 64
  next_mark l =
      let m = marks before from in
      let p = 2 ^ (63 - from) in
      let one : 64 - from ≡ suc (63 - from) = omega arith in
      let twice : 2 ^ (64 - from) ≡ p * 2 = ap (λ j. 2 ^ j) one ∙ omega (arith, pow-succ' 2 (63 - from)) in
      let all : 2 ^ from * 2 ^ (64 - from) ≡ 2 ^ 64 = sym (pow-add 2 from (64 - from)) ∙ ap (λ j. 2 ^ j) (let e : from + (64 - from) ≡ 64 = omega arith in e) in
      let up : (m + 1) * 2 ^ (64 - from) ≤ 2 ^ from * 2 ^ (64 - from) = mul-le (m + 1) (2 ^ (64 - from)) (2 ^ from) (2 ^ (64 - from)) (omega (arith, marks_fit before from)) (omega arith) in
      omega (arith, are.marked, up, all, twice, pow_pos (63 - from))

  -- parts of one entry more
  module _ (end entry : ℕ) (more : from < end) (within : end ≤ 64) where
    pub same_runs : 0 < from → get_or kept (count - 1) 0 ≡ entry → AreRuns (before ++ replicate (end - from) entry) end set kept count
    same_runs some same =
        let on = added_same before from end entry are.parts more some (sym (last_kept some).1 ∙ same) in
        let e : end - from + (64 - end) ≡ 64 - from = omega arith in
        record {
          parts = added_long before from end entry are.parts more;
          most = within;
          marked = are.marked ∙ (ap (λ j. marks before from * 2 ^ j) (sym e) ∙ (ap (λ p. marks before from * p) (pow-add 2 (end - from) (64 - end))
              ∙ (sym (mul_assoc (marks before from) (2 ^ (end - from)) (2 ^ (64 - end))) ∙ ap (λ m. m * 2 ^ (64 - end)) (sym on.1))));
          room = are.room;
          few = omega (arith, are.few);
          are_runs = are.are_runs ∙ sym on.0;
        }

    pub other_runs : (0 < from → get_or kept (count - 1) 0 ≢ entry) → (set' : ℕ) (kept' : List ℕ) (count' : ℕ) → set' ≡ set + 2 ^ (63 - from) → kept' ≡ slice_set kept count entry → count' ≡ count + 1
        → AreRuns (before ++ replicate (end - from) entry) end set' kept' count'
    other_runs other set' kept' count' set_is kept_is count_is =
        let on = added_other before from end entry are.parts more (λ some same. other some ((last_kept some).1 ∙ same)) in
        let m = marks before from in
        let p = 2 ^ (63 - from) in
        let one : 64 - from ≡ suc (63 - from) = omega arith in
        let twice : 2 ^ (64 - from) ≡ p * 2 = ap (λ j. 2 ^ j) one ∙ omega (arith, pow-succ' 2 (63 - from)) in
        let e : end - from - 1 + (64 - end) ≡ 63 - from = omega arith in
        let marked : (m * 2 + 1) * p ≡ set + p = omega (arith, ap (λ q. m * q) twice, are.marked, sym (mul_assoc m p 2), mul_assoc m 2 p, mul_comm p 2) in
        record {
          parts = added_long before from end entry are.parts more;
          most = within;
          marked = set_is ∙ (sym marked ∙ (ap (λ j. (m * 2 + 1) * 2 ^ j) (sym e) ∙ (ap (λ q. (m * 2 + 1) * q) (pow-add 2 (end - from - 1) (64 - end))
              ∙ (sym (mul_assoc (m * 2 + 1) (2 ^ (end - from - 1)) (2 ^ (64 - end))) ∙ ap (λ n. n * 2 ^ (64 - end)) (sym on.1)))));
          room = ap length kept_is ∙ (length-set kept count entry ∙ are.room);
          few = omega (arith, count_is, are.few);
          are_runs = ap₂ take count_is kept_is ∙ (take_more_set kept count entry (omega (arith, are.few, are.room, within)) ∙ (ap (λ r. r ++ entry ∷ []) are.are_runs ∙ sym on.0));
        }

-- the words of a node whose parts are all there
pub whole_node : (entries : List ℕ) (set : ℕ) (kept : List ℕ) (count : ℕ) → AreRuns entries 64 set kept count → node entries ≡ set % 2 ^ 32 ∷ set / 2 ^ 32 ∷ take count kept
whole_node entries set kept count are =
    let set_is : marks entries 64 ≡ set = omega (arith, are.marked) in
    ap₂ (λ m r. m % 2 ^ 32 ∷ m / 2 ^ 32 ∷ r) set_is (sym are.are_runs)

-- ---- the runs part by part are those of a node
module _ (entries : List ℕ) where
  one_mark : marks entries 1 ≡ 1
  one_mark = marks_more entries 0 ∙ ap (λ m. m * 2 + 1) (no_marks entries)

  one_run : runs entries 1 ≡ get_or entries 0 0 ∷ []
  one_run = runs_more entries 0 ∙ ap (λ r. r ++ get_or entries 0 0 ∷ []) (no_runs entries)

  -- two runs side by side differ
  last_apart : (n k : ℕ) → begins_run entries n ≡ true → length (runs entries n) ≡ k + 1 → get_or (runs entries n) k 0 ≢ get_or entries n 0
  last_apart zero k begins size = absurd (omega (arith, size, ap length (no_runs entries)))
  last_apart (suc m) k begins size = λ same.
      let last = last_run entries m in
      let at : length (runs entries (suc m)) - 1 ≡ k = omega (arith, size) in
      let here : get_or (runs entries (suc m)) k 0 ≡ get_or entries m 0 = ap (λ i. get_or (runs entries (suc m)) i 0) (sym at) ∙ last.1 in
      let one : m ≡ suc m - 1 = omega arith in
      false≢true (sym (no_begin entries (suc m) (omega arith) (sym same ∙ (here ∙ ap (λ i. get_or entries i 0) one))) ∙ begins)

  apart : (n k : ℕ) → k + 1 < length (runs entries n) → get_or (runs entries n) k 0 ≢ get_or (runs entries n) (k + 1) 0
  unfolding runs
  apart zero k l = absurd (omega arith)
  apart (suc n) k l =
      let old = runs entries n in
      let x = get_or entries n 0 in
      cond_both (begins_run entries n) (old ++ x ∷ []) old (λ xs. k + 1 < length xs → get_or xs k 0 ≢ get_or xs (k + 1) 0)
      (λ begins l'. elim (cases_lt (k + 1) (length old)) [
        | inl less ↦ λ same. apart n k less
            (sym (get_or_append_left old (x ∷ []) 0 k (omega (arith, less))) ∙ (same ∙ get_or_append_left old (x ∷ []) 0 (k + 1) less))
        | inr past ↦
            let size : length old ≡ k + 1 = omega (arith, l', past, length-append old (x ∷ [])) in
            λ same. last_apart n k begins size (sym (get_or_append_left old (x ∷ []) 0 k (omega (arith, size))) ∙ (same ∙ get_or_push old x 0 (k + 1) size))
      ])
      (λ _ l'. apart n k l') l

  pub is_node : IsNode entries (marks entries 64) (runs entries 64)
  is_node = record {
    first = marks_before entries 64 63 1 refl ∙ one_mark;
    counted = sym (ones_runs entries 64);
    each = λ i l.
        let less : 63 - i ≡ 64 - 1 - i = omega arith in
        ap (λ j. get_or (runs entries 64) (count_ones (marks entries 64 / 2 ^ j) - 1) 0) less ∙ (run_of entries 64 i l).2;
    differ = apart 64;
  }

-- and no others are
module _ (entries : List ℕ) (set : ℕ) (kept : List ℕ) (are : IsNode entries set kept) where
  abbrev upto : ℕ → ℕ
  upto n = set / 2 ^ (63 - n)

  fewer : (j : ℕ) → count_ones (set / 2 ^ j) ≤ count_ones set
  fewer j = omega (arith, ap count_ones (shr_split set j), ones_cat j (set / 2 ^ j) (set % 2 ^ j) (mod_below set (2 ^ j) (pow_pos j)))

  so_far : (n : ℕ) → n < 64 → (upto n ≡ marks entries (suc n)) × (take (count_ones (upto n)) kept ≡ runs entries (suc n))
  unfolding marks runs
  so_far zero l =
      let one : count_ones (upto 0) ≡ 1 = ap count_ones are.first ∙ ones_mark 1 (omega arith) in
      let some : 0 < length kept = omega (arith, are.counted, fewer 63, ap count_ones are.first, ones_mark 1 (omega arith)) in
      let here : get_or kept 0 0 ≡ get_or entries 0 0 = ap (λ c. get_or kept (c - 1) 0) (sym one) ∙ are.each 0 (omega arith) in (
        are.first ∙ sym (one_mark entries),
        ap (λ c. take c kept) one ∙ (take_more kept 0 0 some ∙ (ap (λ x. x ∷ []) here ∙ sym (one_run entries))),
      )
  so_far (suc n) l =
      let old = so_far n (omega arith) in
      let a = upto n in
      let b = upto (suc n) in
      let bit = b % 2 ^ 1 in
      let begins = begins_run entries (suc n) in
      let runs_before = runs entries (suc n) in
      let more = runs_before ++ get_or entries (suc n) 0 ∷ [] in
      let e : 63 - suc n + 1 ≡ 63 - n = omega arith in
      let half : b / 2 ^ 1 ≡ a = shr-shr set (63 - suc n) 1 ∙ ap (λ j. set / 2 ^ j) e in
      let split : b ≡ a * 2 + bit = omega (arith, shr_split b 1, half) in
      let low : bit < 2 = mod_below b (2 ^ 1) (omega arith) in
      let counted : count_ones b ≡ count_ones a + bit = ap count_ones split ∙ ones_more a bit low in
      let before = are.each n (omega arith) in
      let here = are.each (suc n) l in
      let one : n ≡ suc n - 1 = omega arith in
      elim (cases_eq bit 0) [
        | inl none ↦
            let same : count_ones b ≡ count_ones a = omega (arith, counted, none) in
            let no = no_begin entries (suc n) (omega arith)
            (sym here ∙ (ap (λ c. get_or kept (c - 1) 0) same ∙ (before ∙ ap (λ i. get_or entries i 0) one))) in (
              omega (arith, split, none, old.0, cond-false {A = ℕ} begins 1 0 no),
              ap (λ c. take c kept) same ∙ (old.1 ∙ sym (cond-false begins more runs_before no)),
            )
        | inr set_bit ↦
            let bit_is : bit ≡ 1 = omega (arith, set_bit, low) in
            let up : count_ones b ≡ count_ones a + 1 = omega (arith, counted, bit_is) in
            let within : count_ones a < length kept = omega (arith, are.counted, fewer (63 - suc n), up) in
            let long : length (take (count_ones a) kept) ≡ count_ones a = length-take-le (count_ones a) kept (omega (arith, within)) in
            let some : 0 < count_ones a = omega (arith, long, ap length old.1, (last_run entries n).0) in
            let k = count_ones a - 1 in
            let k_is : count_ones b - 1 ≡ k + 1 = omega (arith, up, some) in
            let at : count_ones a ≡ count_ones b - 1 = omega (arith, up) in
            let yes = a_begin entries (suc n) (λ _ same. are.differ k (omega (arith, within, some))
            (before ∙ (ap (λ i. get_or entries i 0) one ∙ (sym same ∙ (sym here ∙ ap (λ i. get_or kept i 0) k_is))))) in (
              omega (arith, split, bit_is, old.0, cond-true {A = ℕ} begins 1 0 yes),
              ap (λ c. take c kept) up ∙ (take_more kept (count_ones a) 0 within
                  ∙ (ap₂ (λ r x. r ++ x ∷ []) old.1 (ap (λ i. get_or kept i 0) at ∙ here) ∙ sym (cond-true begins more runs_before yes))),
            )
      ]

  pub node_words : (middle after : List ℕ) → after ≡ middle ++ set % 2 ^ 32 ∷ set / 2 ^ 32 ∷ kept → after ≡ middle ++ node entries
  node_words middle after put =
      let all = so_far 63 (omega arith) in
      let one : set / 2 ^ 0 ≡ set = omega arith in
      let whole : take (count_ones (set / 2 ^ 0)) kept ≡ kept = take_all (count_ones (set / 2 ^ 0)) kept (omega (arith, are.counted, ap count_ones one)) in
      put ∙ ap₂ (λ m r. middle ++ m % 2 ^ 32 ∷ m / 2 ^ 32 ∷ r) (sym one ∙ all.0) (sym whole ∙ all.1)

-- the runs go on from those of fewer parts
pub runs_go_on : (entries : List ℕ) (n k : ℕ) → k ≤ n → (rest : List ℕ) × (runs entries n ≡ runs entries k ++ rest)
unfolding runs
runs_go_on entries zero k le = let z : k ≡ zero = omega arith in ([], ap (runs entries) (sym z) ∙ sym (append-nil (runs entries k)))
runs_go_on entries (suc n) k le = elim (cases_eq k (suc n)) [
  | inl e ↦ ([], ap (runs entries) (sym e) ∙ sym (append-nil (runs entries k)))
  | inr less ↦
      let old = runs_go_on entries n k (omega arith) in
      cond_both (begins_run entries n) (runs entries n ++ get_or entries n 0 ∷ []) (runs entries n) (λ xs. (rest : List ℕ) × (xs ≡ runs entries k ++ rest))
      (λ _. (old.0 ++ get_or entries n 0 ∷ [], ap (λ x. x ++ get_or entries n 0 ∷ []) old.1 ∙ append_assoc (runs entries k) old.0 (get_or entries n 0 ∷ [])))
      (λ _. old)
]

-- what is known of a call that failed
pub on_err : {T E P : Type 0} (r : Result T E) → P → OnErr r P
on_err (Ok value) known = tt
on_err (Err error) known = known
