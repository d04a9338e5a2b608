-- What an entry leads to, and that the words of entries are unique.
use Rattle.std.proofs.Common.{◌≡◌, refl, sym, ap, ap₂, subst, ◌∙◌, arith, inl, inr, ℕ, zero, suc, ◌+◌, ◌-◌, ◌*◌, ◌/◌, ◌%◌, ◌^◌, ◌<◌, ◌≤◌, ◌⊎◌, List, [], ◌∷◌, ◌++◌, length, get_or, get_or-take, take, drop, length-take-le, ext_get_or, take-append-drop, count_ones, append_assoc, length-append}
use Rattle.std.proofs.lemmas.Bool.{cases_eq}
use Rattle.std.proofs.lemmas.List.{append-nil, drop_more, get_or_append_left, get_or-append_right}
use Rattle.std.proofs.lemmas.Nat.{shr-shr, shr_split}
use Rattle.cidr_lookup.specs.Nodes.{AreChanges, AreEntries, IsEntry, IsLeaf, list}
use Rattle.cidr_lookup.specs.Putting.{AllHave, HasList, StopsBefore, marks, node, runs}
use Rattle.cidr_lookup.specs.Searching.{IsListAt}
use Rattle.cidr_lookup.proofs.Changes.{all_have, list_long, no_changes, one_list}
use Rattle.cidr_lookup.proofs.Nodes.{is_node, node_words, run_of, same_node}

-- ---- entries of several blocks
module _ (IsOne : (block : ℕ) (before : List ℕ) (entry : ℕ) (after : List ℕ) → Type 0) where
  -- none
  pub no_entries : (first : ℕ) (before entries : List ℕ) → AreEntries IsOne first 0 before entries before
  unfolding AreEntries
  no_entries first before entries = refl

  -- the entries of the blocks alone tell
  pub same_entries : (first n : ℕ) (before entries entries' after : List ℕ) → ((i : ℕ) → i < n → get_or entries' i 0 ≡ get_or entries i 0)
      → AreEntries IsOne first n before entries after → AreEntries IsOne first n before entries' after
  unfolding AreEntries
  same_entries first zero before entries entries' after same known = known
  same_entries first (suc n) before entries entries' after same (middle, front, last) = (
    middle,
    same_entries first n before entries entries' middle (λ i l. same i (omega arith)) front,
    subst (λ e. IsOne (first + n) middle e after) (sym (same n (omega arith))) last,
  )

  -- one more
  pub one_more : (first n : ℕ) (before entries entries' middle after : List ℕ) (entry : ℕ) → ((i : ℕ) → i < n → get_or entries' i 0 ≡ get_or entries i 0)
      → get_or entries' n 0 ≡ entry → AreEntries IsOne first n before entries middle → IsOne (first + n) middle entry after
      → AreEntries IsOne first (n + 1) before entries' after
  unfolding AreEntries
  one_more first n before entries entries' middle after entry same is front last =
      let one : suc n ≡ n + 1 = omega arith in
      subst (λ m. AreEntries IsOne first m before entries' after) one (
        middle,
        same_entries first n before entries entries' middle same front,
        subst (λ e. IsOne (first + n) middle e after) (sym is) last,
      )

  module _ (grows : (block : ℕ) (before : List ℕ) (entry : ℕ) (after : List ℕ) → IsOne block before entry after → (rest : List ℕ) × (after ≡ before ++ rest)) where
    pub all_grow : (first n : ℕ) (before entries after : List ℕ) → AreEntries IsOne first n before entries after → (rest : List ℕ) × (after ≡ before ++ rest)
    unfolding AreEntries
    all_grow first zero before entries after known = ([], known ∙ sym (append-nil before))
    all_grow first (suc n) before entries after (middle, front, last) =
        let old = all_grow first n before entries middle front in
        let new = grows (first + n) middle (get_or entries n 0) after last in
        (old.0 ++ new.0, new.1 ∙ (ap (λ x. x ++ new.0) old.1 ∙ append_assoc before old.0 new.0))

    -- each of them
    pub each : (first n : ℕ) (before entries after : List ℕ) → AreEntries IsOne first n before entries after → (i : ℕ) → i < n
        → (x : List ℕ) × (y : List ℕ) × (rest : List ℕ) × IsOne (first + i) x (get_or entries i 0) y × (after ≡ y ++ rest)
    unfolding AreEntries
    each first zero before entries after known i l = absurd (omega arith)
    each first (suc n) before entries after (middle, front, last) i l = elim (cases_eq i n) [
      | inl e ↦ (middle, after, [], subst (λ k. IsOne (first + k) middle (get_or entries k 0) after) (sym e) last, sym (append-nil after))
      | inr other ↦
          let old = each first n before entries middle front i (omega arith) in
          let new = grows (first + n) middle (get_or entries n 0) after last in
          (old.0, old.1, old.2 ++ new.0, old.3, new.1 ∙ (ap (λ x. x ++ new.0) old.4 ∙ append_assoc old.1 old.2 new.0))
    ]

  -- where those of one block are unique, all are
  pub all_unique : ((block : ℕ) (before : List ℕ) (entry entry' : ℕ) (after after' : List ℕ) → IsOne block before entry after → IsOne block before entry' after'
      → (entry ≡ entry') × (after ≡ after'))
      → (first n : ℕ) (before entries entries' after after' : List ℕ) → AreEntries IsOne first n before entries after → AreEntries IsOne first n before entries' after'
      → ((i : ℕ) → i < n → get_or entries i 0 ≡ get_or entries' i 0) × (after ≡ after')
  unfolding AreEntries
  all_unique one first zero before entries entries' after after' known known' = (λ i l. absurd (omega arith), known ∙ sym known')
  all_unique one first (suc n) before entries entries' after after' (middle, front, last) (middle', front', last') =
      let old = all_unique one first n before entries entries' middle middle' front front' in
      let new = one (first + n) middle (get_or entries n 0) (get_or entries' n 0) after after' last
      (subst (λ m. IsOne (first + n) m (get_or entries' n 0) after') (sym old.1) last') in (
        λ i l. elim (cases_eq i n) [
          | inl e ↦ ap (λ k. get_or entries k 0) e ∙ (new.0 ∙ ap (λ k. get_or entries' k 0) (sym e))
          | inr other ↦ old.0 i (omega arith)
        ],
        new.1,
      )

  -- and so is the next entry of those that are put
  pub all_before : ((block : ℕ) (before : List ℕ) (entry : ℕ) (after : List ℕ) → IsOne block before entry after → (rest : List ℕ) × (after ≡ before ++ rest))
      → ((block : ℕ) (before : List ℕ) (entry entry' : ℕ) (after after' : List ℕ) → IsOne block before entry after → IsOne block before entry' after'
      → (entry ≡ entry') × (after ≡ after'))
      → (first n m : ℕ) (before put entries middle after : List ℕ) → n < m → AreEntries IsOne first n before put middle → AreEntries IsOne first m before entries after
      → (next : List ℕ) × (rest : List ℕ) × IsOne (first + n) middle (get_or entries n 0) next × (after ≡ next ++ rest)
  unfolding AreEntries
  all_before grow one first n zero before put entries middle after l known all = absurd (omega arith)
  all_before grow one first n (suc m) before put entries middle after l known (front, start, last) = elim (cases_eq n m) [
    | inl e ↦
        let start' = subst (λ k. AreEntries IsOne first k before entries front) (sym e) start in
        let same : front ≡ middle = (all_unique one first n before entries put front middle start' known).1 in
        (after, [], subst (λ x. IsOne (first + n) x (get_or entries n 0) after) same (subst (λ k. IsOne (first + k) front (get_or entries k 0) after) (sym e) last), sym (append-nil after))
    | inr other ↦
        let old = all_before grow one first n m before put entries middle front (omega arith) known start in
        let new = grow (first + m) front (get_or entries m 0) after last in
        (old.0, old.1 ++ new.0, old.2, new.1 ∙ (ap (λ x. x ++ new.0) old.3 ∙ append_assoc old.0 old.1 new.0))
  ]

  -- the first of them
  pub all_first_part : (first n m : ℕ) (before entries after : List ℕ) → n ≤ m → AreEntries IsOne first m before entries after → (middle : List ℕ) × AreEntries IsOne first n before entries middle
  unfolding AreEntries
  all_first_part first n zero before entries after le all = let z : n ≡ 0 = omega arith in (before, subst (λ k. AreEntries IsOne first k before entries before) (sym z) refl)
  all_first_part first n (suc m) before entries after le (front, start, last) = elim (cases_eq n (suc m)) [
    | inl e ↦ (after, subst (λ k. AreEntries IsOne first k before entries after) (sym e) (front, start, last))
    | inr other ↦ all_first_part first n m before entries front (omega arith) start
  ]

-- what stops before some of the words does before all
pub stops_more : (put : List ℕ) (Refuses : ℕ → Type 0) (some all rest : List ℕ) → all ≡ some ++ rest → StopsBefore put Refuses some → StopsBefore put Refuses all
stops_more put Refuses some all rest is (inl (word, more, whole, refused)) =
    inl (word, more ++ rest, is ∙ (ap (λ x. x ++ rest) whole ∙ append_assoc put (word ∷ more) rest), refused)
stops_more put Refuses some all rest is (inr (full, (more, whole))) =
    inr (full, (more ++ rest, is ∙ (ap (λ x. x ++ rest) whole ∙ append_assoc put more rest)))

-- ---- a node's place
-- the marks of the node at a place
abbrev pub marks_at : List ℕ → ℕ → ℕ
marks_at words index = get_or words (index + 1) 0 * 2 ^ 32 + get_or words index 0

-- where the entry of a part is
abbrev pub part_at : List ℕ → ℕ → ℕ → ℕ
part_at words index part = index + 1 + count_ones (marks_at words index / 2 ^ (63 - part))

-- the node behind other words
module _ (middle entries more : List ℕ) where
  abbrev whole : List ℕ
  whole = middle ++ node entries ++ more

  behind : (i : ℕ) → get_or whole (length middle + i) 0 ≡ get_or (node entries ++ more) i 0
  behind i =
      let e : length middle + i - length middle ≡ i = omega arith in
      ap (λ l. get_or l (length middle + i) 0) (append_assoc middle (node entries) more)
      ∙ (get_or-append_right middle (node entries ++ more) (length middle) (length middle + i) 0 refl (omega arith) ∙ ap (λ k. get_or (node entries ++ more) k 0) e)

  long : length middle + 2 + length (runs entries 64) ≤ length whole
  long = omega (arith, length-append (middle ++ node entries) more, length-append middle (node entries))

  marks_of : marks_at whole (length middle) ≡ marks entries 64
  marks_of =
      let here : length middle + 0 ≡ length middle = omega arith in
      let low : get_or whole (length middle) 0 ≡ marks entries 64 % 2 ^ 32 = ap (λ i. get_or whole i 0) (sym here) ∙ behind 0 in
      let high : get_or whole (length middle + 1) 0 ≡ marks entries 64 / 2 ^ 32 = behind 1 in
      omega (arith, low, high, shr_split (marks entries 64) 32)

  -- has the parts' entries
  pub part_is : (part : ℕ) → part < 64 → (part_at whole (length middle) part < length whole)
      × (get_or whole (part_at whole (length middle) part) 0 ≡ get_or entries part 0)
  part_is part l =
      let ones = count_ones (marks entries 64 / 2 ^ (63 - part)) in
      let found = run_of entries 64 part l in
      let less : 64 - 1 - part ≡ 63 - part = omega arith in
      let same : count_ones (marks entries 64 / 2 ^ (64 - 1 - part)) ≡ ones = ap (λ j. count_ones (marks entries 64 / 2 ^ j)) less in
      let at : part_at whole (length middle) part ≡ length middle + 1 + ones = ap (λ m. length middle + 1 + count_ones (m / 2 ^ (63 - part))) marks_of in
      let c = ones - 1 in
      let some : 0 < ones = omega (arith, same, found.0) in
      let upto : ones ≤ length (runs entries 64) = omega (arith, same, found.1) in
      let index : length middle + 1 + ones ≡ length middle + suc (suc c) = omega arith in
      let c_is : count_ones (marks entries 64 / 2 ^ (64 - 1 - part)) - 1 ≡ c = ap (λ n. n - 1) same in (
        omega (arith, at, long),
        ap (λ i. get_or whole i 0) (at ∙ index) ∙ (behind (suc (suc c)) ∙ (get_or_append_left (runs entries 64) more 0 c (omega arith)
            ∙ (ap (λ i. get_or (runs entries 64) i 0) (sym c_is) ∙ found.2))),
      )

-- ---- what an entry leads to
module _ (Has : (number value : ℕ) → Type 0) where
  -- the parts of a node in these words lead on
  abbrev pub AreParts : (words : List ℕ) (IsOne : (block entry : ℕ) → Type 0) (block index : ℕ) → Type 0
  AreParts words IsOne block index = (part : ℕ) → part < 64
      → (part_at words index part < length words) × IsOne (block * 64 + part) (get_or words (part_at words index part) 0)

  -- a list of the block stands in these words
  abbrev pub IsListed : (words : List ℕ) (steps block index : ℕ) → Type 0
  IsListed words steps block index = (value : ℕ) × (changes : List (ℕ × ℕ)) × HasList Has steps block value changes × IsListAt words index value changes

  -- each number of the block is led to its value
  unfoldable pub Leads : (words : List ℕ) (steps block entry : ℕ) → Type 0
  Leads words zero block entry = AllHave Has zero block entry
  Leads words (suc steps) block entry = AllHave Has (suc steps) block entry ⊎ ((index : ℕ) × (entry ≡ 2 ^ 31 + 2 * index + 1) × IsListed words (suc steps) block index)
      ⊎ ((index : ℕ) × (entry ≡ 2 ^ 31 + 2 * index) × AreParts words (Leads words steps) block index)

  -- no list is that of the block
  abbrev pub HasNoList : (steps block : ℕ) → Type 0
  HasNoList steps block = ¬ ((value : ℕ) × (changes : List (ℕ × ℕ)) × HasList Has steps block value changes)

  -- an entry without a node
  leaf_entry : (steps block : ℕ) (before : List ℕ) (entry : ℕ) (after : List ℕ) → IsLeaf Has steps block before entry after → IsEntry Has steps block before entry after
  unfolding IsEntry
  leaf_entry zero block before entry after leaf = leaf
  leaf_entry (suc steps) block before entry after leaf = inl leaf

  pub value_entry : (steps block : ℕ) (before : List ℕ) (value : ℕ) → AllHave Has steps block value → IsEntry Has steps block before value before
  value_entry steps block before value all = leaf_entry steps block before value before (value, [], no_changes Has steps block value all, inl (refl, refl, refl))

  pub list_entry : (steps block : ℕ) (before : List ℕ) (entry : ℕ) (after : List ℕ) (value : ℕ) (changes : List (ℕ × ℕ)) → HasList Has steps block value changes
      → entry ≡ 2 ^ 31 + 2 * length before + 1 → after ≡ before ++ list value changes → IsEntry Has steps block before entry after
  list_entry steps block before entry after value changes known is put =
      leaf_entry steps block before entry after (value, changes, known.2, inr (known.0, known.1, known.3, is, put))

  -- what has no changes is a value
  leaf_value : (steps block entry value : ℕ) (changes : List (ℕ × ℕ)) → AreChanges Has (block * 2 ^ (6 * steps)) ((block + 1) * 2 ^ (6 * steps)) value changes
      → changes ≡ [] → entry ≡ value → AllHave Has steps block entry
  leaf_value steps block entry value changes known none is =
      subst (λ v. AllHave Has steps block v) (sym is)
      (all_have Has steps block value (subst (λ cs. AreChanges Has (block * 2 ^ (6 * steps)) ((block + 1) * 2 ^ (6 * steps)) value cs) none known))

  -- where no value is and no list, an entry has a node
  no_leaf : (steps block : ℕ) (before : List ℕ) → ¬ ((value : ℕ) × AllHave Has steps block value) → HasNoList steps block
      → ¬ ((leaf : ℕ) × (end : List ℕ) × IsLeaf Has steps block before leaf end)
  no_leaf steps block before none no_list (leaf, end, (value, changes, known, inl (empty, is, same))) = none (leaf, leaf_value steps block leaf value changes known empty is)
  no_leaf steps block before none no_list (leaf, end, (value, changes, known, inr (some, few, low, is, put))) = no_list (value, changes, (some, few, known, low))

  pub node_entry : (steps block : ℕ) (before : List ℕ) (entry : ℕ) (after entries middle : List ℕ) → 0 < steps → ¬ ((value : ℕ) × AllHave Has steps block value)
      → HasNoList steps block → AreEntries (IsEntry Has (steps - 1)) (block * 64) 64 before entries middle → entry ≡ 2 ^ 31 + 2 * length middle → after ≡ middle ++ node entries
      → IsEntry Has steps block before entry after
  unfolding IsEntry
  node_entry zero block before entry after entries middle some none no_list parts is put = absurd (omega arith)
  node_entry (suc steps) block before entry after entries middle some none no_list parts is put =
      let one : suc steps - 1 ≡ steps = omega arith in
      inr (
        no_leaf (suc steps) block before none no_list,
        (entries, marks entries 64, runs entries 64, middle, is_node entries, subst (λ n. AreEntries (IsEntry Has n) (block * 64) 64 before entries middle) one parts, is, put),
      )

  -- and several that are values
  pub values_more : (steps first n m : ℕ) (before entries entries' middle : List ℕ) → n ≤ m → ((i : ℕ) → i < n → get_or entries' i 0 ≡ get_or entries i 0)
      → ((i : ℕ) → n ≤ i → i < m → AllHave Has steps (first + i) (get_or entries' i 0)) → AreEntries (IsEntry Has steps) first n before entries middle
      → AreEntries (IsEntry Has steps) first m before entries' middle
  unfolding AreEntries
  values_more steps first n zero before entries entries' middle le same values known =
      let z : n ≡ 0 = omega arith in
      subst (λ k. AreEntries (IsEntry Has steps) first k before entries middle) z known
  values_more steps first n (suc m) before entries entries' middle le same values known = elim (cases_eq n (suc m)) [
    | inl e ↦ subst (λ k. AreEntries (IsEntry Has steps) first k before entries' middle) e (same_entries (IsEntry Has steps) first n before entries entries' middle same known)
    | inr other ↦ (
      middle,
      values_more steps first n m before entries entries' middle (omega arith) same (λ i low l. values i low (omega arith)) known,
      value_entry steps (first + m) middle (get_or entries' m 0) (values m (omega arith) (omega arith)),
    )
  ]

  -- the entry of a block that has a node, behind what its 64 parts need
  abbrev IsParted : (IsOne : (block : ℕ) (before : List ℕ) (entry : ℕ) (after : List ℕ) → Type 0) (block : ℕ) (before : List ℕ) (entry : ℕ) (after : List ℕ) → Type 0
  IsParted IsOne block before entry after = (entries : List ℕ) × (middle : List ℕ) × AreEntries IsOne (block * 64) 64 before entries middle
      × (entry ≡ 2 ^ 31 + 2 * length middle) × (after ≡ middle ++ node entries)

  pub node_of : (steps block : ℕ) (before : List ℕ) (entry : ℕ) (after : List ℕ) → 0 < steps → ¬ ((value : ℕ) × AllHave Has steps block value)
      → HasNoList steps block → IsEntry Has steps block before entry after → IsParted (IsEntry Has (steps - 1)) block before entry after
  unfolding IsEntry
  node_of zero block before entry after some none no_list known = absurd (omega arith)
  node_of (suc steps) block before entry after some none no_list (inl known) = absurd (no_leaf (suc steps) block before none no_list (entry, after, known))
  node_of (suc steps) block before entry after some none no_list (inr (other, (entries, set, kept, middle, are, parts, is, put))) =
      let one : suc steps - 1 ≡ steps = omega arith in
      subst (λ n. IsParted (IsEntry Has n) block before entry after) (sym one) (entries, middle, parts, is, node_words entries set kept are middle after put)

  -- the words after an entry are those before it and more
  leaf_grows : (steps block : ℕ) (before : List ℕ) (entry : ℕ) (after : List ℕ) → IsLeaf Has steps block before entry after → (rest : List ℕ) × (after ≡ before ++ rest)
  leaf_grows steps block before entry after (value, changes, known, inl (none, is, same)) = ([], same ∙ sym (append-nil before))
  leaf_grows steps block before entry after (value, changes, known, inr (some, few, low, is, put)) = (list value changes, put)

  pub grows : (steps block : ℕ) (before : List ℕ) (entry : ℕ) (after : List ℕ) → IsEntry Has steps block before entry after → (rest : List ℕ) × (after ≡ before ++ rest)
  unfolding IsEntry
  grows zero block before entry after known = leaf_grows zero block before entry after known
  grows (suc steps) block before entry after (inl known) = leaf_grows (suc steps) block before entry after known
  grows (suc steps) block before entry after (inr (none, (entries, set, kept, middle, are, parts, is, put))) =
      let front = all_grow (IsEntry Has steps) (grows steps) (block * 64) 64 before entries middle parts in
      let all = node_words entries set kept are middle after put in
      (front.0 ++ node entries, all ∙ (ap (λ x. x ++ node entries) front.1 ∙ append_assoc before front.0 (node entries)))

  pub leads : (words : List ℕ) (steps block : ℕ) (before : List ℕ) (entry : ℕ) (after more : List ℕ) → IsEntry Has steps block before entry after → words ≡ after ++ more
      → Leads words steps block entry
  unfolding IsEntry Leads
  leads words zero block before entry after more (value, changes, known, inl (none, is, same)) all = leaf_value zero block entry value changes known none is
  leads words zero block before entry after more (value, changes, known, inr (some, few, low, is, put)) all =
      absurd (omega (arith, list_long Has zero block value changes (some, few, known, low)))
  leads words (suc steps) block before entry after more (inl (value, changes, known, inl (none, is, same))) all =
      inl (leaf_value (suc steps) block entry value changes known none is)
  leads words (suc steps) block before entry after more (inl (value, changes, known, inr (some, few, low, is, put))) all =
      inr (inl (length before, is, (value, changes, (some, few, known, low), record { front = before; back = more; all = all ∙ ap (λ x. x ++ more) put; here = refl })))
  leads words (suc steps) block before entry after more (inr (none, (entries, set, kept, middle, are, parts, is, put))) all =
      let node_put : after ≡ middle ++ node entries = node_words entries set kept are middle after put in
      let whole_is : words ≡ middle ++ node entries ++ more = all ∙ ap (λ x. x ++ more) node_put in
      let known : AreParts words (Leads words steps) block (length middle) = λ part l.
      let one = each (IsEntry Has steps) (grows steps) (block * 64) 64 before entries middle parts part l in
      let rest = one.2 ++ (node entries ++ more) in
      let to : words ≡ one.1 ++ rest = whole_is ∙ (append_assoc middle (node entries) more ∙ (ap (λ x. x ++ (node entries ++ more)) one.4 ∙ append_assoc one.1 one.2 (node entries ++ more))) in
      let lead = leads words steps (block * 64 + part) one.0 (get_or entries part 0) one.1 rest one.3 to in
      let found = part_is middle entries more part l in
      let W : List ℕ → Type 0 = λ ws. (part_at ws (length middle) part < length ws) × (get_or ws (part_at ws (length middle) part) 0 ≡ get_or entries part 0) in
      let in_words = subst W (sym whole_is) found in
      (in_words.0, subst (λ e. Leads words steps (block * 64 + part) e) (sym in_words.1) lead) in
      inr (inr (length middle, is, known))

  -- a value is that of a number of the block
  pub led : (words : List ℕ) (steps number entry : ℕ) → Leads words steps (number / 2 ^ (6 * steps)) entry → entry < 2 ^ 31 → Has number entry
  unfolding Leads
  led words zero number entry known low = known.1 number refl
  led words (suc steps) number entry (inl known) low = known.1 number refl
  led words (suc steps) number entry (inr (inl known)) low = absurd (omega (arith, known.1))
  led words (suc steps) number entry (inr (inr known)) low = absurd (omega (arith, known.1))

  -- an odd entry leads to a list
  pub list_of : (words : List ℕ) (steps block entry index : ℕ) → Leads words steps block entry → 2 ^ 31 ≤ entry → entry % 2 ≡ 1 → index ≡ (entry - 2 ^ 31) / 2 → IsListed words steps block index
  unfolding Leads
  list_of words zero block entry index known high odd is = absurd (omega (arith, known.0))
  list_of words (suc steps) block entry index (inl known) high odd is = absurd (omega (arith, known.0))
  list_of words (suc steps) block entry index (inr (inl known)) high odd is =
      let e : known.0 ≡ index = omega (arith, known.1) in
      subst (λ p. IsListed words (suc steps) block p) e known.2
  list_of words (suc steps) block entry index (inr (inr known)) high odd is = absurd (omega (arith, known.1))

  -- a node leads on by the next six bits, as an odd entry does nowhere where no list is
  abbrev pub NextOf : (words : List ℕ) (number index rest : ℕ) → Type 0
  NextOf words number index rest = (part_at words index (number / 2 ^ (6 * rest) % 64) < length words)
      × Leads words rest (number / 2 ^ (6 * rest)) (get_or words (part_at words index (number / 2 ^ (6 * rest) % 64)) 0)

  pub next : (words : List ℕ) (steps number entry index : ℕ) → Leads words steps (number / 2 ^ (6 * steps)) entry → 2 ^ 31 ≤ entry → (entry % 2 ≡ 1 → 6 * steps ≤ 82) → index ≡ (entry - 2 ^ 31) / 2
      → (rest : ℕ) × (steps ≡ rest + 1) × NextOf words number index rest
  unfolding Leads
  next words zero number entry index known high short at = absurd (omega (arith, known.0))
  next words (suc steps) number entry index (inl known) high short at = absurd (omega (arith, known.0))
  next words (suc steps) number entry index (inr (inl (at, is, (value, changes, known, here)))) high short e =
      absurd (omega (arith, short (omega (arith, is)), list_long Has (suc steps) (number / 2 ^ (6 * suc steps)) value changes known))
  next words (suc steps) number entry index (inr (inr known)) high short at =
      let q = number / 2 ^ (6 * steps) in
      let six : 6 * steps + 6 ≡ 6 * suc steps = omega arith in
      let up : number / 2 ^ (6 * suc steps) ≡ q / 2 ^ 6 = ap (λ j. number / 2 ^ j) (sym six) ∙ sym (shr-shr number (6 * steps) 6) in
      let is : number / 2 ^ (6 * suc steps) * 64 + q % 64 ≡ q = omega (arith, up, shr_split q 6) in
      let e : known.0 ≡ index = omega (arith, known.1) in
      let parts = subst (λ p. AreParts words (Leads words steps) (number / 2 ^ (6 * suc steps)) p) e known.2 in
      let here = parts (q % 64) (omega arith) in
      (steps, omega arith, (here.0, subst (λ b. Leads words steps b (get_or words (part_at words index (q % 64)) 0)) is here.1))

  -- ---- the words are unique
  module _ (one_value : (number value value' : ℕ) → Has number value → Has number value' → value ≡ value') where
    one_leaf : (steps block : ℕ) (before : List ℕ) (entry entry' : ℕ) (after after' : List ℕ) → IsLeaf Has steps block before entry after
        → IsLeaf Has steps block before entry' after' → (entry ≡ entry') × (after ≡ after')
    one_leaf steps block before entry entry' after after' (value, changes, known, inl (none, is, put)) (value', changes', known', inl (none', is', put')) =
        let same = one_list Has one_value steps block value value' changes changes' known known' in
        (is ∙ (same.0 ∙ sym is'), put ∙ sym put')
    one_leaf steps block before entry entry' after after' (value, changes, known, inl (none, is, put)) (value', changes', known', inr (some', few', low', is', put')) =
        absurd (omega (arith, some', ap length none, ap length (one_list Has one_value steps block value value' changes changes' known known').1))
    one_leaf steps block before entry entry' after after' (value, changes, known, inr (some, few, low, is, put)) (value', changes', known', inl (none', is', put')) =
        absurd (omega (arith, some, ap length none', ap length (one_list Has one_value steps block value value' changes changes' known known').1))
    one_leaf steps block before entry entry' after after' (value, changes, known, inr (some, few, low, is, put)) (value', changes', known', inr (some', few', low', is', put')) =
        let same = one_list Has one_value steps block value value' changes changes' known known' in
        (is ∙ sym is', put ∙ (ap₂ (λ (v : ℕ) (cs : List (ℕ × ℕ)). before ++ list v cs) same.0 same.1 ∙ sym put'))

    pub unique : (steps block : ℕ) (before : List ℕ) (entry entry' : ℕ) (after after' : List ℕ) → IsEntry Has steps block before entry after
        → IsEntry Has steps block before entry' after' → (entry ≡ entry') × (after ≡ after')
    unfolding IsEntry
    unique zero block before entry entry' after after' known known' = one_leaf zero block before entry entry' after after' known known'
    unique (suc steps) block before entry entry' after after' (inl known) (inl known') = one_leaf (suc steps) block before entry entry' after after' known known'
    unique (suc steps) block before entry entry' after after' (inl known) (inr other) = absurd (other.0 (entry, after, known))
    unique (suc steps) block before entry entry' after after' (inr other) (inl known) = absurd (other.0 (entry', after', known))
    unique (suc steps) block before entry entry' after after' (inr (none, (entries, set, kept, middle, are, parts, is, put))) (inr (none', (entries', set', kept', middle', are', parts', is', put'))) =
        let all = all_unique (IsEntry Has steps) (unique steps) (block * 64) 64 before entries entries' middle middle' parts parts' in
        let same = same_node entries' entries 64 all.0 in
        let nodes : node entries ≡ node entries' = ap₂ (λ r m. m % 2 ^ 32 ∷ m / 2 ^ 32 ∷ r) same.0 same.1 in (
          is ∙ (ap (λ m. 2 ^ 31 + 2 * length m) all.1 ∙ sym is'),
          node_words entries set kept are middle after put ∙ (ap₂ (λ m x. m ++ x) all.1 nodes ∙ sym (node_words entries' set' kept' are' middle' after' put')),
        )

    -- ---- a word that is not taken, of a list
    pub own_list : (steps block : ℕ) (before : List ℕ) (entry : ℕ) (after : List ℕ) (value : ℕ) (changes : List (ℕ × ℕ)) → HasList Has steps block value changes
        → IsEntry Has steps block before entry after → after ≡ before ++ list value changes
    own_list steps block before entry after value changes known other =
        (unique steps block before entry (2 ^ 31 + 2 * length before + 1) after (before ++ list value changes) other
        (list_entry steps block before (2 ^ 31 + 2 * length before + 1) (before ++ list value changes) value changes known refl refl)).1

    -- ---- and of a block in which a range begins, and which has no list
    module _ (steps block : ℕ) (before : List ℕ) (entry : ℕ) (after entries put : List ℕ) (part : ℕ) (some : 0 < steps) (none : ¬ ((value : ℕ) × AllHave Has steps block value))
        (no_list : HasNoList steps block) (known : IsEntry Has steps block before entry after) (parts : AreEntries (IsEntry Has (steps - 1)) (block * 64) part before entries put) (new : List ℕ) (Refuses : ℕ → Type 0) where
      -- in a part
      pub stops_in_part : part < 64 → ((entry : ℕ) (next : List ℕ) → IsEntry Has (steps - 1) (block * 64 + part) put entry next → StopsBefore new Refuses next) → StopsBefore new Refuses after
      stops_in_part l stopped =
          let made = node_of steps block before entry after some none no_list known in
          let on = all_before (IsEntry Has (steps - 1)) (grows (steps - 1)) (unique (steps - 1)) (block * 64) part 64 before entries made.0 put made.1 l parts made.2 in
          stops_more new Refuses on.0 after (on.1 ++ node made.0) (made.4 ∙ (ap (λ x. x ++ node made.0) on.3 ∙ append_assoc on.0 on.1 (node made.0)))
          (stopped (get_or made.0 part 0) on.0 on.2)

      -- in the node itself
      module _ (all_parts : part ≡ 64) where
        own_node : (after ≡ put ++ node entries)
        own_node =
            let made = node_of steps block before entry after some none no_list known in
            let parts' = subst (λ n. AreEntries (IsEntry Has (steps - 1)) (block * 64) n before entries put) all_parts parts in
            let both = all_unique (IsEntry Has (steps - 1)) (unique (steps - 1)) (block * 64) 64 before made.0 entries made.1 put made.2 parts' in
            let same = same_node entries made.0 64 both.0 in
            made.4 ∙ (ap (λ x. x ++ node made.0) both.1 ∙ ap₂ (λ r m. put ++ m % 2 ^ 32 ∷ m / 2 ^ 32 ∷ r) same.0 same.1)

        pub stops_in_node : StopsBefore new Refuses (put ++ node entries) → StopsBefore new Refuses after
        stops_in_node stopped = subst (λ x. StopsBefore new Refuses x) (sym own_node) stopped

        pub stops_at_place : new ≡ put → 2 ^ 30 ≤ length put → StopsBefore new Refuses after
        stops_at_place same full = inr (omega (arith, ap length same), (node entries, own_node ∙ ap (λ x. x ++ node entries) (sym same)))

    -- ---- an entry that is not taken, of all blocks
    module _ (steps count : ℕ) (all_first all_words first words : List ℕ) (n : ℕ) (all : AreEntries (IsEntry Has steps) 0 count [] all_first all_words)
        (known : AreEntries (IsEntry Has steps) 0 n [] first words) (l : n < count) where
      next_block : (next : List ℕ) × (rest : List ℕ) × IsEntry Has steps (0 + n) words (get_or all_first n 0) next × (all_words ≡ next ++ rest)
      next_block = all_before (IsEntry Has steps) (grows steps) (unique steps) 0 n count [] first all_first words all_words l known all

      -- its words
      pub stops_in_block : (new : List ℕ) (Refuses : ℕ → Type 0) → ((entry : ℕ) (next : List ℕ) → IsEntry Has steps (0 + n) words entry next → StopsBefore new Refuses next)
          → StopsBefore new Refuses all_words
      stops_in_block new Refuses stopped = stops_more new Refuses next_block.0 all_words next_block.1 next_block.3 (stopped (get_or all_first n 0) next_block.0 next_block.2)

      -- itself
      pub stops_at_entry : (new : List ℕ) (Refuses : ℕ → Type 0) (entry : ℕ) (after : List ℕ) → length all_first ≡ count → length first ≡ n → IsEntry Has steps (0 + n) words entry after
          → new ≡ first → Refuses entry → StopsBefore new Refuses all_first
      stops_at_entry new Refuses entry after size long made same refused =
          let is : get_or all_first n 0 ≡ entry = (unique steps (0 + n) words (get_or all_first n 0) entry next_block.0 after next_block.2 made).0 in
          let front : take n all_first ≡ first = ext_get_or 0 (take n all_first) first (length-take-le n all_first (omega arith) ∙ sym long) (λ i lt.
          get_or-take n all_first i 0 (omega (arith, length-take-le n all_first (omega arith), lt)) ∙ before i (omega (arith, length-take-le n all_first (omega arith), lt))) in
          let whole : all_first ≡ take n all_first ++ (get_or all_first n 0 ∷ drop (n + 1) all_first) =
          sym (take-append-drop n all_first) ∙ ap (λ x. take n all_first ++ x) (drop_more all_first n 0 (omega arith)) in
          inl (entry, drop (n + 1) all_first, whole ∙ ap₂ (λ f e. f ++ e ∷ drop (n + 1) all_first) (front ∙ sym same) is, refused)
        where
          before : (i : ℕ) → i < n → get_or all_first i 0 ≡ get_or first i 0
          before i lt =
              let cut = all_first_part (IsEntry Has steps) 0 n count [] all_first all_words (omega arith) all in
              (all_unique (IsEntry Has steps) (unique steps) 0 n [] all_first first cut.0 words cut.1 known).0 i lt
