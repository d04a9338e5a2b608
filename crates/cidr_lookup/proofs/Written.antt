-- Ranges in arrays, one more at a time.
use Rattle.std.proofs.Common.{◌≡◌, sym, ◌∙◌, ap, subst, arith, inl, inr, ℕ, ◌+◌, ◌-◌, ◌^◌, ◌<◌, ◌≤◌, List, length, get_or, take}
use Rattle.std.proofs.lemmas.Bool.{cases_eq}
use Rattle.std.proofs.lemmas.List.{length-take-le, get_or-take}
use Rattle.cidr_lookup.specs.Keys.{AreAscendingNetworks}
use Rattle.cidr_lookup.specs.Ranges.{AreMatchRanges}
use Rattle.cidr_lookup.specs.Passing.{AreSoFar, IsEdge, IsLastWithNumber, IsPut}
use Rattle.cidr_lookup.proofs.Longest.{longest}
use Rattle.cidr_lookup.proofs.Steps.{changed}

module _ (w : ℕ) (networks : List (ℕ × ℕ)) where
  -- the pass goes on to where no new range begins
  pub same_start : (starts answers : List ℕ) (count start start' : ℕ) → start' ≡ start
      → AreSoFar w networks starts answers count start → AreSoFar w networks starts answers count start'
  same_start starts answers count start start' e h = subst (λ s. AreSoFar w networks starts answers count s) (sym e) h

  -- the address before the start has the last answer
  pub last_known : (starts answers : List ℕ) (count start : ℕ) → AreSoFar w networks starts answers count start → (k : ℕ) → k + 1 ≡ count
      → IsLastWithNumber w networks (length networks) (start - 1) (get_or answers k 0)
  last_known starts answers count start h k last =
      let below = h.below k (omega arith) in
      h.known k (start - 1) (omega arith) (omega arith) (omega arith) (λ i lt l. absurd (omega arith))

  -- the arrays have one range more
  pub one_more : AreAscendingNetworks w networks → (starts answers starts' answers' : List ℕ) (count start start' answer : ℕ)
      → (0 < start → IsEdge w networks start) → AreSoFar w networks starts answers count start → IsPut starts starts' count start → IsPut answers answers' count answer → start < start'
      → ((address : ℕ) → start ≤ address → address < start' → IsLastWithNumber w networks (length networks) address answer)
      → AreSoFar w networks starts' answers' (count + 1) start'
  one_more good starts answers starts' answers' count start start' answer edge h put_start put_answer lt range =
      let old = λ (k : ℕ) (l : k < count). put_start.others k (λ e. absurd (omega arith)) in
      let new = λ (k : ℕ) (e : k ≡ count). ap (λ i. get_or starts' i 0) e ∙ put_start.put in
      record {
        none = λ z. absurd (omega arith);
        first = λ _. elim (cases_eq count 0) [
          | inl e ↦ new 0 (sym e) ∙ h.none e
          | inr n ↦ old 0 (omega arith) ∙ h.first (omega arith)
        ];
        below = λ k l. elim (cases_eq k count) [
          | inl e ↦ omega (arith, new k e)
          | inr n ↦ omega (arith, old k (omega arith), h.below k (omega arith))
        ];
        ascending = λ i k less l. elim (cases_eq k count) [
          | inl e ↦ omega (arith, new k e, old i (omega arith), h.below i (omega arith))
          | inr n ↦ omega (arith, old k (omega arith), old i (omega arith), h.ascending i k less (omega arith))
        ];
        changes = λ k l. elim (cases_eq (k + 1) count) [
          | inl e ↦ λ same.
              let some : 0 < start = omega (arith, h.below k (omega arith)) in
              changed w networks good start (get_or answers k 0) answer some (edge some) (last_known starts answers count start h k (omega arith)) (range start (omega arith) lt)
              (sym (put_answer.others k (λ z. absurd (omega arith))) ∙ (same ∙ (ap (λ i. get_or answers' i 0) e ∙ put_answer.put)))
          | inr n ↦ λ same. h.changes k (omega arith)
              (sym (put_answer.others k (λ z. absurd (omega arith))) ∙ (same ∙ put_answer.others (k + 1) (λ z. absurd (omega arith))))
        ];
        known = λ k address l from to last. elim (cases_eq k count) [
          | inl e ↦ subst (λ a. IsLastWithNumber w networks (length networks) address a) (sym (ap (λ i. get_or answers' i 0) e ∙ put_answer.put)) (range address (omega (arith, new k e)) to)
          | inr n ↦
              let known' = h.known k address (omega arith) (omega (arith, old k (omega arith)))
              (omega (arith, last count (omega arith) (omega arith), put_start.put))
              (λ i lt' l'. omega (arith, old i l', last i lt' (omega arith))) in
              subst (λ a. IsLastWithNumber w networks (length networks) address a) (sym (put_answer.others k n)) known'
        ];
      }

-- all ranges are in the arrays
pub are_ranges : (w : ℕ) (networks : List (ℕ × ℕ)) (starts answers : List ℕ) (count : ℕ) → AreAscendingNetworks w networks → 0 < count
    → count ≤ length starts → count ≤ length answers → AreSoFar w networks starts answers count (2 ^ w)
    → AreMatchRanges w networks (take count starts) (take count answers)
are_ranges w networks starts answers count good some fits_starts fits_answers h =
    let size : length (take count starts) ≡ count = length-take-le count starts fits_starts in
    let size_answers : length (take count answers) ≡ count = length-take-le count answers fits_answers in
    let same = λ (k : ℕ) (l : k < count). get_or-take count starts k 0 l in
    record {
      ordered = record {
        some = omega arith;
        first = same 0 some ∙ h.first some;
        ascending = λ i k lt l. omega (arith, same i (omega arith), same k (omega arith), h.ascending i k lt (omega arith));
      };
      both = size_answers ∙ sym size;
      fits = λ k l. omega (arith, same k (omega arith), h.below k (omega arith));
      changes = λ k l e. h.changes k (omega arith)
          (sym (get_or-take count answers k 0 (omega arith)) ∙ (e ∙ get_or-take count answers (k + 1) 0 (omega arith)));
      matches = λ address k fits r.
          let l : k < count = omega (arith, r.within) in
          let known = h.known k address l (omega (arith, same k l, r.from)) fits (λ i lt l'. omega (arith, same i l', r.last i lt (omega arith))) in
          longest w networks good address fits (get_or (take count answers) k 0)
          (subst (λ a. IsLastWithNumber w networks (length networks) address a) (sym (get_or-take count answers k 0 l)) known);
    }
