-- Sets put together, and the lists that they stand for.
use Rattle.std.proofs.Common.{◌≡◌, ◌↔◌, ◌⊎◌, refl, sym, ◌∙◌, inl, inr, ℕ, List, Bool, [], ◌∷◌, length, true, false, subst, Option, None, Some, Result, Err, IfErr}
use Rattle.std.specs.List.{AllZip}
use Rattle.cidr.specs.declared.cidr.combined.IpCidr.{IpCidr}
use Rattle.cidr.specs.either.IpText.{IsIpNetworkText}
use Rattle.cidr.specs.declared.family.Family.{Family}
use Rattle.cidr_table.specs.model.Cover.{Covers}
use Rattle.cidr_sets.specs.model.Sets.{IsSetOf}
use Rattle.cidr_io.specs.Writing.{State, Answered}
use Rattle.cidr_io.specs.declared.sink.OutputFailed.{OutputFailed}
use Rattle.netset_commands.specs.Answering.{AreRead, HasAddresses, PrintsBy}
use Rattle.netset_commands.specs.Causes.{Cause}
use Rattle.cidr_lists.specs.Combining.{AllHave, FirstAlone, SomeHas}
use Rattle.netset_commands.specs.Combining.{IsMade, Turned, form_of, step_of, turns}
use Rattle.cidr_lists.specs.Sets.{Combined, Steps, IsInSets, networks_of}
use Rattle.cidr_lists.specs.Texts.{SaysAddress}
use Rattle.netset_commands.specs.Commands.{Lists, Styled, NotIn, read_files}
use Rattle.netset_commands.specs.Arguments.{made_request}
use Rattle.netset_commands.specs.Program.{AnswersRequest, IsUnread, by_output}
use Rattle.cidr_lists.specs.Formats.{Style, printed_by, styled}
use Rattle.cidr_lists.specs.Lists.{Text, line_networks}
use Rattle.netset_commands.specs.Sets.{Prints}
use Rattle.netset_commands.specs.declared.output.answers.Verdict.{Verdict}
use Rattle.netset_commands.specs.declared.output.answers.Verdict.TheVariants.{Yes}
use Rattle.netset_commands.specs.declared.errors.CommandError.{CommandError}
use Rattle.netset_commands.specs.declared.commands.operations.Operation.{Operation}
use Rattle.netset_commands.specs.declared.commands.operations.Operation.TheVariants.{Merge, Minus, And, Not, Ranges, Count}
use Rattle.cidr_lists.specs.declared.sets.Step.{Step}
use Rattle.cidr_lists.specs.declared.sets.Step.TheVariants.{Union, Difference, Intersection}
use Rattle.cidr_lists.specs.declared.sets.Sets.{Sets}
use Rattle.netset_commands.proofs.Causes.{output_cause}
use Rattle.cidr_lists.proofs.SetSteps.{same, chained, steps_same, set_same, IsCombined}
use Rattle.netset_commands.specs.declared.errors.Reason.{Reason}

pub turned_same : (turned : Bool) (P Q : Type 0) → (P ↔ Q) → Turned turned P ↔ Turned turned Q
turned_same false P Q f = f
turned_same true P Q f = (λ h q. h (f.1 q), λ h p. h (f.0 p))

-- ---- lists and the sets that have their addresses
module _ {X Y : Type 0} (In : X → Family → List Bool → Type 0) (On : Y → Family → List Bool → Type 0) (family : Family) (a : List Bool) where
  abbrev Same : List X → List Y → Type 0
  Same xs ys = AllZip (λ x y. In x family a ↔ On y family a) xs ys

  some_same : (xs : List X) (ys : List Y) → Same xs ys → SomeHas In xs family a ↔ SomeHas On ys family a
  some_same [] [] h = same ⊥
  some_same [] (y ∷ ys) h = absurd h
  some_same (x ∷ xs) [] h = absurd h
  some_same (x ∷ xs) (y ∷ ys) h = steps_same Union _ _ _ _ h.0 (some_same xs ys h.1)

  all_same : (xs : List X) (ys : List Y) → Same xs ys → AllHave In xs family a ↔ AllHave On ys family a
  all_same [] [] h = same (Unit {0})
  all_same [] (y ∷ ys) h = absurd h
  all_same (x ∷ xs) [] h = absurd h
  all_same (x ∷ xs) (y ∷ ys) h = steps_same Intersection _ _ _ _ h.0 (all_same xs ys h.1)

  first_same : (xs : List X) (ys : List Y) → Same xs ys → FirstAlone In xs family a ↔ FirstAlone On ys family a
  first_same [] [] h = same ⊥
  first_same [] (y ∷ ys) h = absurd h
  first_same (x ∷ xs) [] h = absurd h
  first_same (x ∷ xs) (y ∷ ys) h = steps_same Difference _ _ _ _ h.0 (some_same xs ys h.1)

pub made_same : {X Y : Type 0} (In : X → Family → List Bool → Type 0) (On : Y → Family → List Bool → Type 0) (operation : Operation) (xs : List X) (ys : List Y)
    (family : Family) (a : List Bool) → AllZip (λ x y. In x family a ↔ On y family a) xs ys → IsMade In operation xs family a ↔ IsMade On operation ys family a
made_same In On Merge xs ys family a h = some_same In On family a xs ys h
made_same In On Minus xs ys family a h = first_same In On family a xs ys h
made_same In On And xs ys family a h = all_same In On family a xs ys h
made_same In On Not xs ys family a h = turned_same true _ _ (some_same In On family a xs ys h)
made_same In On Ranges xs ys family a h = some_same In On family a xs ys h
made_same In On Count xs ys family a h = some_same In On family a xs ys h

-- ---- what the steps make
either_first : (P Q R : Type 0) → ((P ⊎ Q) ⊎ R) ↔ (P ⊎ (Q ⊎ R))
either_first P Q R = (
  elim [ inl h ↦ elim h [ inl p ↦ inl p | inr q ↦ inr (inl q) ] | inr r ↦ inr (inr r) ],
  elim [ inl p ↦ inl (inl p) | inr h ↦ elim h [ inl q ↦ inl (inr q) | inr r ↦ inr r ] ],
)

neither : (P Q R : Type 0) → ((P × ¬ Q) × ¬ R) ↔ (P × ¬ (Q ⊎ R))
neither P Q R = (
  λ h. (h.0.0, elim [ inl q ↦ h.0.1 q | inr r ↦ h.1 r ]),
  λ h. ((h.0, λ q. h.1 (inl q)), λ r. h.1 (inr r)),
)

both_first : (P Q R : Type 0) → ((P × Q) × R) ↔ (P × (Q × R))
both_first P Q R = (λ h. (h.0.0, (h.0.1, h.1)), λ h. ((h.0, h.1.0), h.1.1))

module _ {X : Type 0} (In : X → Family → List Bool → Type 0) (family : Family) (a : List Bool) where
  by_unions : (P : Type 0) (xs : List X) → Combined In Union P xs family a ↔ (P ⊎ SomeHas In xs family a)
  by_unions P [] = (λ p. inl p, elim [ inl p ↦ p | inr none ↦ absurd none ])
  by_unions P (x ∷ xs) = chained _ _ _ (by_unions (P ⊎ In x family a) xs) (either_first P (In x family a) (SomeHas In xs family a))

  by_differences : (P : Type 0) (xs : List X) → Combined In Difference P xs family a ↔ (P × ¬ (SomeHas In xs family a))
  by_differences P [] = (λ p. (p, λ none. absurd none), λ h. h.0)
  by_differences P (x ∷ xs) = chained _ _ _ (by_differences (P × ¬ (In x family a)) xs) (neither P (In x family a) (SomeHas In xs family a))

  by_intersections : (P : Type 0) (xs : List X) → Combined In Intersection P xs family a ↔ (P × AllHave In xs family a)
  by_intersections P [] = (λ p. (p, tt), λ h. h.0)
  by_intersections P (x ∷ xs) = chained _ _ _ (by_intersections (P × In x family a) xs) (both_first P (In x family a) (AllHave In xs family a))

  made_by : (operation : Operation) (x : X) (xs : List X)
      → Turned (turns operation) (Combined In (step_of operation) (In x family a) xs family a) ↔ IsMade In operation (x ∷ xs) family a
  made_by Merge x xs = by_unions (In x family a) xs
  made_by Minus x xs = by_differences (In x family a) xs
  made_by And x xs = by_intersections (In x family a) xs
  made_by Not x xs = turned_same true _ _ (by_unions (In x family a) xs)
  made_by Ranges x xs = by_unions (In x family a) xs
  made_by Count x xs = by_unions (In x family a) xs

pub has_same : (said : List (List (List IpCidr))) (sets : List Sets) (family : Family) (a : List Bool) → length a ≡ 129 → AllZip HasAddresses said sets
    → AllZip (λ x y. IsInSets x family a ↔ SaysAddress y family a) sets said
has_same [] [] family a wide h = tt
has_same [] (y ∷ sets) family a wide h = absurd h
has_same (x ∷ said) [] family a wide h = absurd h
has_same (x ∷ said) (y ∷ sets) family a wide h = ((h.0 family).exact a wide, has_same said sets family a wide h.1)

-- what is made of the sets is what is made of the lists
pub lists_written : (contents : List ℕ → Option Text) (operation : Operation) (files : List (List ℕ)) (read : List Sets) (sets : Sets) (s t : State)
    (w : Result (Unit {0}) OutputFailed) (r : Result Verdict CommandError) → AreRead contents (read_files files) read
    → ((family : Family) → IsSetOf 129 (IsMade IsInSets operation read family) (networks_of sets family)) → Prints (form_of operation) s t (networks_of sets) w
    → r ≡ by_output Yes w → AnswersRequest contents (Lists operation files) s t r
lists_written contents operation files read sets s t w r are made (text, printed, written) is =
    inr (
      text,
      Yes,
      w,
      (
        λ texts told_so.
            let (said, says, has) = are texts told_so in
            (said, says, (networks_of sets, (λ family. set_same _ _ (networks_of sets family) (made family) (λ a wide. made_same IsInSets SaysAddress operation read said family a (has_same said read family a wide has))), printed)),
        refl,
      ),
      written,
      is,
    )

-- the same in a style
pub styled_written : (contents : List ℕ → Option Text) (style : Style) (operation : Operation) (files : List (List ℕ)) (read : List Sets) (sets : Sets) (text : List ℕ)
    (s t : State) (w : Result (Unit {0}) OutputFailed) (r : Result Verdict CommandError) → AreRead contents (read_files files) read
    → ((family : Family) → IsSetOf 129 (IsMade IsInSets operation read family) (networks_of sets family)) → text ≡ styled style (networks_of sets)
    → Answered s t text w → r ≡ by_output Yes w → AnswersRequest contents (Styled style operation files) s t r
styled_written contents style operation files read sets text s t w r are made printed written is =
    inr (
      text,
      Yes,
      w,
      (
        λ texts told_so.
            let (said, says, has) = are texts told_so in
            (said, says, (networks_of sets, (λ family. set_same _ _ (networks_of sets family) (made family) (λ a wide. made_same IsInSets SaysAddress operation read said family a (has_same said read family a wide has))), printed)),
        refl,
      ),
      written,
      is,
    )

-- what both a network and the rest of the lists have
pub not_in_written : (contents : List ℕ → Option Text) (style : Option Style) (net : List ℕ) (files : List (List ℕ)) (network : IpCidr) (read : List Sets) (rest whole sets : Sets)
    (refused : Bool) (s t : State) (r : Result Verdict CommandError) → IsIpNetworkText net network → AreRead contents (read_files files) read
    → ((family : Family) → IsSetOf 129 (IsMade IsInSets Not read family) (networks_of rest family))
    → ((family : Family) → IsSetOf 129 (Covers (line_networks family (network ∷ []))) (networks_of whole family))
    → ((family : Family) → IsSetOf 129 (λ a. Steps Intersection (IsInSets whole family a) (IsInSets rest family a)) (networks_of sets family))
    → PrintsBy style (networks_of sets) refused s t r → AnswersRequest contents (NotIn style net files) s t r
not_in_written contents style net files network read rest whole sets refused s t r parsed are made one both (inl (kept, lack, none)) =
    subst (AnswersRequest contents (NotIn style net files) s t) (sym none) (inl (kept, inr (network, parsed, tt)))
not_in_written contents style net files network read rest whole sets refused s t r parsed are made one both (inr (w, written, is)) =
    inr (
      printed_by style (networks_of sets),
      Yes,
      w,
      (
        network,
        parsed,
        λ texts told_so.
            let (said, says, has) = are texts told_so in (
              said,
              says,
              (
                networks_of sets,
                λ family. set_same _ _ (networks_of sets family) (both family) (λ a wide.
                    steps_same Intersection _ _ _ _ ((one family).exact a wide)
                    (chained _ _ _ ((made family).exact a wide) (made_same IsInSets SaysAddress Not read said family a (has_same said read family a wide has)))),
                refl,
              ),
            ),
        refl,
      ),
      written,
      is,
    )

-- the same by a function that prints sets
pub styled_told : (contents : List ℕ → Option Text) (style : Style) (operation : Operation) (files : List (List ℕ)) (read : List Sets) (sets : Sets) (refused : Bool)
    (s t : State) (r : Result Verdict CommandError) → AreRead contents (read_files files) read
    → ((family : Family) → IsSetOf 129 (IsMade IsInSets operation read family) (networks_of sets family)) → PrintsBy (Some style) (networks_of sets) refused s t r
    → AnswersRequest contents (Styled style operation files) s t r
styled_told contents style operation files read sets refused s t r are made (inl (kept, lack, is)) = rw is (inl (kept, tt))
styled_told contents style operation files read sets refused s t r are made (inr (w, written, is)) =
    styled_written contents style operation files read sets (styled style (networks_of sets)) s t w r are made refl written is

-- the lists are not read
pub lists_unread : (contents : List ℕ → Option Text) (operation : Operation) (style : Option Style) (files : List (List ℕ)) (e : CommandError) (s : State)
    → IsUnread contents (read_files files) e → AnswersRequest contents (made_request operation None style files) s s (Err e)
lists_unread contents operation None files e s h = inl (refl, h)
lists_unread contents operation (Some style) files e s h = inl (refl, h)

-- what sets are not printed for
pub prints_cause : (F : List ℕ → Reason → Type 0) (refused : Bool) (style : Option Style) (sets : Family → List (List Bool)) (s t : State) (r : Result Verdict CommandError)
    → PrintsBy style sets refused s t r → IfErr r (Cause F refused)
prints_cause F refused style sets s t r (inl (kept, lack, is)) = subst (λ (k : Result Verdict CommandError). IfErr k (Cause F refused)) (sym is) lack
prints_cause F refused style sets s t r (inr (w, written, is)) = output_cause F refused Yes w r is

-- ---- what an operation makes
turned_kept : (operation : Operation) (step : Step) (turned : Bool) (first : Sets) (others items : List Sets) (a : List Bool) (family : Family) → step ≡ step_of operation
    → turned ≡ turns operation → turned ≡ false → others ≡ items
    → Combined IsInSets step (IsInSets first family a) others family a ↔ Turned (turns operation) (Combined IsInSets (step_of operation) (IsInSets first family a) items family a)
turned_kept operation step turned first others items a family by is off whole =
    let kept : turns operation ≡ false = sym is ∙ off in
    rw (kept, ← by, ← whole) (same (Combined IsInSets step (IsInSets first family a) others family a))

turned_away : (operation : Operation) (step : Step) (turned : Bool) (first : Sets) (others items : List Sets) (all : Sets) (a : List Bool) (family : Family)
    → step ≡ step_of operation → turned ≡ turns operation → turned ≡ true → others ≡ items
    → (IsInSets all family a ↔ Combined IsInSets step (IsInSets first family a) others family a)
    → (¬ (IsInSets all family a)) ↔ Turned (turns operation) (Combined IsInSets (step_of operation) (IsInSets first family a) items family a)
turned_away operation step turned first others items all a family by is on whole exact =
    let away : turns operation ≡ true = sym is ∙ on in
    rw (away, ← by, ← whole) (turned_same true (IsInSets all family a) (Combined IsInSets step (IsInSets first family a) others family a) exact)

pub made_kept : (operation : Operation) (step : Step) (turned : Bool) (first : Sets) (others items : List Sets) (all : Sets) → step ≡ step_of operation
    → turned ≡ turns operation → turned ≡ false → others ≡ items → IsCombined step first others all
    → (family : Family) → IsSetOf 129 (IsMade IsInSets operation (first ∷ items) family) (networks_of all family)
made_kept operation step turned first others items all by is off whole h family =
    set_same _ _ (networks_of all family) (h family) (λ a wide.
    chained _ _ _ (turned_kept operation step turned first others items a family by is off whole) (made_by IsInSets family a operation first items))

pub made_turned : (operation : Operation) (step : Step) (turned : Bool) (first : Sets) (others items : List Sets) (all sets : Sets) → step ≡ step_of operation
    → turned ≡ turns operation → turned ≡ true → others ≡ items → IsCombined step first others all
    → ((family : Family) → IsSetOf 129 (λ a. ¬ (IsInSets all family a)) (networks_of sets family))
    → (family : Family) → IsSetOf 129 (IsMade IsInSets operation (first ∷ items) family) (networks_of sets family)
made_turned operation step turned first others items all sets by is on whole h set family =
    set_same _ _ (networks_of sets family) (set family) (λ a wide.
    chained _ _ _ (turned_away operation step turned first others items all a family by is on whole ((h family).exact a wide))
    (made_by IsInSets family a operation first items))
