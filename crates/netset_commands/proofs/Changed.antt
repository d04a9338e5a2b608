-- What one set has and another has not, both ways, as one list.
use Rattle.std.proofs.Common.{◌≡◌, ◌≢◌, ◌⊎◌, refl, sym, ◌∙◌, ap, subst, inl, inr, ℕ, Bool, true, false, if◌then◌else◌, List, [], ◌∷◌, ◌++◌, drop, Option, Ok, Result, IfErr, map}
use Rattle.std.specs.List.{AllByRecursion, Contains, flat_map}
use Rattle.std.specs.List.Sorted.{IsStrictlySortedBy}
use Rattle.std.specs.Ordering.{is_lt, ordering_reverse}
use Rattle.std.specs.declared.cmp.Ordering.{Ordering}
use Rattle.std.specs.declared.cmp.Ordering.TheVariants.{Less, Equal, Greater}
use Rattle.cidr.specs.laws.BitLaws.{bit_cmp_total}
use Rattle.cidr.specs.model.Bits.{bit_cmp}
use Rattle.cidr.specs.declared.family.Family.{Family}
use Rattle.cidr.specs.declared.family.Family.TheVariants.{Ipv4, Ipv6}
use Rattle.cidr_io.specs.Writing.{State, Answered}
use Rattle.cidr_io.specs.declared.sink.OutputFailed.{OutputFailed}
use Rattle.cidr_sets.specs.model.Sets.{IsDifference, IsSetOf}
use Rattle.cidr_sets.proofs.Algebra.{some_address}
use Rattle.cidr_table.proofs.Beginnings.{bits_exact}
use Rattle.cidr_table.proofs.MapLaws.{contains_first, contains_later}
use Rattle.netset_commands.specs.Answering.{AreSame, ReadsFile, changed}
use Rattle.netset_commands.specs.Causes.{Cause}
use Rattle.netset_commands.specs.Changing.{TellsChanges}
use Rattle.netset_commands.specs.declared.errors.Reason.{Reason}
use Rattle.netset_commands.proofs.Causes.{output_cause}
use Rattle.cidr_lists.specs.Changes.{AreMerged, adds_first, family_changes, merged, network_with, printed_changes, signed}
use Rattle.netset_commands.specs.Findings.{IsClean}
use Rattle.cidr_lists.specs.Sets.{Steps, IsInSets, networks_of}
use Rattle.netset_commands.specs.Commands.{Diff}
use Rattle.cidr_lists.specs.Lists.{Text, networks_in}
use Rattle.netset_commands.specs.Program.{AnswersRequest, by_output}
use Rattle.netset_commands.specs.declared.output.answers.Verdict.{Verdict}
use Rattle.netset_commands.specs.declared.output.answers.Verdict.TheVariants.{Yes, No}
use Rattle.cidr_lists.specs.declared.formats.LineFormat.{LineFormat}
use Rattle.cidr_lists.specs.declared.formats.LineFormat.TheVariants as by_line
use Rattle.cidr_lists.specs.declared.changes.Sign.{Sign}
use Rattle.cidr_lists.specs.declared.changes.Sign.TheVariants.{Plus, Minus}
use Rattle.netset_commands.specs.declared.errors.CommandError.{CommandError}
use Rattle.cidr_lists.specs.declared.sets.Step.TheVariants.{Difference}
use Rattle.cidr_lists.specs.declared.sets.Sets.{Sets}
use Rattle.cidr_lists.proofs.SetSteps.{set_same, steps_same}

pub some_first : {X : Type 0} (bits : X → List Bool) (added lacking : List X) → adds_first bits added lacking ≡ true → ¬ (added ≡ [])
some_first bits [] lacking first none = cc
some_first bits (p ∷ added) lacking first none = cc

-- ---- all of both lists
-- what holds of the networks of each sign holds of all
each_of : (p : List Bool) (changes : List (Sign × List Bool)) → AllByRecursion (λ q. bit_cmp p q ≡ Less) (flat_map (network_with Plus) changes)
    → AllByRecursion (λ q. bit_cmp p q ≡ Less) (flat_map (network_with Minus) changes) → AllByRecursion (λ q. bit_cmp p q ≡ Less) (map (λ change. change.1) changes)
each_of p [] h k = tt
each_of p ((Plus, q) ∷ changes) h k = (h.0, each_of p changes h.1 k)
each_of p ((Minus, q) ∷ changes) h k = (k.0, each_of p changes h k.1)

plus_more : (p : List Bool) (added lacking : List (List Bool)) (changes : List (Sign × List Bool)) → AllByRecursion (λ q. bit_cmp p q ≡ Less) added
    → AllByRecursion (λ q. bit_cmp p q ≡ Less) lacking → AreMerged added lacking changes → AreMerged (p ∷ added) lacking ((Plus, p) ∷ changes)
unfolding IsStrictlySortedBy
plus_more p added lacking changes h k m = record {
  plus = ap (λ (ps : List (List Bool)). p ∷ ps) m.plus;
  minus = m.minus;
  ascending = (
    each_of p changes (subst (AllByRecursion (λ q. bit_cmp p q ≡ Less)) (sym m.plus) h) (subst (AllByRecursion (λ q. bit_cmp p q ≡ Less)) (sym m.minus) k),
    m.ascending,
  );
}

minus_more : (q : List Bool) (added lacking : List (List Bool)) (changes : List (Sign × List Bool)) → AllByRecursion (λ p. bit_cmp q p ≡ Less) added
    → AllByRecursion (λ p. bit_cmp q p ≡ Less) lacking → AreMerged added lacking changes → AreMerged added (q ∷ lacking) ((Minus, q) ∷ changes)
unfolding IsStrictlySortedBy
minus_more q added lacking changes h k m = record {
  plus = m.plus;
  minus = ap (λ (qs : List (List Bool)). q ∷ qs) m.minus;
  ascending = (
    each_of q changes (subst (AllByRecursion (λ p. bit_cmp q p ≡ Less)) (sym m.plus) h) (subst (AllByRecursion (λ p. bit_cmp q p ≡ Less)) (sym m.minus) k),
    m.ascending,
  );
}

none_merged : AreMerged [] [] []
unfolding IsStrictlySortedBy
none_merged = record { plus = refl; minus = refl; ascending = tt }

all_plus : (added : List (List Bool)) → IsStrictlySortedBy bit_cmp added → AreMerged added [] (signed Plus added)
unfolding IsStrictlySortedBy
all_plus [] h = none_merged
all_plus (p ∷ added) h = plus_more p added [] (signed Plus added) h.0 tt (all_plus added h.1)

all_minus : (lacking : List (List Bool)) → IsStrictlySortedBy bit_cmp lacking → AreMerged [] lacking (signed Minus lacking)
unfolding IsStrictlySortedBy
all_minus [] h = none_merged
all_minus (q ∷ lacking) h = minus_more q [] lacking (signed Minus lacking) tt h.0 (all_minus lacking h.1)

behind_all : (p q : List Bool) (rs : List (List Bool)) → bit_cmp p q ≡ Less → AllByRecursion (λ r. bit_cmp q r ≡ Less) rs → AllByRecursion (λ r. bit_cmp p r ≡ Less) rs
behind_all p q [] less h = tt
behind_all p q (r ∷ rs) less h = (bit_cmp_total.trans p q r less h.0, behind_all p q rs less h.1)

-- the lesser of both comes first
one_first : (p q : List Bool) (added lacking : List (List Bool)) (more less : List (Sign × List Bool)) (o : Ordering) → bit_cmp p q ≡ o → ¬ (p ≡ q)
    → AllByRecursion (λ r. bit_cmp p r ≡ Less) added → AllByRecursion (λ r. bit_cmp q r ≡ Less) lacking → AreMerged added (q ∷ lacking) more
    → AreMerged (p ∷ added) lacking less → AreMerged (p ∷ added) (q ∷ lacking) (if is_lt o then (Plus, p) ∷ more else (Minus, q) ∷ less)
one_first p q added lacking more less Less is apart h k m n = plus_more p added (q ∷ lacking) more h (is, behind_all p q lacking is k) m
one_first p q added lacking more less Equal is apart h k m n = absurd (apart (bits_exact p q is))
one_first p q added lacking more less Greater is apart h k m n =
    let back : bit_cmp q p ≡ Less = bit_cmp_total.antisymm q p ∙ ap ordering_reverse is in
    minus_more q (p ∷ added) lacking less (back, behind_all q p added back h) k n

merged_by : (p q : List Bool) (added lacking : List (List Bool)) → merged (λ p. p) (p ∷ added) (q ∷ lacking)
    ≡ (if is_lt (bit_cmp p q) then (Plus, p) ∷ merged (λ p. p) added (q ∷ lacking) else (Minus, q) ∷ merged (λ p. p) (p ∷ added) lacking)
merged_by p q added lacking = unfold merged in refl

pub are_merged : (added lacking : List (List Bool)) → IsStrictlySortedBy bit_cmp added → IsStrictlySortedBy bit_cmp lacking
    → ((p : List Bool) → Contains added p → ¬ (Contains lacking p)) → AreMerged added lacking (merged (λ p. p) added lacking)
unfolding IsStrictlySortedBy
are_merged [] lacking h k apart = unfold merged in all_minus lacking k
are_merged (p ∷ added) [] h k apart = unfold merged in all_plus (p ∷ added) h
are_merged (p ∷ added) (q ∷ lacking) h k apart =
    let more : AreMerged added (q ∷ lacking) (merged (λ p. p) added (q ∷ lacking)) =
    are_merged added (q ∷ lacking) h.1 k (λ r c. apart r (contains_later p r added c)) in
    let less : AreMerged (p ∷ added) lacking (merged (λ p. p) (p ∷ added) lacking) =
    are_merged (p ∷ added) lacking h k.1 (λ r c d. apart r c (contains_later q r lacking d)) in
    subst (AreMerged (p ∷ added) (q ∷ lacking)) (sym (merged_by p q added lacking))
    (one_first p q added lacking (merged (λ p. p) added (q ∷ lacking)) (merged (λ p. p) (p ∷ added) lacking) (bit_cmp p q) refl
    (λ e. apart p (contains_first p added) (subst (Contains (q ∷ lacking)) (sym e) (contains_first q lacking))) h.0 k.0 more less)

-- no network is in both differences
pub differ : (old new added lacking : List (List Bool)) → IsDifference 129 new old added → IsDifference 129 old new lacking → (p : List Bool)
    → Contains added p → ¬ (Contains lacking p)
differ old new added lacking h k p c d =
    let (a, wide, begins) = some_address p (((h.reduced.members p).0 c).within) in
    ((k.exact a wide).0 (p, d, begins)).1 (((h.exact a wide).0 (p, c, begins)).0)

-- ---- nothing has changed
none_of_both : (added lacking : List (List Bool)) → added ≡ [] → lacking ≡ [] → merged (λ p. p) added lacking ≡ []
none_of_both [] [] h k = unfold merged in refl
none_of_both [] (q ∷ lacking) h k = cc
none_of_both (p ∷ added) lacking h k = cc

one_there : (b : Bool) (x y : Sign × List Bool) (xs ys : List (Sign × List Bool)) → (if b then x ∷ xs else y ∷ ys) ≢ []
one_there true x y xs ys e = cc
one_there false x y xs ys e = cc

both_none : (added lacking : List (List Bool)) → merged (λ p. p) added lacking ≡ [] → (added ≡ []) × (lacking ≡ [])
unfolding merged
both_none [] [] e = (refl, refl)
both_none [] (q ∷ lacking) e = cc
both_none (p ∷ added) [] e = cc
both_none (p ∷ added) (q ∷ lacking) e = absurd (one_there (is_lt (bit_cmp p q)) _ _ _ _ e)

pub nothing_changed : (added lacking : Sets) → ((family : Family) → networks_of added family ≡ []) → ((family : Family) → networks_of lacking family ≡ [])
    → AreSame (changed added lacking) Yes
nothing_changed added lacking h k family = none_of_both (networks_of added family) (networks_of lacking family) (h family) (k family)

none_or_some : (xs : List (Sign × List Bool)) → (xs ≡ []) ⊎ (xs ≢ [])
none_or_some [] = inl refl
none_or_some (x ∷ xs) = inr (λ e. cc)

pub something_changed : (added lacking : Sets) → ¬ (((family : Family) → networks_of added family ≡ []) × ((family : Family) → networks_of lacking family ≡ []))
    → AreSame (changed added lacking) No
something_changed added lacking h = elim (none_or_some (changed added lacking Ipv4)) [
  | inr some ↦ (Ipv4, some)
  | inl four ↦ elim (none_or_some (changed added lacking Ipv6)) [
    | inr some ↦ (Ipv6, some)
    | inl six ↦
        let (a, b) = both_none (networks_of added Ipv4) (networks_of lacking Ipv4) four in
        let (c, d) = both_none (networks_of added Ipv6) (networks_of lacking Ipv6) six in
        absurd (h (elim [ Ipv4 ↦ a | Ipv6 ↦ c ], elim [ Ipv4 ↦ b | Ipv6 ↦ d ]))
  ]
]

-- ---- whether something is written
-- something is printed of each change
some_byte : (b : ℕ) (bytes : List ℕ) → b ∷ bytes ≢ []
some_byte b bytes e = cc

no_change : (format : LineFormat) (family : Family) (changes : List (Sign × List Bool)) → family_changes format family changes ≡ [] → changes ≡ []
no_change format family [] e = refl
no_change by_line.Plain family ((Plus, p) ∷ changes) e = absurd (some_byte 43 (drop 1 (family_changes by_line.Plain family ((Plus, p) ∷ changes))) e)
no_change by_line.Plain family ((Minus, p) ∷ changes) e = absurd (some_byte 45 (drop 1 (family_changes by_line.Plain family ((Minus, p) ∷ changes))) e)
no_change by_line.Json family ((sign, p) ∷ changes) e = absurd (some_byte 123 (drop 1 (family_changes by_line.Json family ((sign, p) ∷ changes))) e)

pub both_empty : (front back : List ℕ) → front ++ back ≡ [] → (front ≡ []) × (back ≡ [])
both_empty [] back e = (refl, e)
both_empty (b ∷ front) back e = cc

pub changes_clean : (format : LineFormat) (changes : Family → List (Sign × List Bool)) (verdict : Verdict) → AreSame changes verdict
    → IsClean (printed_changes format changes) verdict
changes_clean format changes Yes none =
    ap (λ (k : List (Sign × List Bool)). family_changes format Ipv4 k ++ family_changes format Ipv6 (changes Ipv6)) (none Ipv4)
    ∙ ap (λ (k : List (Sign × List Bool)). family_changes format Ipv6 k) (none Ipv6)
changes_clean format changes No (Ipv4, some) = λ e.
    some (no_change format Ipv4 (changes Ipv4) (both_empty (family_changes format Ipv4 (changes Ipv4)) (family_changes format Ipv6 (changes Ipv6)) e).0)
changes_clean format changes No (Ipv6, some) = λ e.
    some (no_change format Ipv6 (changes Ipv6) (both_empty (family_changes format Ipv4 (changes Ipv4)) (family_changes format Ipv6 (changes Ipv6)) e).1)

-- ---- what is written is what has changed from one list to the other
pub diff_written : (contents : List ℕ → Option Text) (format : LineFormat) (a b : List ℕ) (old new added lacking : Sets) (s t : State) (verdict : Verdict)
    (w : Result (Unit {0}) OutputFailed) (r : Result Verdict CommandError) → ReadsFile (contents a) a (Ok old) → ReadsFile (contents b) b (Ok new)
    → ((family : Family) → IsSetOf 129 (λ p. Steps Difference (IsInSets new family p) (IsInSets old family p)) (networks_of added family))
    → ((family : Family) → IsSetOf 129 (λ p. Steps Difference (IsInSets old family p) (IsInSets new family p)) (networks_of lacking family))
    → AreSame (changed added lacking) verdict → Answered s t (printed_changes format (changed added lacking)) w → r ≡ by_output verdict w
    → AnswersRequest contents (Diff format a b) s t r
diff_written contents format a b old new added lacking s t verdict w r first second more less same written is =
    inr (
      printed_changes format (changed added lacking),
      verdict,
      w,
      λ x y p q.
          let (before, says, has) = first x p in
          let (after, says_too, has_too) = second y q in
          let plus : (family : Family) → IsDifference 129 (networks_in family after) (networks_in family before) (networks_of added family) = λ family.
          set_same _ _ (networks_of added family) (more family) (λ k wide.
          steps_same Difference _ _ _ _ ((has_too family).exact k wide) ((has family).exact k wide)) in
          let minus : (family : Family) → IsDifference 129 (networks_in family before) (networks_in family after) (networks_of lacking family) = λ family.
          set_same _ _ (networks_of lacking family) (less family) (λ k wide.
          steps_same Difference _ _ _ _ ((has family).exact k wide) ((has_too family).exact k wide)) in (
            before,
            after,
            says,
            says_too,
            changed added lacking,
            λ family. (
              networks_of added family,
              networks_of lacking family,
              plus family,
              minus family,
              are_merged (networks_of added family) (networks_of lacking family) (plus family).reduced.ascending (minus family).reduced.ascending
                  (differ (networks_in family before) (networks_in family after) (networks_of added family) (networks_of lacking family) (plus family) (minus family)),
            ),
            refl,
            changes_clean format (changed added lacking) verdict same,
          ),
      written,
      is,
    )

-- the same by a function that tells them
pub diff_told : (contents : List ℕ → Option Text) (format : LineFormat) (a b : List ℕ) (old new : Sets) (refused : Bool) (s t : State) (r : Result Verdict CommandError)
    → ReadsFile (contents a) a (Ok old) → ReadsFile (contents b) b (Ok new) → TellsChanges format old new refused s t r → AnswersRequest contents (Diff format a b) s t r
diff_told contents format a b old new refused s t r first second (inl (kept, lack, is)) = rw is (inl (kept, tt))
diff_told contents format a b old new refused s t r first second (inr (added, lacking, verdict, w, more, less, same, written, is)) =
    diff_written contents format a b old new added lacking s t verdict w r first second more less same written is

pub changes_cause : (F : List ℕ → Reason → Type 0) (refused : Bool) (format : LineFormat) (old new : Sets) (s t : State) (r : Result Verdict CommandError)
    → TellsChanges format old new refused s t r → IfErr r (Cause F refused)
changes_cause F refused format old new s t r (inl (kept, lack, is)) = subst (λ (k : Result Verdict CommandError). IfErr k (Cause F refused)) (sym is) lack
changes_cause F refused format old new s t r (inr (added, lacking, verdict, w, more, less, same, written, is)) = output_cause F refused verdict w r is
