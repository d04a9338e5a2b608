-- The fewest rows of a table as they are told.
use Rattle.std.proofs.Common.{◌≡◌, ◌≢◌, refl, sym, ◌∙◌, ap, ap₂, subst, arith, inl, inr, Bor, ℕ, ◌<◌, Bool, true, false, List, [], ◌∷◌, ◌++◌, codes, get_or, length, map, true≢false, Option, Some, Result, Ok, Err, IfErr}
use Rattle.std.specs.Bool.{Decides}
use Rattle.std.specs.List.{All, Contains}
use Rattle.std.specs.Map.{values_of}
use Rattle.std.proofs.lemmas.List.{get_or-map, length-map}
use Rattle.cidr.specs.declared.family.Family.{Family}
use Rattle.cidr.specs.declared.family.Family.TheVariants.{Ipv4, Ipv6}
use Rattle.cidr_forwarding.specs.Forwarding.{in_bits}
use Rattle.cidr_io.specs.Writing.{State}
use Rattle.cidr_lists.specs.Lists.{Text}
use Rattle.cidr_lists.specs.Tables.{resolved, value_at}
use Rattle.netset_commands.specs.Rows.{kept}
use Rattle.cidr_lists.specs.declared.forms.RowForm.{RowForm}
use Rattle.cidr_lists.specs.declared.rows.Span.{Span}
use Rattle.netset_commands.specs.declared.input.tables.PlainTable.{PlainTable}
use Rattle.netset_commands.specs.Causes.{Cause}
use Rattle.netset_commands.specs.Commands.{Smallest}
use Rattle.netset_commands.specs.Fewest.{AreFewestLines, AreFewestNumbers, TellsFewest, all_rows, with_numbers}
use Rattle.netset_commands.specs.LookUps.{ReadsTable}
use Rattle.netset_commands.specs.Numbers.{AreAscending, HaveValues, numbered}
use Rattle.netset_commands.specs.Program.{AnswersRequest}
use Rattle.netset_commands.specs.Smallest.{AreFewest, row_line}
use Rattle.netset_commands.specs.Stored.{by_family}
use Rattle.netset_commands.specs.declared.commands.smallest.Fewest.{Fewest}
use Rattle.netset_commands.specs.declared.errors.CommandError.{CommandError}
use Rattle.netset_commands.specs.declared.errors.CommandError.TheVariants as error
use Rattle.netset_commands.specs.declared.errors.FileError.TheVariants.{Hole}
use Rattle.netset_commands.specs.declared.output.answers.Verdict.{Verdict}
use Rattle.netset_commands.specs.declared.output.answers.Verdict.TheVariants.{Yes}
use Rattle.netset_commands.proofs.Causes.{output_cause}
use Rattle.netset_commands.proofs.FewestRows.{AreBack, fewest_told, in_these_bits, told_lines, told_rows}
use Rattle.netset_commands.proofs.Numbering.{number_back}
use Rattle.netset_commands.specs.declared.errors.Reason.{Reason}

-- ---- rows of numbers
module _ {C : Type 0} (bits : C → List Bool) where
  pub bits_with_numbers : (rows : List (C × ℕ)) → in_bits bits (with_numbers rows) ≡ with_numbers (in_bits bits rows)
  bits_with_numbers [] = refl
  bits_with_numbers (row ∷ rows) = ap (λ (l : List (List Bool × Option ℕ)). (bits row.0, Some row.1) ∷ l) (bits_with_numbers rows)

-- what stands behind nothing
pub behind_nothing : {X : Type 0} (before all added rows : List X) → before ≡ [] → all ≡ before ++ added → added ≡ rows → all ≡ rows
behind_nothing {X} before all added rows none is same = is ∙ (ap (λ (l : List X). l ++ added) none ∙ same)

-- rows of one family
pub of_numbers : (holes : Bool) (w : ℕ) (rows numbers : List (List Bool × ℕ)) (fewest : List (List Bool × Option ℕ)) → rows ≡ numbers
    → AreFewestNumbers holes w (in_bits (λ (p : List Bool). p) rows) (in_bits (λ (p : List Bool). p) fewest) → AreFewestNumbers holes w numbers fewest
of_numbers holes w rows numbers fewest is are =
    subst (λ (k : List (List Bool × Option ℕ)). AreFewestNumbers holes w numbers k) (in_these_bits fewest)
    (subst (λ (k : List (List Bool × ℕ)). AreFewestNumbers holes w k (in_bits (λ (p : List Bool). p) fewest)) (in_these_bits rows ∙ is) are)

-- ---- a value of rows
module _ {C : Type 0} (all value : List ℕ) where
  -- the value of a row
  abbrev value_here : C × Span → List ℕ
  value_here row = value_at all row.1

  its_value : (rows : List (C × Span)) (k : ℕ) (row : C × Span) → k < length rows
      → get_or (values_of (map (resolved all) rows)) k value ≡ value_here (get_or rows k row)
  its_value rows k row within =
      let seen : List (C × List ℕ) = map (resolved all) rows in
      get_or-map (λ (r : C × List ℕ). r.1) seen k (resolved all row) value (omega (arith, within, length-map rows (resolved {C = C} all)))
      ∙ ap (λ (r : C × List ℕ). r.1) (get_or-map (resolved all) rows k row (resolved all row) within)

  how_many : (rows : List (C × Span)) → length (values_of (map (resolved all) rows)) ≡ length rows
  how_many rows = length-map (map (resolved all) rows) (λ (r : C × List ℕ). r.1) ∙ length-map rows (resolved {C = C} all)

  pub value_found : (rows : List (C × Span)) (k : ℕ) (row : C × Span) → k < length rows → row ≡ get_or rows k row → value_here row ≡ value
      → Contains (values_of (map (resolved all) rows)) value
  value_found rows k row within is same =
      (k, omega (arith, within, how_many rows), its_value rows k row within ∙ (ap value_here (sym is) ∙ same))

  pub none_found : (rows : List (C × Span)) → All (λ (row : C × Span). value_at all row.1 ≢ value) rows → ¬ (Contains (values_of (map (resolved all) rows)) value)
  none_found [] others (k, within, is) = absurd (omega (arith, within))
  none_found (row ∷ rows) others (k, within, is) =
      let inside : k < length (row ∷ rows) = omega (arith, within, how_many (row ∷ rows)) in
      others k row inside (sym (its_value (row ∷ rows) k row inside) ∙ is)

-- of one of the families
module _ (table : Family → List (List Bool × List ℕ)) (value : List ℕ) (first : Bool) (decided : Decides first (Contains (values_of (table Ipv4)) value)) where
  abbrev IsThere : Type 0
  IsThere = (family : Family) × Contains (values_of (table family)) value

  pub in_first : first ≡ true → Decides true IsThere
  in_first is = (λ _. (Ipv4, decided.0 is), λ _. refl)

  not_first : first ≡ false → IsThere → Contains (values_of (table Ipv6)) value
  not_first none (Ipv4, there) = absurd (true≢false (sym (decided.1 there) ∙ none))
  not_first none (Ipv6, there) = there

  pub in_second : (second : Bool) → first ≡ false → Decides second (Contains (values_of (table Ipv6)) value) → Decides second IsThere
  in_second second none also = (λ is. (Ipv6, also.0 is), λ there. also.1 (not_first none there))

-- no value of the table stands for a hole where there may be one
pub not_refused : (holes : Bool) (table : Family → List (List Bool × List ℕ)) (value : List ℕ) (refused : Bool)
    → Decides refused ((holes ≡ true) × ((family : Family) × Contains (values_of (table family)) value)) → refused ≡ false
    → holes ≡ true → (family : Family) → ¬ (Contains (values_of (table family)) value)
not_refused holes table value refused decided fails is family there = true≢false (sym (decided.1 (is, (family, there))) ∙ fails)

-- ---- the lines
by_either : (holes : Bool) (table : Family → List (List Bool × List ℕ)) (v4 v6 : List (List Bool × List ℕ)) → AreFewest holes Ipv4 (table Ipv4) v4
    → AreFewest holes Ipv6 (table Ipv6) v6 → (family : Family) → AreFewest holes family (table family) (by_family (v4, v6) family)
by_either holes table v4 v6 first second Ipv4 = first
by_either holes table v4 v6 first second Ipv6 = second

-- of all rows
pub fewest_lines : (holes : Bool) (table : Family → List (List Bool × List ℕ)) (fewest : Fewest) → AreAscending fewest.numbers → HaveValues fewest.numbers table
    → AreFewestNumbers holes 32 (numbered fewest.numbers (table Ipv4)) fewest.v4.items → AreFewestNumbers holes 128 (numbered fewest.numbers (table Ipv6)) fewest.v6.items
    → (holes ≡ true → (family : Family) → ¬ (Contains (values_of (table family)) (codes "-"))) → AreFewestLines holes table (all_rows fewest)
fewest_lines holes table fewest up have ipv4 ipv6 fine =
    let values : List (List ℕ) = fewest.numbers in
    let back : (family : Family) → AreBack values (table family) = λ family row m. number_back values row.1 up (have family row m) in
    let v4 : List (List Bool × List ℕ) = told_rows values fewest.v4.items in
    let v6 : List (List Bool × List ℕ) = told_rows values fewest.v6.items in (
      by_family (v4, v6),
      by_either holes table v4 v6 (fewest_told values holes Ipv4 (table Ipv4) fewest.v4.items (back Ipv4) (λ is. fine is Ipv4) ipv4)
          (fewest_told values holes Ipv6 (table Ipv6) fewest.v6.items (back Ipv6) (λ is. fine is Ipv6) ipv6),
      ap₂ (λ (a b : List ℕ). a ++ b) (told_lines (row_line Ipv4) values fewest.v4.items) (told_lines (row_line Ipv6) values fewest.v6.items),
    )

-- ---- the answer
pub fewest_answered : (contents : List ℕ → Option Text) (holes : Bool) (form : RowForm) (name : List ℕ) (table : PlainTable) (refused : Bool) (s t : State) (r : Result Verdict CommandError)
    → ReadsTable form (contents name) name (Ok table) → (holes ≡ true → (family : Family) → ¬ (Contains (values_of (kept table family)) (codes "-")))
    → TellsFewest holes (kept table) refused s t r → AnswersRequest contents (Smallest holes form name) s t r
fewest_answered contents holes form name table refused s t r reads fine (inl (same, left, is)) =
    subst (AnswersRequest contents (Smallest holes form name) s t) (sym is) (inl (same, inl tt))
fewest_answered contents holes form name table refused s t r reads fine (inr (answer, w, lines, written, is)) =
    let (fewest, are, made) = lines fine in
    inr (answer, Yes, w, (λ text told. (kept table, fewest, reads text told, are, made), refl), written, is)

pub fewest_cause : (F : List ℕ → Reason → Type 0) (holes : Bool) (table : Family → List (List Bool × List ℕ)) (refused : Bool) (s t : State) (r : Result Verdict CommandError)
    → TellsFewest holes table refused s t r → IfErr r (Cause F refused)
fewest_cause F holes table refused s t r (inl (same, left, is)) = subst (λ (k : Result Verdict CommandError). IfErr k (Cause F refused)) (sym is) left
fewest_cause F holes table refused s t r (inr (answer, w, lines, written, is)) = output_cause F refused Yes w r is

-- a value of the table stands for a hole
pub hole_refused : (contents : List ℕ → Option Text) (holes : Bool) (form : RowForm) (name : Bor (List ℕ)) (table : PlainTable) (s : State)
    → ReadsTable form (contents name.now) name.now (Ok table) → holes ≡ true → (family : Family) × Contains (values_of (kept table family)) (codes "-")
    → AnswersRequest contents (Smallest holes form name.now) s s (Err (error.File name Hole))
hole_refused contents true form name table s reads is there = inl (refl, inr (refl, λ text told. (kept table, reads text told, there.0, there.1)))
hole_refused contents false form name table s reads is there = absurd (true≢false (sym is))
