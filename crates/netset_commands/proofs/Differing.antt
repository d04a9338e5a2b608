-- Where two tables give addresses different values.
use Rattle.std.proofs.Common.{◌≡◌, ◌≢◌, ℕ, Bool, List, [], ◌∷◌, ◌++◌, codes, map, Option, Some, None, Result, Ok, Err, refl, sym, ap, ap₂, subst, inr, append_assoc}
use Rattle.std.specs.List.{Contains, flat_map}
use Rattle.cidr.specs.model.Network.{HasWidth, width_of}
use Rattle.cidr.specs.texts.Printed.{plain_text}
use Rattle.cidr.specs.declared.family.Family.{Family}
use Rattle.cidr.specs.declared.family.Family.TheVariants.{Ipv4, Ipv6}
use Rattle.cidr_forwarding.specs.Differences.{AreDifferences}
use Rattle.cidr_io.specs.Collecting.{Collects}
use Rattle.cidr_io.specs.Writing.{State, Answered, Part}
use Rattle.cidr_io.proofs.Chains.{part_more}
use Rattle.cidr_io.specs.declared.sink.OutputFailed.{OutputFailed}
use Rattle.cidr_lists.specs.Changes.{sign_text}
use Rattle.cidr_lists.specs.Lists.{Text}
use Rattle.netset_commands.specs.Rows.{kept, row_text}
use Rattle.cidr_lists.specs.declared.changes.Sign.TheVariants.{Plus, Minus}
use Rattle.cidr_lists.specs.declared.forms.RowForm.{RowForm}
use Rattle.netset_commands.specs.declared.input.tables.PlainTable.{PlainTable}
use Rattle.netset_commands.proofs.Changed.{both_empty}
use Rattle.cidr_table.proofs.MapLaws.{contains_first}
use Rattle.netset_commands.specs.Commands.{Same}
use Rattle.netset_commands.specs.Compared.{AreAlike, found, named, named_row}
use Rattle.netset_commands.specs.Findings.{IsClean}
use Rattle.netset_commands.specs.LookUps.{ReadsTable}
use Rattle.netset_commands.specs.Program.{AnswersRequest, by_output}
use Rattle.netset_commands.specs.Same.{value_line, value_lines}
use Rattle.netset_commands.specs.declared.commands.same.Differing.{Differing}
use Rattle.netset_commands.specs.declared.errors.CommandError.{CommandError}
use Rattle.netset_commands.specs.declared.output.answers.Verdict.{Verdict}
use Rattle.netset_commands.specs.declared.output.answers.Verdict.TheVariants.{Yes, No}

-- the second of two lines is lost with the first
pub lost_first : (s t : State) (b c x y : List ℕ) (r : Result (Unit {0}) OutputFailed) (e : OutputFailed) → r ≡ Err e → Part s t (b ++ x) → Collects s t b c (x ++ y) r
lost_first s t b c x y r e is part =
    subst (Collects s t b c (x ++ y)) (sym is) (subst (Part s t) (append_assoc b x y) (part_more s t (b ++ x) y part))

-- ---- whether there is a line
lines_there : (network : List ℕ) (answers : Option (List ℕ) × Option (List ℕ)) → answers.0 ≢ answers.1 → value_lines network answers ≢ []
lines_there network (None, None) differ e = differ refl
lines_there network (None, Some value) differ e =
    let none : codes "+" ≡ [] = (both_empty (sign_text Plus) (row_text network value) e).0 in
    cc
lines_there network (Some value, new) differ e =
    let first = (both_empty (value_line Minus network (Some value)) (value_line Plus network new) e).0 in
    let none : codes "-" ≡ [] = (both_empty (sign_text Minus) (row_text network value) first).0 in
    cc

some_text : {X : Type 0} (f : X → List ℕ) (xs : List X) → ((x : X) → Contains xs x → f x ≢ []) → xs ≢ [] → flat_map f xs ≢ []
some_text f [] each some e = some refl
some_text f (x ∷ xs) each some e = each x (contains_first x xs) (both_empty (f x) (flat_map f xs) e).0

-- the lines of what was found
abbrev lines_of_family : Family → List (List Bool × (Option (List ℕ) × Option (List ℕ))) → List ℕ
lines_of_family family rows = flat_map (λ (row : List Bool × (Option (List ℕ) × Option (List ℕ))). value_lines (plain_text family row.0) row.1) rows

module _ (before after : Family → List (List Bool × List ℕ)) (listed : Family → List (List Bool × (Option (List ℕ) × Option (List ℕ))))
    (are : (family : Family) → AreDifferences (before family) (after family) (HasWidth (width_of family)) (listed family)) where
  some_there : (family : Family) → listed family ≢ [] → lines_of_family family (listed family) ≢ []
  some_there family some =
      some_text (λ (row : List Bool × (Option (List ℕ) × Option (List ℕ))). value_lines (plain_text family row.0) row.1) (listed family)
      (λ row m. lines_there (plain_text family row.0) row.1 ((are family).differ row m).0) some

  -- the verdict is that of the answer
  clean : (verdict : Verdict) → AreAlike listed verdict → IsClean (lines_of_family Ipv4 (listed Ipv4) ++ lines_of_family Ipv6 (listed Ipv6)) verdict
  clean Yes none = ap₂ (λ (x y : List ℕ). x ++ y) (ap (lines_of_family Ipv4) (none Ipv4)) (ap (lines_of_family Ipv6) (none Ipv6))
  clean No (Ipv4, some) = λ e. some_there Ipv4 some (both_empty (lines_of_family Ipv4 (listed Ipv4)) (lines_of_family Ipv6 (listed Ipv6)) e).0
  clean No (Ipv6, some) = λ e. some_there Ipv6 some (both_empty (lines_of_family Ipv4 (listed Ipv4)) (lines_of_family Ipv6 (listed Ipv6)) e).1

-- ---- rows by numbers
named_lines : (family : Family) (numbers : List (List ℕ)) (rows : List (List Bool × (Option ℕ × Option ℕ)))
    → flat_map (λ (row : List Bool × (Option ℕ × Option ℕ)). value_lines (plain_text family row.0) (named numbers row.1)) rows
    ≡ lines_of_family family (map (named_row numbers) rows)
named_lines family numbers [] = refl
named_lines family numbers (row ∷ rows) = ap (λ (more : List ℕ). value_lines (plain_text family row.0) (named numbers row.1) ++ more) (named_lines family numbers rows)

-- ---- what is written is where the tables differ
pub same_written : (contents : List ℕ → Option Text) (form : RowForm) (a b : List ℕ) (old new : PlainTable) (made : Differing) (s t : State) (verdict : Verdict)
    (w : Result (Unit {0}) OutputFailed) (r : Result Verdict CommandError) → ReadsTable form (contents a) a (Ok old) → ReadsTable form (contents b) b (Ok new)
    → ((family : Family) → AreDifferences (kept old family) (kept new family) (HasWidth (width_of family)) (found made family)) → AreAlike (found made) verdict
    → Answered s t (flat_map (λ (row : List Bool × (Option ℕ × Option ℕ)). value_lines (plain_text Ipv4 row.0) (named made.numbers row.1)) made.v4.items
    ++ flat_map (λ (row : List Bool × (Option ℕ × Option ℕ)). value_lines (plain_text Ipv6 row.0) (named made.numbers row.1)) made.v6.items) w
    → r ≡ by_output verdict w → AnswersRequest contents (Same form a b) s t r
same_written contents form a b old new made s t verdict w r first second are alike written is =
    let four = named_lines Ipv4 made.numbers made.v4.items in
    let six = named_lines Ipv6 made.numbers made.v6.items in
    let lines = lines_of_family Ipv4 (found made Ipv4) ++ lines_of_family Ipv6 (found made Ipv6) in
    inr (
      lines,
      verdict,
      w,
      λ x y p q. (
        kept old,
        kept new,
        first x p,
        second y q,
        found made,
        are,
        refl,
        clean (kept old) (kept new) (found made) are verdict alike,
      ),
      subst (λ (k : List ℕ). Answered s t k w) (ap₂ (λ (k l : List ℕ). k ++ l) four six) written,
      is,
    )
