-- Rows of prefix lists, and texts of them.
use Rattle.std.proofs.Common.{◌≡◌, refl, sym, ◌∙◌, ap, subst, inr, arith, ℕ, ◌+◌, ◌<◌, ◌≤◌, Bool, true, List, [], ◌∷◌, ◌++◌, length, take, drop, Option, Result, Ok, Err}
use Rattle.std.specs.List.{position_or_len}
use Rattle.std.specs.Result.{MatchResult}
use Rattle.std.proofs.lemmas.List.Sums.{fold-append}
use Rattle.cidr.specs.declared.family.Family.{Family}
use Rattle.cidr_sets.specs.declared.access.Action.{Action}
use Rattle.cidr_lists.specs.Fields.{AreFirstAndRest}
use Rattle.cidr_lists.specs.ListLines.{is_line_feed, kept_of, lines_of}
use Rattle.cidr_lists.specs.ListTexts.{AddsRowLine, HaveNumberedRows, IsBadRowLine, IsRowsError, RowLineSays, after_line, after_lines, numbered_of}
use Rattle.cidr_lists.specs.PrefixLists.{ActionSays, HasBadAction, HasBadName, HasBadNetwork, HasBadRow, ListWordsSay, NameSays, NetworkSays, RowSays}
use Rattle.cidr_lists.specs.Rules.{action_text}
use Rattle.cidr_lists.specs.declared.prefix_lists.ListChange.{ListChange}
use Rattle.cidr_lists.specs.declared.prefix_lists.ListRow.{ListRow}
use Rattle.cidr_lists.specs.declared.prefix_lists.NumberedRow.{NumberedRow}
use Rattle.cidr_lists.specs.declared.prefix_lists.NumberedRows.{NumberedRows}
use Rattle.cidr_lists.specs.declared.route_errors.RouteError.{RouteError}
use Rattle.cidr_lists.specs.declared.route_errors.RouteListError.{RouteListError}
use Rattle.cidr_lists.specs.declared.route_errors.RouteListError.TheVariants.{Line, NoMemory}
use Rattle.cidr_lists.proofs.LinesPassed.{PassedUpTo, bad_line, last_passed, line_passed, none_passed}

-- ---- a row
pub action_read : (family : Family) (number : Option ℕ) (text word rest : List ℕ) (action : Action) (r : Result ListRow RouteError)
    → AreFirstAndRest text word rest → word ≡ action_text action
    → MatchResult r (λ row. (row.number ≡ number) × (row.action ≡ action) × NetworkSays family rest row) (HasBadNetwork family rest)
    → MatchResult r (λ row. (row.number ≡ number) × ActionSays family text row) (HasBadAction family text)
action_read family number text word rest action (Ok row) first is h =
    (h.0, (rest, subst (λ (w : List ℕ). AreFirstAndRest text w rest) (is ∙ ap action_text (sym h.1)) first, h.2))
action_read family number text word rest action (Err e) first is h = (word, rest, first, inr ((action, is), h))

pub row_read : {X : Type 0} (view : X → ListRow × List ℕ) (text rest : List ℕ) (family : Family) (r : Result X RouteError)
    → ListWordsSay text family rest → MatchResult r (λ s. NameSays family rest (view s)) (HasBadName family rest)
    → MatchResult r (λ s. RowSays text (view s).0 (view s).1) (HasBadRow text)
row_read view text rest family (Ok s) words h = (family, rest, words, h)
row_read view text rest family (Err e) words h = inr (family, rest, words, h)

-- ---- a text
-- what lines before the rest did, and whether the last of them was about the list
abbrev pub Have : List ℕ → NumberedRows × Bool → List (Option (List ℕ) × Option ListChange) → Type 0
Have name held said = (family : Family) → (held.1, numbered_of held.0 family) ≡ after_lines name family said

abbrev pub RowsUpTo : List ℕ → List ℕ → List ℕ → ℕ → NumberedRows → Bool → Type 0
RowsUpTo name text rest number rows about = PassedUpTo RowLineSays (Have name) 1 (length text) (lines_of text) rest number (rows, about)

module _ (name text : List ℕ) where
  pub no_rows : (rows : NumberedRows) → ((family : Family) → numbered_of rows family ≡ []) → RowsUpTo name text text 1 rows true
  no_rows rows none =
      none_passed RowLineSays (Have name) 1 (length text) (lines_of text) text (rows, true) refl (omega arith) (λ family. ap (λ (k : List (NumberedRow (List Bool))). (true, k)) (none family))

  more_rows : (rows new : NumberedRows) (before about : Bool) (said : List (Option (List ℕ) × Option ListChange)) (one : Option (List ℕ) × Option ListChange)
      → Have name (rows, before) said
      → ((family : Family) → (about, numbered_of new family) ≡ after_line name family (before, numbered_of rows family) one)
      → Have name (new, about) (said ++ one ∷ [])
  more_rows rows new before about said one have next family =
      next family
      ∙ (ap (λ (k : Bool × List (NumberedRow (List Bool))). after_line name family k one) (have family)
      ∙ sym (fold-append (after_line name family) (true, []) said (one ∷ [])))

  module _ (rest line : List ℕ) (n number : ℕ) (rows new : NumberedRows) (before : Bool) (is : n ≡ position_or_len is_line_feed rest) (cut : line ≡ take n rest)
      (up : RowsUpTo name text rest number rows before) where
    pub row_passed : (about : Bool) (next : List ℕ) → n < length rest → drop (n + 1) rest ≡ next → AddsRowLine name (kept_of line) number before rows new (Ok about)
        → RowsUpTo name text next (number + 1) new about
    row_passed about next inside after (one, says, does) =
        line_passed RowLineSays (Have name) 1 (length text) (lines_of text) rest line n number (rows, before) is cut up (new, about) one says
        (more_rows rows new before about up.said one up.have does) next inside after

    pub rows_read : (about : Bool) → n ≡ length rest → AddsRowLine name (kept_of line) number before rows new (Ok about) → HaveNumberedRows name text new
    rows_read about whole (one, says, does) =
        let (said, say, have) = last_passed RowLineSays (Have name) 1 (length text) (lines_of text) rest line n number (rows, before) is cut up (new, about) one says
        (more_rows rows new before about up.said one up.have does) whole in
        (said, say, λ family. ap (λ (k : Bool × List (NumberedRow (List Bool))). k.1) (have family))

    pub rows_error : n ≤ length rest → (e : RouteListError) → AddsRowLine name (kept_of line) number before rows new (Err e) → IsRowsError text e
    rows_error fits NoMemory h = tt
    rows_error fits (Line k e) h =
        bad_line RowLineSays (Have name) 1 (length text) (lines_of text) rest line n number (rows, before) is cut up IsBadRowLine e k fits h.0 h.1
