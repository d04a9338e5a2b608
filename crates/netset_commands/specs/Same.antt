-- Where two tables give addresses different values, or one gives a value and the other none.
use Rattle.std.specs.Prelude.{◌≡◌, ◌⊎◌, ℕ, Bool, List, [], ◌++◌, Option, None, Some}
use Rattle.std.specs.List.{flat_map}
use Rattle.cidr.specs.model.Network.{HasWidth, width_of}
use Rattle.cidr.specs.texts.Printed.{plain_text}
use Rattle.cidr.specs.declared.family.Family.{Family}
use Rattle.cidr.specs.declared.family.Family.TheVariants.{Ipv4, Ipv6}
use Rattle.cidr_forwarding.specs.Differences.{AreDifferences}
use Rattle.cidr_lists.specs.Changes.{sign_text}
use Rattle.cidr_lists.specs.Lists.{Text}
use Rattle.cidr_lists.specs.Tables.{IsTable}
use Rattle.cidr_lists.specs.declared.changes.Sign.{Sign}
use Rattle.cidr_lists.specs.declared.changes.Sign.TheVariants.{Plus, Minus}
use Rattle.cidr_lists.specs.declared.forms.RowForm.{RowForm}
use Rattle.netset_commands.specs.Findings.{IsClean}
use Rattle.netset_commands.specs.Look.{IsUnreadTable}
use Rattle.netset_commands.specs.Rows.{row_text}
use Rattle.netset_commands.specs.declared.errors.CommandError.{CommandError}
use Rattle.netset_commands.specs.declared.output.answers.Verdict.{Verdict}

-- the value that a network has in a table, as a line, and nothing where it has none
abbrev pub value_line : Sign → List ℕ → Option (List ℕ) → List ℕ
value_line sign network None = []
value_line sign network (Some value) = sign_text sign ++ row_text network value

-- the same of the first table and of the second
abbrev pub value_lines : List ℕ → Option (List ℕ) × Option (List ℕ) → List ℕ
value_lines network (old, new) = value_line Minus network old ++ value_line Plus network new

-- the largest networks in which two tables have each one value for all addresses, or none, and not the same; IPv4 before IPv6
abbrev pub IsSame : RowForm → Text → Text → List ℕ → Verdict → Type 0
IsSame form old new answer verdict = (before after : Family → List (List Bool × List ℕ)) × IsTable form old before × IsTable form new after
    × (listed : Family → List (List Bool × (Option (List ℕ) × Option (List ℕ))))
    × ((family : Family) → AreDifferences (before family) (after family) (HasWidth (width_of family)) (listed family))
    × (answer ≡ flat_map (λ row. value_lines (plain_text Ipv4 row.0) row.1) (listed Ipv4) ++ flat_map (λ row. value_lines (plain_text Ipv6 row.0) row.1) (listed Ipv6)) × IsClean answer verdict

-- why the tables are not read: the first is not, or else the second
abbrev pub AreUnreadTables : RowForm → (List ℕ → Option Text) → List ℕ → List ℕ → CommandError → Type 0
AreUnreadTables form contents old new e = IsUnreadTable form (contents old) old e
    ⊎ (((text : Text) → contents old ≡ Some text → (table : Family → List (List Bool × List ℕ)) × IsTable form text table) × IsUnreadTable form (contents new) new e)
