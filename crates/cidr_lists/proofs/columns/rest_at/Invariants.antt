use Rattle.std.proofs.Common.{◌≡◌, ℕ, ◌+◌, ◌≤◌}
use Rattle.cidr_lists.specs.Fields.{field_at}
use Rattle.cidr_lists.proofs.columns.rest_at.Given as goal

abbrev pub invariant-loop-place : goal.invariant-loop-place
invariant-loop-place l = (l.place ≤ l.column.place)
    × ((n : ℕ) → n + l.place ≡ l.column.place → field_at l.column.separator n l.rest ≡ field_at l.column.separator l.column.place l.line)
