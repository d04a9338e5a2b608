use Rattle.std.proofs.Common.{◌≡◌, ℕ, ◌<◌, ◌≤◌, length, slice_index_or, take}
use Rattle.cidr_lookup.specs.Keys.{key_networks}
use Rattle.cidr_lookup.specs.Rows.{numbered_rows}
use Rattle.cidr_lookup.proofs.ready.keys_of_rows.Given as goal

-- the keys are the networks of the rows so far, which fit
abbrev pub invariant-loop-row : goal.invariant-loop-row
invariant-loop-row g l = record {
  networks : key_networks g.C.Number.Address.value l.keys.items ≡ numbered_rows g.C.BitString.bits g.C.Number.Address.width (take l.row-index l.rows);
  fit : (any : g.row.C.Denot × g.row.V.Denot) (i : ℕ) → i < l.row-index → length (g.C.BitString.bits (slice_index_or l.rows i any).0) ≤ g.C.Number.Address.width;
}
