use Rattle.std.proofs.Common.{◌≡◌, ℕ, ◌+◌, ◌-◌, ◌*◌, ◌/◌, ◌%◌, ◌^◌, ◌≤◌, List}
use Rattle.cidr_lookup.specs.Tables.{IsAnswer, IsLookupTable}
use Rattle.cidr_lookup.proofs.Entries.{Leads}
use Rattle.cidr_lookup.proofs.search.found_value.Given as goal

abbrev pub invariant-loop-entry : goal.invariant-loop-entry
invariant-loop-entry g l = record {
  within : l.left ≤ l.steps;
  leads : (networks : List (ℕ × ℕ))
      → IsLookupTable g.A.Address.width g.A.Address.padding l.steps networks (g.T.Words.words l.first) (g.T.Words.words l.words)
      → (g.A.Address.value l.rest ≡ g.A.Address.value l.address * 2 ^ (g.A.Address.width + g.A.Address.padding - 6 * l.left) % 2 ^ g.A.Address.width)
      × Leads (IsAnswer g.A.Address.width g.A.Address.padding networks) (g.T.Words.words l.words) l.left
      (g.A.Address.value l.address * 2 ^ g.A.Address.padding / 2 ^ (6 * l.left)) l.entry;
}

abbrev pub decreases-loop-entry : goal.decreases-loop-entry
decreases-loop-entry g l = l.left
