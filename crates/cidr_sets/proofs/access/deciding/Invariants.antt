use Rattle.std.proofs.Common.{◌↔◌, ◌<◌, ℕ, map}
use Rattle.std.specs.List.{Contains}
use Rattle.std.specs.List.Sorted.{IsStrictlyIncreasing}
use Rattle.cidr_sets.specs.model.Sets.{IsSetOf}
use Rattle.cidr_sets.specs.model.FirstRules.{IsDeciding}
use Rattle.cidr_sets.proofs.FirstRules.{IsLeft}
use Rattle.cidr_sets.proofs.access.deciding.Given as goal

-- what the earlier networks leave of the network, and those of the earlier rules that decide its addresses
abbrev pub invariant-loop-i : goal.invariant-loop-i
invariant-loop-i g l = record {
  rest : IsSetOf 129 (IsLeft (map (λ r. g.C.BitString.bits r.network) l.rules) (g.C.BitString.bits l.network) l.i) (map g.C.BitString.bits l.rest);
  indices : (j : ℕ) → Contains l.out.items j
      ↔ ((j < l.i) × IsDeciding 129 (map (λ r. g.C.BitString.bits r.network) l.rules) (g.C.BitString.bits l.network) j);
  ascending : IsStrictlyIncreasing l.out.items;
}
