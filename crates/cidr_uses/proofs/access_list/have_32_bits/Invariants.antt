use Rattle.std.proofs.Common.{map, take}
use Rattle.cidr_table.specs.model.Cover.{AreNetworks}
use Rattle.cidr_uses.proofs.access_list.have_32_bits.Given as goal

-- the networks so far
abbrev pub invariant-loop-rule : goal.invariant-loop-rule
invariant-loop-rule l = AreNetworks 32 (map (λ r. r.network) (take l.rule-index l.rules))
