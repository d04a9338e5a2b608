use Rattle.std.proofs.Common.{arith, inl, inr}
use Rattle.std.proofs.Math.Pow.{pow_mono}
use Rattle.std.proofs.lemmas.Bool.{cases_lt}
use Rattle.cidr_table.proofs.search.binary_digits.Goals as goal

pub returns-else-n-eq0-clause-least : goal.returns-else-n-eq0-clause-least
returns-else-n-eq0-clause-least c d small = elim (cases_lt c.ilog2.result d) [
  | inl lt ↦ omega arith
  | inr le ↦ absurd (omega (arith, small, c.ilog2.ensures.power_le, pow_mono le))
]
