use Rattle.netset_commands.proofs.Numbering.{slices_ascend, slices_kept}
use Rattle.netset_commands.proofs.input.numbers.Numbers.of_values.Goals as goal

pub invariant_of-result : goal.invariant_of-result
invariant_of-result c = slices_ascend c.sort_unstable.new.self.items c.sort_unstable.ensures.sorted

pub returns-clause-ascending : goal.returns-clause-ascending
returns-clause-ascending c = slices_ascend c.sort_unstable.new.self.items c.sort_unstable.ensures.sorted

pub returns-clause-values : goal.returns-clause-values
returns-clause-values c = slices_kept c.args.values.items c.sort_unstable.new.self.items c.sort_unstable.ensures.permutation
