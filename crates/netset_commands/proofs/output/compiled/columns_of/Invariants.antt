use Rattle.netset_commands.proofs.Compiling.{AreUpTo}
use Rattle.netset_commands.proofs.output.compiled.columns_of.Given as goal

abbrev pub invariant-loop-row : goal.invariant-loop-row
invariant-loop-row g l =
    AreUpTo g.W.Address.width g.W.Address.value g.C.BitString.bits l.all l.rows l.keys.items l.offsets.items l.values.items l.row-index
