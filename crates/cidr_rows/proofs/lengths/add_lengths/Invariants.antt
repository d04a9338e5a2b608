use Rattle.cidr_rows.proofs.KnownLengths.{AreAddedUpto}
use Rattle.cidr_rows.proofs.lengths.add_lengths.Given as goal

abbrev pub invariant-loop-i : goal.invariant-loop-i
invariant-loop-i g l = AreAddedUpto g.C.BitString.bits (g.K.Keys.keys l.rows) l.i l.initial.lengths l.lengths
