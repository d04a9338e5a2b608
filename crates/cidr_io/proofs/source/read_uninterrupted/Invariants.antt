use Rattle.std.specs.Io.KnownBytes.{Keeps}
use Rattle.cidr_io.proofs.source.read_uninterrupted.Given as goal

abbrev pub invariant-loop-tries : goal.invariant-loop-tries
invariant-loop-tries g l = Keeps (g.R.Read.remaining l.fn.reader) (g.R.Read.remaining l.reader)
