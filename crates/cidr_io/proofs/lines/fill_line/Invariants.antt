use Rattle.std.proofs.Common.{◌≤◌, take, vec_len}
use Rattle.std.specs.Io.KnownBytes.{prepend_known}
use Rattle.cidr_io.specs.Lines.{HasNoFeed, HasTaken, KeepsLines}
use Rattle.cidr_io.proofs.lines.fill_line.Given as goal

abbrev pub invariant-loop-reads : goal.invariant-loop-reads
invariant-loop-reads g l = record {
  within : l.seen ≤ vec_len l.block;
  none : HasNoFeed (take l.seen l.block.items);
  lines : KeepsLines (prepend_known l.fn.block.items (g.S.Source.left l.fn.source)) (prepend_known l.block.items (g.S.Source.left l.source));
  taken : HasTaken l._reads (g.S.Source.left l.fn.source) (g.S.Source.left l.source);
}
