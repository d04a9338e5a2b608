use Rattle.std.proofs.Common.{take}
use Rattle.cidr_lists.specs.Nearness.{AreOthersSame, IsPassed}
use Rattle.cidr_lists.proofs.near.keep.Given as goal

abbrev pub invariant-loop-index : goal.invariant-loop-index
invariant-loop-index g l = record {
  passed : IsPassed g.C.BitString.bits (take l.index l.rows) l.near l.nest.items;
  others : AreOthersSame l.rows l.initial.near l.near;
}
