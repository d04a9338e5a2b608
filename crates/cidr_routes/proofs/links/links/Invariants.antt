use Rattle.std.proofs.Common.{◌≡◌, length}
use Rattle.cidr_routes.specs.Links.{AreLinked}
use Rattle.cidr_routes.proofs.links.links.Given as goal

-- the links of the payloads up to here
abbrev pub invariant-loop-i : goal.invariant-loop-i
invariant-loop-i g l = record {
  len : length l.above.items ≡ l.i;
  linked : AreLinked g.C.BitString.bits l.payloads l.above.items;
}
