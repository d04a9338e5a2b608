use Rattle.std.proofs.Common.{◌++◌, map, take}
use Rattle.cidr.specs.declared.cidr.combined.IpCidr.TheVariants.{V4, V6}
use Rattle.cidr_c.specs.calls.Plans.{AddsRows}
use Rattle.cidr_c.proofs.plans.push_lists.Given as goal

abbrev pub invariant-loop-network : goal.invariant-loop-network
invariant-loop-network l = AddsRows l.fn.rows.items l.rows.items (map (λ p. V4 p) (take l.network-index l.lists.v4.items)) l.place

abbrev pub invariant-loop-other : goal.invariant-loop-other
invariant-loop-other l =
    AddsRows l.fn.rows.items l.rows.items (map (λ p. V4 p) l.lists.v4.items ++ map (λ p. V6 p) (take l.other-index l.lists.v6.items)) l.place
