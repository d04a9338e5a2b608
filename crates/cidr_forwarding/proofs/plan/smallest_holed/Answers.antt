use Rattle.cidr_forwarding.specs.Forwarding.{in_bits}
use Rattle.cidr_forwarding.proofs.Final.{holed_width, holed_ip, holed_sorted, holed_kept, holed_kept_ip, holed_fewer}
use Rattle.cidr_forwarding.proofs.plan.smallest_holed.Goals as goal

pub returns-clause-width : goal.returns-clause-width
returns-clause-width g c =
    holed_width g.C.BitString.bits g.V.PartialEq.eq c.requires.tells c.args.rows.now c.smallest.ensures.node (in_bits g.C.BitString.bits c.in_ok-out.out.items) c.in_ok-out.ensures.rows

pub returns-clause-ip : goal.returns-clause-ip
returns-clause-ip g c =
    holed_ip g.C.BitString.bits g.V.PartialEq.eq c.requires.tells c.args.rows.now c.smallest.ensures.node (in_bits g.C.BitString.bits c.in_ok-out.out.items) c.in_ok-out.ensures.rows

pub returns-clause-sorted : goal.returns-clause-sorted
returns-clause-sorted g c =
    holed_sorted g.C.BitString.bits g.V.PartialEq.eq c.requires.tells c.args.rows.now c.smallest.ensures.node g.C.Ord.cmp g.met.C.NetworkBits.ordered c.in_ok-out.out.items c.in_ok-out.ensures.rows

pub returns-clause-kept : goal.returns-clause-kept
returns-clause-kept g c = holed_kept g.C.BitString.bits g.V.PartialEq.eq c.requires.tells c.args.rows.now c.smallest.ensures.node c.in_ok-out.out.items c.in_ok-out.ensures.rows

pub returns-clause-kept_ip : goal.returns-clause-kept_ip
returns-clause-kept_ip g c = holed_kept_ip g.C.BitString.bits g.V.PartialEq.eq c.requires.tells c.args.rows.now c.smallest.ensures.node c.in_ok-out.out.items c.in_ok-out.ensures.rows

pub returns-clause-fits : goal.returns-clause-fits
returns-clause-fits g c = holed_fewer g.C.BitString.bits g.V.PartialEq.eq c.requires.tells c.args.rows.now c.smallest.ensures.node c.in_ok-out.out.items c.in_ok-out.ensures.rows
