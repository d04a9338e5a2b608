-- The order tells whether the two are one network, and so all five agree or none does.
use Rattle.cidr.proofs.Agreeing.{agree_all, agree_none}
use Rattle.cidr.proofs.canon.agree.Goals as goal

pub returns-clause-all : goal.returns-clause-all
returns-clause-all g c =
    let n = g.N.Canonical in
    let a = c.args.a.now in
    let b = c.args.b.now in
    let one = c.each_tells_the_network.ensures in
    let other = c.each_tells_the_network-2.ensures in
    let test = rw c.cmp.ensures at c.is_eq.ensures in
    agree_all n.holds n.text n.bytes g.N.Ord.cmp n.is_network g.met.N.Ord.total one.tells a b one.network other.network c.is_eq.result test

pub returns-clause-none : goal.returns-clause-none
returns-clause-none g c =
    let n = g.N.Canonical in
    let a = c.args.a.now in
    let b = c.args.b.now in
    let one = c.each_tells_the_network.ensures in
    let other = c.each_tells_the_network-2.ensures in
    let test = rw c.cmp.ensures at c.is_eq.ensures in
    agree_none n.holds n.text n.bytes g.N.Ord.cmp n.is_network g.met.N.Ord.total one.tells a b one.network other.network c.is_eq.result test
