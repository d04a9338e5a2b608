-- What is left is the walk of the pair: the lowest host is that at its first address.
use Rattle.std.proofs.Common.{rules}
use Rattle.cidr.proofs.WalkLaws.{IsEnd, lowest_is}
use Rattle.cidr.proofs.inet_iterator.InetIterator.lowest.Goals as goal

pub returns : goal.returns
returns g c =
    let M = g.A.InetPair.PrivInetPair in
    let host = c.first.ensures in
    let end : IsEnd M.family_of M.pair c.self.inside.state c.in_ok-as_ref.field-0.now _ _ _ =
    record { kept = c.in_ok-as_ref.ensures.value; view = c.self.view_is; some = search rules; is = host.pair; same_family = host.family } in
    lowest_is end host.value
