use Rattle.std.proofs.Common.{refl}
use Rattle.cidr_lists.proofs.Contents.{adds_nothing, adds_network, adds_v4, adds_v6}
use Rattle.cidr_lists.proofs.lists.Lists.push_content.Goals as goal

pub returns-in-Blank : goal.returns-in-Blank
returns-in-Blank c = rw c.in-Blank.is (adds_nothing c.args.self.now)

pub returns-in-Network : goal.returns-in-Network
returns-in-Network c = rw c.in-Network.is (adds_network c.in-Network.network c.args.self.now c.push.new.self c.push.result c.push.ensures)

pub returns-in-Ipv4Range : goal.returns-in-Ipv4Range
returns-in-Ipv4Range c =
    rw c.in-Ipv4Range.is (adds_v4 c.in-Ipv4Range.first c.in-Ipv4Range.last c.args.self.now
    (record c.args.self.now { v4 = c.push_range.new.networks }) c.push_range.result c.push_range.ensures refl)

pub returns-in-Ipv6Range : goal.returns-in-Ipv6Range
returns-in-Ipv6Range c =
    rw c.in-Ipv6Range.is (adds_v6 c.in-Ipv6Range.first c.in-Ipv6Range.last c.args.self.now
    (record c.args.self.now { v6 = c.push_range-in-Ipv6Range.new.networks }) c.push_range-in-Ipv6Range.result c.push_range-in-Ipv6Range.ensures refl)
