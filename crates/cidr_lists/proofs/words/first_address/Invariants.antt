use Rattle.std.proofs.Common.{Option, length}
use Rattle.cidr.specs.declared.addr.ip.IpAddr.{IpAddr}
use Rattle.cidr.specs.declared.family.Family.TheVariants.{Ipv6}
use Rattle.cidr_lists.specs.Words.{WordSays}
use Rattle.cidr_lists.proofs.FirstWords.{First}
use Rattle.cidr_lists.proofs.words.first_address.Given as goal

abbrev pub invariant-loop-address : goal.invariant-loop-address
invariant-loop-address l = (found : Option IpAddr) → First WordSays Ipv6 l.rest found → First WordSays Ipv6 l.line found

abbrev pub decreases-loop-address : goal.decreases-loop-address
decreases-loop-address l = length l.rest
