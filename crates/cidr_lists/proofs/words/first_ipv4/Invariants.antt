use Rattle.std.proofs.Common.{Option, length}
use Rattle.cidr.specs.declared.addr.ip.IpAddr.{IpAddr}
use Rattle.cidr.specs.declared.family.Family.TheVariants.{Ipv4}
use Rattle.cidr_lists.specs.Words.{WordIs}
use Rattle.cidr_lists.proofs.FirstWords.{First}
use Rattle.cidr_lists.proofs.words.first_ipv4.Given as goal

abbrev pub invariant-loop-address : goal.invariant-loop-address
invariant-loop-address l = (found : Option IpAddr) → First (WordIs Ipv4) Ipv4 l.rest found → First (WordIs Ipv4) Ipv4 l.word found

abbrev pub decreases-loop-address : goal.decreases-loop-address
decreases-loop-address l = length l.rest
