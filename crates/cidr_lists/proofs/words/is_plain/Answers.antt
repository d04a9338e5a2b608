use Rattle.cidr_lists.proofs.Anywhere.{lacks_by, no_colon, too_short}
use Rattle.cidr_lists.proofs.words.is_plain.Goals as goal

pub returns-in-Ipv4 : goal.returns-in-Ipv4
returns-in-Ipv4 c = rw c.in-Ipv4.is (too_short c.args.word.now)

pub returns-in-Ipv6 : goal.returns-in-Ipv6
returns-in-Ipv6 c = rw c.in-Ipv6.is (λ plain. no_colon c.args.word.now (lacks_by c.args.word.now c.contains.result c.contains.ensures.value plain))
