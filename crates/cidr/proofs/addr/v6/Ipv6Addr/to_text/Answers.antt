-- The printed text is the only canonical one.
use Rattle.cidr.proofs.Ipv6Printing.{one_canonical}
use Rattle.cidr.proofs.addr.v6.Ipv6Addr.to_text.Goals as goal

pub returns-clause-only : goal.returns-clause-only
returns-clause-only c = λ text h. rw (c.push_to.ensures.bytes, c.new-text.ensures) (one_canonical text c.args.self.now h)
