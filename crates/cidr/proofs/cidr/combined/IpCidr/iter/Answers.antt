-- The walk of an IPv6 network has exactly its addresses.
use Rattle.cidr.proofs.cidr.combined.IpCidr.iter.Goals as goal

pub returns-in-V6-clause-exactly : goal.returns-in-V6-clause-exactly
returns-in-V6-clause-exactly c = rw c.in-V6.is c.ends-in-V6.ensures.exactly
