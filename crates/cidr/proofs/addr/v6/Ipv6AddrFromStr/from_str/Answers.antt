-- Reading an IPv6 address refuses exactly the texts that spell none.
use Rattle.cidr.proofs.addr.v6.Ipv6AddrFromStr.from_str.Goals as goal

pub returns-in-None : goal.returns-in-None
returns-in-None c = (c.ipv6.ensures, rw c.as_bytes.ensures.value at c.in-None.ensures)
