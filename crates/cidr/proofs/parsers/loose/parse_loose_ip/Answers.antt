-- A strict text of either family is a loose text, and the readers of both families refuse what is none.
use Rattle.cidr.proofs.LooseGrammar.{strict_ip_is_loose, no_loose_ip}
use Rattle.cidr.proofs.parsers.loose.parse_loose_ip.Goals as goal

pub returns-in-Ok : goal.returns-in-Ok
returns-in-Ok c = strict_ip_is_loose _ _ c.in-Ok.ensures.value

pub returns-in-None : goal.returns-in-None
returns-in-None c = (c.in-Err.ensures.value.0, no_loose_ip _ c.in-Err.ensures.value.1 c.in-None.ensures)
