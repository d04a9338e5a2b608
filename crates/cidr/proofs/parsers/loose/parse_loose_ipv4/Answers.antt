-- A strict text is a loose text.
use Rattle.cidr.proofs.LooseGrammar.{strict_is_loose}
use Rattle.cidr.proofs.parsers.loose.parse_loose_ipv4.Goals as goal

pub returns-in-Ok : goal.returns-in-Ok
returns-in-Ok c = strict_is_loose _ _ c.in-Ok.ensures.value
