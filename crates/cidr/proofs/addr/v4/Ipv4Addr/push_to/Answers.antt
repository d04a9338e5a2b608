-- The four octets of the address, in decimal with dots between them.
use Rattle.cidr.specs.texts.PrintedAddress.{ipv4_text}
use Rattle.cidr.proofs.Ipv4Printing.{dotted_pushed}
use Rattle.cidr.proofs.addr.v4.Ipv4Addr.push_to.Goals as goal

pub returns-clause-bytes : goal.returns-clause-bytes
unfolding ipv4_text
returns-clause-bytes g c =
    rw (
      c.push_decimal.ensures.bytes,
      c.push_decimal_dot-3.ensures.bytes,
      c.push_decimal_dot-2.ensures.bytes,
      c.push_decimal_dot.ensures.bytes,
      c.octets.ensures.value,
    ) (dotted_pushed _ _ _ _ _)
