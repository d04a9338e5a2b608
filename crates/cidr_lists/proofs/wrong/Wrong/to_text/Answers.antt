use Rattle.std.proofs.Common.{append_assoc, codes}
use Rattle.cidr.specs.either.IpHost.{host_address}
use Rattle.cidr.specs.texts.PrintedAddress.{ip_text}
use Rattle.cidr_lists.proofs.wrong.Wrong.to_text.Goals as goal

pub returns-in-EitherMask : goal.returns-in-EitherMask
returns-in-EitherMask c =
    rw (
      c.push_str-in-EitherMask-3.ensures.bytes,
      c.push_str-in-EitherMask-2.ensures.bytes,
      c.push_str-in-EitherMask.ensures.bytes,
      c.new-text.ensures,
      c.as_str-in-EitherMask.ensures.value,
      c.to_text-in-EitherMask.ensures.text,
      c.address.ensures.value,
      c.in-EitherMask.is,
    ) (append_assoc (codes "/0 by a network mask, ") (ip_text (host_address c.in-EitherMask.host)) (codes " by a wildcard"))
