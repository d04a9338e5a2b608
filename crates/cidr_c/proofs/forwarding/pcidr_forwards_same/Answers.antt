use Rattle.cidr.specs.either.IpNetwork.{any_bits}
use Rattle.cidr_forwarding.specs.Forwarding.{ForwardSame}
use Rattle.cidr_table.specs.model.CoverAddresses.{IsIpAddressBits}
use Rattle.cidr_c.specs.model.Forwarding.{AreRowValues, ForwardSameRows}
use Rattle.cidr_c.proofs.Compared.{set_answered}
use Rattle.cidr_c.proofs.Forwarded.{forward_same}
use Rattle.cidr_c.proofs.forwarding.pcidr_forwards_same.Goals as goal

pub returns-in-Ok-Ok : goal.returns-in-Ok-Ok
returns-in-Ok-Ok c =
    let both = c.in-Ok-Ok in
    let one = both.ensures in
    let other = both.ensures' in
    set_answered (AreRowValues c.args.these.now × AreRowValues c.args.those.now) (ForwardSame any_bits IsIpAddressBits both.these.rows both.those.rows)
    (ForwardSameRows c.args.these.now c.args.those.now) c.forwards_same.result c.args.answer.now c.yes_or_no.result (one.0, other.0)
    (forward_same c.args.these.now c.args.those.now both.these.rows both.those.rows one.1 other.1) (c.forwards_same.ensures.ip one.2 other.2)
    c.yes_or_no.ensures
