use Rattle.std.proofs.Common.{refl, take, Some, None}
use Rattle.cidr.specs.either.IpAddress.{plain_bits}
use Rattle.netset_commands.specs.Stored.{by_family}
use Rattle.netset_commands.proofs.Looked.{looks_up}
use Rattle.netset_commands.proofs.input.stored.StoredLookUps.push.Goals as goal

pub returns-in-Some : goal.returns-in-Some
returns-in-Some g c =
    looks_up (by_family c.args.self.now) c.args.address.now (Some (take c.in-Some.len (plain_bits c.args.address.now), c.in-Some.value.now)) _
    (g.S.Sink.state c.args.out.now) (g.S.Sink.state c.push_match.new.out) c.args.block.now c.push_match.new.block c.push_match.result c.in-Some.ensures refl
    (rw (c.to_text-text.ensures.text, c.block_text.ensures.bytes) at c.push_match.ensures)

pub returns-in-None : goal.returns-in-None
returns-in-None g c =
    looks_up (by_family c.args.self.now) c.args.address.now None None
    (g.S.Sink.state c.args.out.now) (g.S.Sink.state c.push_none.new.out) c.args.block.now c.push_none.new.block c.push_none.result c.in-None.ensures refl
    (rw c.to_text-text.ensures.text at c.push_none.ensures)
