use Rattle.cidr_c.proofs.Founds.{has_none, has_one}
use Rattle.cidr_c.proofs.files.has_at.Goals as goal

pub returns-in-Some : goal.returns-in-Some
returns-in-Some g c = λ size.
    has_one g.W.Address.width g.W.Address.padding g.W.FileAddress.numbers size c.args.table.now c.args.bytes.now (g.W.Address.value c.args.address) c.in-Some.field-0 (c.in-Some.ensures.longest size)

pub returns-in-None : goal.returns-in-None
returns-in-None g c = λ size.
    has_none g.W.Address.width g.W.Address.padding g.W.FileAddress.numbers size c.args.table.now c.args.bytes.now (g.W.Address.value c.args.address) (c.in-None.ensures.longest size)
