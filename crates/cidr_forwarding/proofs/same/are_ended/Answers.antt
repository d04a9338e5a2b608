use Rattle.std.proofs.Common.{arith}
use Rattle.cidr_forwarding.proofs.Passes.{none_left}
use Rattle.cidr_forwarding.proofs.same.are_ended.Goals as goal

pub returns-clause-none : goal.returns-clause-none
returns-clause-none g c e = none_left g.C.BitString.bits c.args.depth c.args.rest.now c.requires.node c.requires.deep (omega arith)

pub returns-clause-other_none : goal.returns-clause-other_none
returns-clause-other_none g c e = none_left g.C.BitString.bits c.args.depth c.args.other_rest.now c.requires.other_node c.requires.other_deep (omega arith)
