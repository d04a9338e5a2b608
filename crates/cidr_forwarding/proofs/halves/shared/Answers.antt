use Rattle.std.proofs.Common.{◌≡◌, ◌+◌, arith}
use Rattle.cidr_forwarding.specs.Trees.{sharing}
use Rattle.cidr_forwarding.specs.Plans.{tails}
use Rattle.cidr_forwarding.proofs.Sharing.{shared_is}
use Rattle.cidr_forwarding.proofs.halves.shared.Goals as goal

pub overflow_sub-result : goal.overflow_sub-result
overflow_sub-result g c =
    let f = g.C.BitString.bits in
    let is : c.shared_prefix_len.result ≡ c.args.depth + sharing (tails f c.args.depth c.args.rows.now) =
    shared_is f c.args.depth c.args.rows.now c.requires.of c.index-rows-0.result c.index-rows-rows.result c.shared_prefix_len.result c.requires.some
    c.index-rows-0.is c.index-rows-rows.is c.shared_prefix_len.ensures in
    omega (arith, is)

pub returns : goal.returns
returns g c =
    let f = g.C.BitString.bits in
    let is : c.shared_prefix_len.result ≡ c.args.depth + sharing (tails f c.args.depth c.args.rows.now) =
    shared_is f c.args.depth c.args.rows.now c.requires.of c.index-rows-0.result c.index-rows-rows.result c.shared_prefix_len.result c.requires.some
    c.index-rows-0.is c.index-rows-rows.is c.shared_prefix_len.ensures in
    omega (arith, is)
