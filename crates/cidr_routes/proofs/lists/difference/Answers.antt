use Rattle.std.proofs.option.Match.{if_none}
use Rattle.cidr_routes.proofs.Lengths.{one_length}
use Rattle.cidr_routes.proofs.lists.difference.Goals as goal

pub loop-len-preserved : goal.loop-len-preserved
loop-len-preserved g c =
    let none = if_none _ _ c.in-None.is c.in_ok-found.ensures c.loop-len.invariant in
    one_length g.C.BitString.bits c.args.these.now c.args.those.now c.loop-len.len c.loop-len.invariant (λ p e. (none p e).0) (λ p e. (none p e).1)
