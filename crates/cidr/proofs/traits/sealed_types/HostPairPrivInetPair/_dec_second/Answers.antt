-- Without its last address a walk of two or more ends with the one before.
use Rattle.cidr.specs.model.Network.{width_of}
use Rattle.cidr.proofs.PairNumbers.{tells_more, pair_before_second, loses_second}
use Rattle.cidr.proofs.traits.sealed_types.HostPairPrivInetPair._dec_second.Goals as goal

pub new_unchecked-requires : goal.new_unchecked-requires
new_unchecked-requires g c =
    let e = c.addresses-first.ensures in
    let p = c.args.self.now in
    rw (e.first, c.network_length.ensures.value)
    (pair_before_second (width_of g.A.AddressBits.FAMILY) p.len p.first p.second e.pair _ _ e.first e.second _ c.is_below-more.ensures c.if-more.true _ c.step_down-before.ensures.value)

pub returns-then-more-clause-more : goal.returns-then-more-clause-more
returns-then-more-clause-more g c =
    let e = c.addresses-first.ensures in
    let p = c.args.self.now in
    tells_more (width_of g.A.AddressBits.FAMILY) p.len p.first p.second e.pair _ _ e.first e.second _ c.is_below-more.ensures

pub returns-then-more-clause-walk : goal.returns-then-more-clause-walk
returns-then-more-clause-walk g c =
    let e = c.addresses-first.ensures in
    let p = c.args.self.now in
    rw (c.if-more.true, c.new_unchecked.ensures, e.first)
    (loses_second (width_of g.A.AddressBits.FAMILY) p.len p.first p.second e.pair _ _ e.first e.second _ c.is_below-more.ensures c.if-more.true _ c.step_down-before.ensures.value)

pub returns-else-more-clause-more : goal.returns-else-more-clause-more
returns-else-more-clause-more g c =
    let e = c.addresses-first.ensures in
    let p = c.args.self.now in
    tells_more (width_of g.A.AddressBits.FAMILY) p.len p.first p.second e.pair _ _ e.first e.second _ c.is_below-more.ensures
