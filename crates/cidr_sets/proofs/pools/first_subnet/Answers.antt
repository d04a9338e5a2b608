use Rattle.std.proofs.Common.{◌≡◌, [], ◌∷◌, sym, subst, arith}
use Rattle.std.specs.Option.{option_map}
use Rattle.cidr_table.proofs.Halves.{empty}
use Rattle.cidr_sets.specs.model.Pools.{IsFirstFree}
use Rattle.cidr_sets.proofs.Free.{lowest_free, too_deep, in_upper}
use Rattle.cidr_sets.proofs.pools.first_subnet.Goals as goal

pub returns-then-len-room : goal.returns-then-len-room
returns-then-len-room g c =
    lowest_free g.C.PoolNetwork.IsNetwork c.args.len (g.C.BitString.bits c.args.network.now) (g.C.BitString.bits c.lowest.result)
    (omega (arith, c.if-len.false, c.len.ensures.value)) c.lowest.ensures

pub returns-then-len-gt0 : goal.returns-then-len-gt0
returns-then-len-gt0 g c p h =
    let network = c.args.network.now in
    too_deep g.C.PoolNetwork.IsNetwork c.args.len (g.C.BitString.bits network) (g.C.BitString.room network)
    (g.met.C.PoolNetwork.deepest network) (omega (arith, c.if-len-gt0.true, c.len-3.ensures.value))
    (omega (arith, c.if-len-room.false, c.len-2.ensures.value, c.room.ensures.value)) p h

pub returns-in-None : goal.returns-in-None
returns-in-None g c =
    let none : g.C.BitString.bits c.args.network.now ≡ [] = empty (g.C.BitString.bits c.args.network.now) (omega (arith, c.if-len-gt0.false, c.len-3.ensures.value)) in
    let r = option_map g.C.BitString.bits c.first_in_half-in-None.result in
    subst (λ q. IsFirstFree g.C.PoolNetwork.IsNetwork (q ∷ []) c.args.len r) (sym none)
    (in_upper g.C.PoolNetwork.IsNetwork c.args.len (omega (arith, c.if-len-room.false)) c.in-None.ensures r c.first_in_half-in-None.ensures)
