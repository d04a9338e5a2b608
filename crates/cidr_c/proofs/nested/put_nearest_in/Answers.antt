use Rattle.std.proofs.Common.{ℕ, List, arith, length, subst, sym}
use Rattle.cidr.specs.either.IpNetwork.{any_bits}
use Rattle.cidr.specs.declared.cidr.any.AnyIpCidr.{AnyIpCidr}
use Rattle.cidr_lists.specs.Nearness.{AreRowsInOrder}
use Rattle.cidr_c.specs.Nested.{AreOuters, AreRowsOfList}
use Rattle.cidr_c.proofs.Outers.{row_within}
use Rattle.cidr_c.proofs.nested.put_nearest_in.Goals as goal

pub put_nearest-requires-clause-rows : goal.put_nearest-requires-clause-rows
put_nearest-requires-clause-rows c = subst (AreRowsInOrder any_bits) (sym c.as_slice.ensures.value) c.requires.1.ordered

pub put_nearest-requires-clause-outers : goal.put_nearest-requires-clause-outers
put_nearest-requires-clause-outers c =
    let rows = c.as_slice.result.now in
    let outers = c.args.nested.now.outers.items in
    subst (λ (l : List ℕ). AreOuters any_bits rows l (length rows)) (sym c.as_slice-2.ensures.value)
    (subst (λ (l : List (AnyIpCidr × ℕ)). AreOuters any_bits l outers (length l)) (sym c.as_slice.ensures.value) c.requires.1.outers)

pub put_nearest-requires-clause-room : goal.put_nearest-requires-clause-room
put_nearest-requires-clause-room c = λ row k here.
    let networks = c.requires.0 in
    let are = subst (AreRowsOfList networks) (sym c.as_slice.ensures.value) c.requires.1.rows in
    omega (arith, row_within networks c.as_slice.result.now are row k here, c.requires.2)

pub returns-clause-put : goal.returns-clause-put
returns-clause-put c = λ networks are. c.put_nearest.ensures.put networks (subst (AreRowsOfList networks) (sym c.as_slice.ensures.value) are.rows)

pub returns-clause-behind : goal.returns-clause-behind
returns-clause-behind c = λ networks are.
    let rows = c.as_slice.result.now in
    c.put_nearest.ensures.behind (length networks)
    (row_within networks rows (subst (AreRowsOfList networks) (sym c.as_slice.ensures.value) are.rows))
