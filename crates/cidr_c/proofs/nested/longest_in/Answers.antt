use Rattle.std.proofs.Common.{ℕ, List, length, subst, sym}
use Rattle.cidr.specs.either.IpNetwork.{any_bits}
use Rattle.cidr.specs.declared.cidr.any.AnyIpCidr.{AnyIpCidr}
use Rattle.cidr_lists.specs.Nearness.{AreRowsInOrder}
use Rattle.cidr_c.specs.Nested.{AreOuters, AreRowsOfList}
use Rattle.cidr_c.proofs.nested.longest_in.Goals as goal

pub longest_of-requires-clause-rows : goal.longest_of-requires-clause-rows
longest_of-requires-clause-rows c = subst (AreRowsInOrder any_bits) (sym c.as_slice.ensures.value) c.requires.1.ordered

pub longest_of-requires-clause-outers : goal.longest_of-requires-clause-outers
longest_of-requires-clause-outers c =
    let rows = c.as_slice.result.now in
    let outers = c.args.nested.now.outers.items in
    subst (λ (l : List ℕ). AreOuters any_bits rows l (length rows)) (sym c.as_slice-2.ensures.value)
    (subst (λ (l : List (AnyIpCidr × ℕ)). AreOuters any_bits l outers (length l)) (sym c.as_slice.ensures.value) c.requires.1.outers)

pub returns : goal.returns
returns c = λ networks are. c.longest_of.ensures networks (subst (AreRowsOfList networks) (sym c.as_slice.ensures.value) are.rows)
