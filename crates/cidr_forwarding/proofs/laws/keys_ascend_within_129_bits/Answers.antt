use Rattle.std.proofs.Common.{◌≤◌, length, subst, arith}
use Rattle.std.specs.List.{All}
use Rattle.std.proofs.lemmas.List.{take_all}
use Rattle.std.proofs.lemmas.List.Elements.{All-more}
use Rattle.cidr_forwarding.proofs.Passes.{node_from}
use Rattle.cidr_forwarding.proofs.laws.keys_ascend_within_129_bits.Goals as goal

pub loop-row-preserved : goal.loop-row-preserved
loop-row-preserved g c =
    let P : g.row.C.Denot × g.row.V.Denot → Type 0 = λ r. length (g.C.BitString.bits r.0) ≤ 129 in
    let here : P c.row-item.result = omega (arith, c.has_at_most_129_bits.ensures) in
    All-more P c.args.rows.now c.loop-row.row-index c.row-item.result c.loop-row-test.true c.loop-row.invariant (subst P c.row-item.is here)

pub returns : goal.returns
returns g c =
    let P : g.row.C.Denot × g.row.V.Denot → Type 0 = λ r. length (g.C.BitString.bits r.0) ≤ 129 in
    let all : All P c.args.rows.now = subst (All P) (take_all c.loop-row.row-index c.args.rows.now c.loop-row-test.false) c.loop-row.invariant in
    node_from g.C.BitString.bits g.C.Ord.cmp g.met.C.NetworkBits.ordered c.args.rows.now c.requires all
