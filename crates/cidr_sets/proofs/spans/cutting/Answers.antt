use Rattle.std.proofs.Common.{false, true, inl, inr}
use Rattle.std.proofs.lemmas.Bool.Decides.{not_from_Decides}
use Rattle.cidr_sets.proofs.Between.{cut_longer}
use Rattle.cidr_sets.proofs.spans.cutting.Goals as goal

pub returns-then-is_cut : goal.returns-then-is_cut
returns-then-is_cut g c =
    let f = g.C.BitString.bits in
    let cut = c.is_cut.ensures.0 c.if-is_cut.true in
    (inl cut, cut.0, cut_longer false (f c.args.first.now) (f c.args.network.now) cut)

pub returns-then-is_cut-2 : goal.returns-then-is_cut-2
returns-then-is_cut-2 g c =
    let f = g.C.BitString.bits in
    let cut = c.is_cut-2.ensures.0 c.if-is_cut-2.true in
    (inr cut, cut.0, cut_longer true (f c.args.last.now) (f c.args.network.now) cut)

pub returns : goal.returns
returns g c = (
  not_from_Decides c.is_cut.result c.is_cut.ensures c.if-is_cut.false,
  not_from_Decides c.is_cut-2.result c.is_cut-2.ensures c.if-is_cut-2.false,
)
