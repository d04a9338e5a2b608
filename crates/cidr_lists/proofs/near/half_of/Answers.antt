use Rattle.std.proofs.Common.{◌∙◌, sym}
use Rattle.std.proofs.lemmas.Bool.{true≢false}
use Rattle.cidr_lists.proofs.KeptNear.{half_differs, half_same, no_row_half}
use Rattle.cidr_lists.proofs.near.half_of.Goals as goal

pub returns-in-None : goal.returns-in-None
returns-in-None g c = no_row_half g.C.BitString.bits c.args.closed c.args.network.now c.in-None.is

pub returns-then-is_sibling_of : goal.returns-then-is_sibling_of
returns-then-is_sibling_of g c =
    half_same g.C.BitString.bits c.args.closed c.args.network.now c.in-Some.row c.in-Some.is (c.is_sibling_of.ensures.0 c.if-is_sibling_of.true)

pub returns-else-is_sibling_of : goal.returns-else-is_sibling_of
returns-else-is_sibling_of g c =
    half_differs g.C.BitString.bits c.args.closed c.args.network.now c.in-Some.row c.in-Some.is
    (λ siblings. true≢false (sym (c.is_sibling_of.ensures.1 siblings) ∙ c.if-is_sibling_of.false))
