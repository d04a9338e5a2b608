use Rattle.std.proofs.Common.{◌∙◌, sym}
use Rattle.std.proofs.lemmas.Bool.{true≢false}
use Rattle.cidr_lists.proofs.KeptNear.{no_row_same, row_same, row_differs}
use Rattle.cidr_lists.proofs.near.same_of.Goals as goal

pub returns-in-None : goal.returns-in-None
returns-in-None g c = no_row_same c.args.found c.args.network.now c.in-None.is

pub returns-then-is_same : goal.returns-then-is_same
returns-then-is_same g c = row_same c.args.found c.args.network.now c.in-Some.row c.in-Some.is (c.is_same.ensures.0 c.if-is_same.true)

pub returns-else-is_same : goal.returns-else-is_same
returns-else-is_same g c =
    row_differs c.args.found c.args.network.now c.in-Some.row c.in-Some.is (λ same. true≢false (sym (c.is_same.ensures.1 same) ∙ c.if-is_same.false))
