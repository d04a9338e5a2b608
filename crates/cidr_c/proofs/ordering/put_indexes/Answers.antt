use Rattle.std.proofs.Common.{ℕ, List, inr, subst, ◌∙◌}
use Rattle.cidr_c.specs.calls.Batches.{IsListPut}
use Rattle.cidr_c.proofs.ordering.put_indexes.Goals as goal

pub returns-in-Ok : goal.returns-in-Ok
returns-in-Ok c =
    let put = c.put_list.new in
    inr (subst (λ (l : List ℕ). IsListPut l c.args.out.now put.out put.count c.put_list.result) (c.as_slice.ensures.value ∙ c.in-Ok.ensures) c.put_list.ensures)
