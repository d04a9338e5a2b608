use Rattle.std.proofs.Common.{◌≡◌}
use Rattle.cidr_lists.proofs.columns.address_in.Goals as goal

pub returns-in-Err : goal.returns-in-Err
returns-in-Err c =
    let same : c.in-Ok.text.now ≡ c.args.field.now = c.in-Ok.ensures.cases.0 in
    (rw same at c.in-Err.ensures.value.1, c.in-Err.ensures.value.0, rw same at c.new.ensures)
