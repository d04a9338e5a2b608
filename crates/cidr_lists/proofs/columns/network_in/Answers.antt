use Rattle.std.proofs.Common.{◌≡◌}
use Rattle.cidr_lists.proofs.columns.network_in.Goals as goal

pub returns-in-Ok-read_network : goal.returns-in-Ok-read_network
returns-in-Ok-read_network c =
    let same : c.in-Ok.text.now ≡ c.args.field.now = c.in-Ok.ensures.cases.0 in
    rw same at c.in-Ok-read_network.ensures

pub returns-in-Err : goal.returns-in-Err
returns-in-Err c =
    let same : c.in-Ok.text.now ≡ c.args.field.now = c.in-Ok.ensures.cases.0 in
    (rw same at c.in-Err.ensures, rw same at c.bad_network.ensures)
