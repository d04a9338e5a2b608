use Rattle.std.proofs.Common.{option_copied}
use Rattle.cidr_uses.proofs.Routes.{last_listed}
use Rattle.cidr_uses.proofs.routing_table.index_in.Goals as goal

pub returns : goal.returns
returns g c =
    let (keys, listed, exactly) = c.in_ok-indices.ensures.loaded in
    (keys, listed, rw c.copied.ensures (last_listed keys c.in_ok-indices.indices.rows c.args.network.now exactly (option_copied c.get.result) c.get.ensures.value))
