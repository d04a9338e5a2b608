use Rattle.cidr_table.proofs.Matching.{under_tells}
use Rattle.cidr_table.proofs.table.LpmTable.contains_key.Goals as goal

pub returns : goal.returns
returns g c = rw c.is_some.ensures (under_tells c.args.self.now.rows c.args.key.now c.get.result c.get.ensures.value)
