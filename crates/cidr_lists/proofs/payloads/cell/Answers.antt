use Rattle.cidr_lists.proofs.payloads.cell.Goals as goal

pub returns : goal.returns
returns c = rw c.cell_at.ensures at c.field_at.ensures
