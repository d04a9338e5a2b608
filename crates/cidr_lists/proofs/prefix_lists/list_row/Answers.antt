use Rattle.cidr_lists.proofs.PrefixTexts.{row_read}
use Rattle.cidr_lists.proofs.prefix_lists.list_row.Goals as goal

pub returns-in-Ok : goal.returns-in-Ok
returns-in-Ok c =
    row_read (λ s. (s.0, s.1.now)) c.args.text.now c.in-Ok.rest.now c.in-Ok.family c.name_row.result c.in-Ok.ensures c.name_row.ensures
