use Rattle.cidr_lists.proofs.RowSplits.{by_fields, by_words}
use Rattle.cidr_lists.proofs.forms.split_by.Goals as goal

pub returns-in-Columns : goal.returns-in-Columns
returns-in-Columns c = rw c.in-Columns.is c.fields_of.ensures

pub returns-in-Fields : goal.returns-in-Fields
returns-in-Fields c = by_fields c.in-Fields.separator c.args.layout c.args.line.now c.split_row.result c.in-Fields.is c.split_row.ensures

pub returns-in-Pfx2as : goal.returns-in-Pfx2as
returns-in-Pfx2as c = by_words c.args.layout c.args.line.now c.split_row-in-Pfx2as.result c.in-Pfx2as.is c.split_row-in-Pfx2as.ensures
