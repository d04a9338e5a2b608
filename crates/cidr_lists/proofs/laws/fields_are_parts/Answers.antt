use Rattle.cidr_lists.proofs.FieldsAt.{field_is_part}
use Rattle.cidr_lists.proofs.laws.fields_are_parts.Goals as goal

pub returns : goal.returns
returns c = field_is_part
