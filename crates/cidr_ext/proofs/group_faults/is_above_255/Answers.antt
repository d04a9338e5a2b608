use Rattle.std.proofs.Common.{sym, ◌∙◌}
use Rattle.cidr_ext.proofs.Faults.{large_from_parse}
use Rattle.cidr_ext.proofs.group_faults.is_above_255.Goals as goal

pub returns-then-is_number : goal.returns-then-is_number
returns-then-is_number c =
    c.is_err.ensures.value ∙ large_from_parse c.args.octet.now c.parse.result (sym c.is_number.ensures ∙ c.if-is_number.true) c.parse.ensures.value.0
