use Rattle.cidr_ext.proofs.ShiftLaws.{shift_fits}
use Rattle.cidr_ext.proofs.shifts.shifted.Goals as goal

pub overflow_shl-result : goal.overflow_shl-result
overflow_shl-result c = shift_fits c.args.number c.args.zeros c.if-number-eq0.false c.requires
