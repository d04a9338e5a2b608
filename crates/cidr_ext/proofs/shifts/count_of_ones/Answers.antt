use Rattle.std.proofs.Common.{refl}
use Rattle.cidr_ext.proofs.ShiftLaws.{not_ones}
use Rattle.cidr_ext.proofs.shifts.count_of_ones.Goals as goal

pub returns-else-number-greatest : goal.returns-else-number-greatest
returns-else-number-greatest c = not_ones c.args.number _ c.greatest.result c.ranges.number.fits refl c.greatest.ensures c.if-number-greatest.false
