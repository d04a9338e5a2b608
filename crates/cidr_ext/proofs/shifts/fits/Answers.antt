use Rattle.cidr_ext.proofs.ShiftLaws.{fits_wide, fits_narrow}
use Rattle.cidr_ext.proofs.shifts.fits.Goals as goal

pub returns-then-count-ge128 : goal.returns-then-count-ge128
returns-then-count-ge128 c = fits_wide c.args.number c.args.count c.ranges.number.fits c.if-count-ge128.true

pub returns-else-count-ge128 : goal.returns-else-count-ge128
returns-else-count-ge128 c = fits_narrow c.args.number c.args.count
