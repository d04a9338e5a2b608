use Rattle.cidr_ext.proofs.ShiftLaws.{ones_in_front}
use Rattle.cidr_ext.proofs.shifts.greatest.Goals as goal

pub returns-else-count-eq0 : goal.returns-else-count-eq0
returns-else-count-eq0 c = ones_in_front c.args.count c.requires
