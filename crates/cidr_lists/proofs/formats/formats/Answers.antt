use Rattle.std.proofs.Common.{refl}
use Rattle.cidr_lists.specs.Formats.{formats}
use Rattle.cidr_lists.proofs.formats.formats.Goals as goal

pub returns : goal.returns
unfolding formats
returns c = refl
