use Rattle.std.proofs.lemmas.Str.Ascii.{trim_ascii_start_is}
use Rattle.cidr_lists.proofs.columns.begin_of.Goals as goal

pub returns-in-WhiteSpace : goal.returns-in-WhiteSpace
returns-in-WhiteSpace c = rw c.in-WhiteSpace.is (trim_ascii_start_is c.args.line.now c.trim_ascii_start.result.now c.trim_ascii_start.ensures.value)
