-- The cut at the last slash is one.
use Rattle.cidr.proofs.RefusedTexts.{one_last_cut, cut_has_slash}
use Rattle.cidr.proofs.laws.parsers.last_cut_is_one.Goals as goal

pub returns : goal.returns
returns c = record { one = one_last_cut; slash = cut_has_slash }
