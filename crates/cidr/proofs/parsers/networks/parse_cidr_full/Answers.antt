-- A network by a parser of its address and one of texts with no slash: each way out at a slash.
use Rattle.std.proofs.Common.{inr}
use Rattle.cidr.proofs.Parsing.{cut_refused, cut_made, seen_in_family}
use Rattle.cidr.proofs.parsers.networks.parse_cidr_full.Goals as goal

pub returns-in-Some-Ok : goal.returns-in-Some-Ok
returns-in-Some-Ok g c = inr (cut_made _ c.args.s.now c.in-Some-Ok.ensures _ _ _ c.in-Some-Ok.field-0-is (seen_in_family _ _ _ _ _ c.new.ensures.value c.new.ensures.family))

pub returns : goal.returns
returns g c = inr (cut_refused _ c.args.s.now c.in-Some-Err.ensures _ _ c.in-Some-Err.field-0-is)
