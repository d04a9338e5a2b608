-- These octets and dots have been read.
use Rattle.cidr.proofs.JoinedReading.{HasOctets}
use Rattle.cidr.proofs.parsers.parts.read_parts.Given as goal

abbrev pub invariant-loop-count : goal.invariant-loop-count
invariant-loop-count g l = HasOctets g.P.Part.spells l.text l.rest l.front l.count
