use Rattle.cidr.specs.texts.PrintedAddress.{address_text}
use Rattle.cidr.specs.declared.family.Family.TheVariants.{Ipv4, Ipv6}
use Rattle.cidr_lists.specs.Sets.{range_line}
use Rattle.cidr_lists.proofs.PrintedTexts.{IsBehind}
use Rattle.cidr_lists.proofs.sets.Sets.to_range_lines.Given as goal

abbrev pub invariant-loop-range : goal.invariant-loop-range
invariant-loop-range l = IsBehind (range_line (address_text Ipv4)) l.initial.text.items l.initial.v4 l.text.items l.v4

abbrev pub invariant-loop-range-2 : goal.invariant-loop-range-2
invariant-loop-range-2 l = IsBehind (range_line (address_text Ipv6)) l.initial.text.items l.initial.v6 l.text.items l.v6
