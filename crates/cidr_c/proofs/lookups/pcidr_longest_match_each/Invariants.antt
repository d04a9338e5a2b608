use Rattle.std.proofs.Common.{◌≡◌, drop, length, map}
use Rattle.cidr_c.specs.calls.Lookups.{IsLongestIndex}
use Rattle.cidr_c.specs.model.Values.{network_in}
use Rattle.cidr_c.proofs.Answering.{AreFirst}
use Rattle.cidr_c.proofs.lookups.pcidr_longest_match_each.Given as goal

abbrev pub invariant-loop-i : goal.invariant-loop-i
invariant-loop-i l = (length l.out ≡ length l.fn.out) × AreFirst (IsLongestIndex (map network_in l.networks)) l.i l.asked l.out
    × (drop (length l.asked) l.out ≡ drop (length l.asked) l.fn.out)
