use Rattle.std.proofs.Common.{◌≡◌, drop, length, map}
use Rattle.cidr.specs.either.IpNetwork.{any_bits}
use Rattle.cidr_table.specs.model.Cover.{IsFull}
use Rattle.cidr_c.specs.calls.Calls.{IsYesOrNo}
use Rattle.cidr_c.proofs.Answering.{AreFirst}
use Rattle.cidr_c.proofs.lookups.pcidr_contains_each.Given as goal

abbrev pub invariant-loop-i : goal.invariant-loop-i
invariant-loop-i l =
    (length l.out ≡ length l.fn.out)
    × AreFirst (λ n answer. IsYesOrNo answer (IsFull 129 (map any_bits l.set) (any_bits n))) l.i l.asked l.out
    × (drop (length l.asked) l.out ≡ drop (length l.asked) l.fn.out)
