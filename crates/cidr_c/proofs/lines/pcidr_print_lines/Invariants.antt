use Rattle.std.proofs.Common.{◌≡◌, ◌*◌, ◌≤◌, drop, length, take}
use Rattle.cidr_c.specs.calls.Batches.{AreNetworkValues}
use Rattle.cidr_c.specs.calls.Lines.{printed_lines}
use Rattle.cidr_c.proofs.lines.pcidr_print_lines.Given as goal

abbrev pub invariant-loop-value : goal.invariant-loop-value
invariant-loop-value l =
    (l.end ≤ length l.out) × AreNetworkValues (take l.value-index l.networks)
    × (take l.end l.out ≡ printed_lines (take l.value-index l.networks)) × (l.end ≤ 44 * l.value-index)
    × (length l.out ≡ length l.fn.out) × (drop l.end l.out ≡ drop l.end l.fn.out)
