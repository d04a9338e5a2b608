use Rattle.std.proofs.Common.{◌≡◌, ◌≤◌, ◌*◌, length, take, map, option_map}
use Rattle.std.specs.List.{flat_map}
use Rattle.cidr.specs.either.IpAddress.{address_family, plain_bits}
use Rattle.cidr.specs.model.Views.{in_family}
use Rattle.cidr_tool.specs.Walking.{answer_line}
use Rattle.cidr_tool.proofs.walks.lines_of.Given as goal

abbrev pub invariant-loop-answer : goal.invariant-loop-answer
invariant-loop-answer l =
    (l.lines.bytes ≡ flat_map answer_line (map (option_map (in_family address_family plain_bits)) (take l.answer-index l.answers)))
    × (length l.lines.bytes ≤ 40 * l.answer-index)
