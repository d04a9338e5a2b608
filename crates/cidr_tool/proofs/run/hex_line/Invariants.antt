use Rattle.std.proofs.Common.{◌≡◌, ◌*◌, length, take}
use Rattle.cidr_tool.specs.Answer.{hex_text}
use Rattle.cidr_tool.proofs.run.hex_line.Given as goal

abbrev pub invariant-loop-byte : goal.invariant-loop-byte
invariant-loop-byte l = (l.line.bytes ≡ hex_text (take l.byte-index l.bytes)) × (length l.line.bytes ≡ 2 * l.byte-index)
