use Rattle.std.proofs.Common.{◌≡◌, take, map}
use Rattle.std.specs.String.{string_bytes}
use Rattle.cidr_io.proofs.arguments.borrowed.Given as goal

abbrev pub invariant-loop-text : goal.invariant-loop-text
invariant-loop-text g l = map (λ s. s.now) l.slices.items ≡ map string_bytes (take l.text-index l.texts)
