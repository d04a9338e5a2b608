use Rattle.std.proofs.Common.{◌≡◌, ◌-◌, ◌≤◌, length, take, map}
use Rattle.std.specs.Option.{IfSome}
use Rattle.std.specs.String.{string_bytes}
use Rattle.cidr_io.proofs.arguments.texts_of.Given as goal

abbrev pub invariant-loop-texts : goal.invariant-loop-texts
invariant-loop-texts g l =
    IfSome (g.A.Arguments.told l.arguments) (λ given. (l.texts.len ≤ length given) × (map string_bytes l.texts.items ≡ take l.texts.len given))

-- a list has fewer than 2 ^ 63 items
abbrev pub decreases-loop-texts : goal.decreases-loop-texts
decreases-loop-texts g l = 9223372036854775808 - l.texts.len
