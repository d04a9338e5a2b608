-- Values as their views show them.
use Rattle.std.specs.Prelude.{Result, Ok, Err}
use Rattle.cidr.specs.declared.family.Family.{Family}

-- a result, with its value as `view` shows it: `seen Self.prefix result` is the bits of the network, or the error
abbrev pub seen : {N V E : Type 0} → (N → V) → Result N E → Result V E
seen view (Ok value) = Ok (view value)
seen view (Err e) = Err e

-- the family of a value, and the value as `view` shows it
abbrev pub in_family : {N V : Type 0} → (N → Family) → (N → V) → N → Family × V
in_family family view value = (family value, view value)
