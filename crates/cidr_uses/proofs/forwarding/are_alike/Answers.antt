use Rattle.std.proofs.Common.{rules, ◌≡◌, Bool, List, [], ◌∷◌, length, arith}
use Rattle.std.specs.List.{Contains}
use Rattle.cidr_forwarding.specs.Forwarding.{in_bits}
use Rattle.cidr_table.proofs.MapLaws.{contains_nothing}
use Rattle.cidr_uses.proofs.forwarding.are_alike.Goals as goal

none_listed : {C Y : Type 0} (bits : C → List Bool) (rows : List (C × Y)) → length rows ≡ 0 → (row : List Bool × Y) → Contains (in_bits bits rows) row → ⊥
none_listed bits [] e row m = contains_nothing row m
none_listed bits (r ∷ rows) e row m = omega (arith, e)

pub returns : goal.returns
returns g c empty w most one other a m answers h n =
    let row = (c.in_ok-listed.ensures.width w most one other).complete a m answers h n in
    let none : length c.in_ok-listed.listed.items ≡ 0 = search rules in
    none_listed g.C.BitString.bits c.in_ok-listed.listed.items none (row.0, answers) row.2
