use Rattle.std.proofs.Common.{◌≡◌, ◌≤◌, length, map, take}
use Rattle.std.specs.List.{All}
use Rattle.cidr.specs.model.Network.{width_of}
use Rattle.netset_commands.specs.Numbers.{numbered}
use Rattle.cidr_lists.specs.Tables.{resolved}
use Rattle.netset_commands.proofs.input.numbers.Numbers.table.Given as goal

abbrev pub invariant-loop-row : goal.invariant-loop-row
invariant-loop-row g l =
    record {
      rows : l.rows.items ≡ numbered l.self (map (resolved l.all) (take l.row-index l.table.rows));
      fit : All (λ row. length (g.C.BitString.bits row.0) ≤ width_of g.C.FamilyCidr.FAMILY) l.rows.items;
    }
