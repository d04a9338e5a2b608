use Rattle.std.proofs.Common.{◌≡◌, ◌++◌, map, take}
use Rattle.cidr_lookup.specs.Keys.{prefix_bits}
use Rattle.cidr_files.specs.Tables.{parts_in, stored_networks}
use Rattle.netset_commands.proofs.input.stored.push_networks.Given as goal

abbrev pub invariant-loop-row : goal.invariant-loop-row
invariant-loop-row g l =
    map g.C.BitString.bits l.networks.items
    ≡ map g.C.BitString.bits l.fn.networks.items ++ map (prefix_bits g.W.Address.width) (take l.row (stored_networks g.W.FileAddress.numbers (parts_in l.part)))
