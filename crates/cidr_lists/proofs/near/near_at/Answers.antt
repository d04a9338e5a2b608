use Rattle.std.proofs.Common.{map, arith}
use Rattle.std.proofs.lemmas.List.{length-map}
use Rattle.cidr_lists.specs.Findings.{entry_network}
use Rattle.cidr_lists.proofs.NumberedRows.{first_within, near_line}
use Rattle.cidr_lists.proofs.near.near_at.Goals as goal

pub kept-first-requires : goal.kept-first-requires
kept-first-requires c = omega (arith, c.requires.near.size, c.requires.within, length-map c.args.entries.now entry_network)

pub kept-requires : goal.kept-requires
kept-requires c = first_within (map entry_network c.args.entries.now) c.args.near.now c.requires.near c.args.index c.kept-first.result c.kept-first.ensures

pub returns : goal.returns
returns c network there =
    near_line (map entry_network c.args.entries.now) c.args.near.now c.requires.near c.args.index c.kept-first.result c.kept-first.ensures c.kept.result network
    c.kept.ensures there
