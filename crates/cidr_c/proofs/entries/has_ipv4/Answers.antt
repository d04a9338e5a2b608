use Rattle.std.proofs.lemmas.Bool.{leb-true, le-leb}
use Rattle.cidr_c.proofs.Blocks.{told_ipv4}
use Rattle.cidr_c.proofs.entries.has_ipv4.Goals as goal

pub returns : goal.returns
returns c =
    rw c.from-2.ensures (told_ipv4 c.args.number c.lower.result c.shared_len_of_halves.result c.args.entry.now _ c.requires.first c.requires.len c.lower.ensures (rw c.from.ensures at c.shared_len_of_halves.ensures.shared)
    (leb-true _ _) (le-leb _ _))
