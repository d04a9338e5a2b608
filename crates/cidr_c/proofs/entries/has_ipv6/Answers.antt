use Rattle.std.proofs.lemmas.Bool.{leb-true, le-leb}
use Rattle.cidr_c.proofs.Blocks.{told}
use Rattle.cidr_c.proofs.entries.has_ipv6.Goals as goal

pub returns : goal.returns
returns c =
    let shared = c.shared_len.ensures c.args.entry.now.len c.requires.len in
    rw c.from.ensures (told 128 c.args.number c.args.entry.now _ (λ t. shared.0 (leb-true _ _ t)) (λ e. le-leb _ _ (shared.1 e)))
