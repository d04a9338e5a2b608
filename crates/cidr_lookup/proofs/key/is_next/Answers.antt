use Rattle.std.proofs.Common.{◌-◌, ◌∙◌, arith, refl, sym}
use Rattle.std.proofs.lemmas.Bool.{false≢true}
use Rattle.cidr_lookup.proofs.Numbers.{network_at}
use Rattle.cidr_lookup.proofs.key.is_next.Goals as goal

pub returns-then-index-eq0 : goal.returns-then-index-eq0
returns-then-index-eq0 g c =
    let key = c.index-keys-index in
    let here = network_at g.A.Address.value c.args.keys.now c.args.index key.result key.is c.requires in (
      λ t. record {
        network = rw here (c.is_network.ensures.0 c.if-is_network.true);
        behind = λ some. absurd (omega (arith, c.if-index-eq0.true));
      },
      λ next. rw c.if-index-eq0.true refl,
    )

pub returns-else-index-eq0 : goal.returns-else-index-eq0
returns-else-index-eq0 g c =
    let keys = c.args.keys.now in
    let key = c.index-keys-index in
    let one = c.index-keys-index-else-index-eq0 in
    let two = c.index-keys-index-else-index-eq0-2 in
    let here = network_at g.A.Address.value keys c.args.index key.result key.is c.requires in
    let before = network_at g.A.Address.value keys (c.args.index - 1) one.result one.is (omega (arith, c.requires)) in
    let at = network_at g.A.Address.value keys c.args.index two.result two.is c.requires in (
      λ t. record { network = rw here (c.is_network.ensures.0 c.if-is_network.true); behind = λ some. rw (before, at) (c.precedes.ensures.0 t) },
      λ next. c.precedes.ensures.1 (rw (before, at) at (next.behind (omega (arith, c.if-index-eq0.false)))),
    )

pub returns-else-is_network : goal.returns-else-is_network
returns-else-is_network g c =
    let key = c.index-keys-index in
    let here = network_at g.A.Address.value c.args.keys.now c.args.index key.result key.is c.requires in (
      λ t. absurd (false≢true (sym c.if-is_network.false ∙ t)),
      λ next. c.is_network.ensures.1 (rw here at next.network),
    )
