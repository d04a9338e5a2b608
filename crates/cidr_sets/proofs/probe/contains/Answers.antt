use Rattle.std.proofs.Common.{◌≡◌, ◌<◌, ◌-◌, length, get_or, map, subst, arith, rules}
use Rattle.std.proofs.lemmas.List.{get_or-map, length-map}
use Rattle.std.proofs.lemmas.List.Elements.{Contains-get_or}
use Rattle.cidr.specs.model.Network.{BeginsWith}
use Rattle.cidr_sets.proofs.Addresses.{covers_to}
use Rattle.cidr_sets.proofs.Places.{holder_before}
use Rattle.cidr_sets.proofs.probe.contains.Goals as goal

pub returns-then-index-gt0-clause-answer : goal.returns-then-index-gt0-clause-answer
returns-then-index-gt0-clause-answer g c =
    let f = g.C.BitString.bits in
    let xs = g.P.Probe.keys c.args.networks.now in
    let k = c.args.network.now in
    let index = c.index-index.result in
    let keys = c.index-index.ensures.keys in
    let within : index - 1 < length xs = omega (arith, c.index-index.ensures.index.within, length-map xs f, c.if-index-gt0.true) in
    let top = get_or xs (index - 1) k in
    let is : get_or (map f xs) (index - 1) (f k) ≡ f top = get_or-map f xs (index - 1) k (f k) within in (
      λ e. covers_to f xs top (f k) (Contains-get_or xs (index - 1) k within) ((rw keys at c.contains_at.ensures.answer).0 e),
      λ h. (rw keys at c.contains_at.ensures.answer).1 (subst (BeginsWith (f k)) is
          (holder_before (map f xs) (f k) index c.requires c.index-index.ensures.index h).1),
    )

pub returns-else-index-gt0-clause-answer : goal.returns-else-index-gt0-clause-answer
returns-else-index-gt0-clause-answer g c =
    let f = g.C.BitString.bits in
    let xs = g.P.Probe.keys c.args.networks.now in
    let k = c.args.network.now in
    let index = c.index-index.result in (
      λ e. absurd (search (rules, e)),
      λ h.
          let some = (holder_before (map f xs) (f k) index c.requires c.index-index.ensures.index h).0 in
          absurd (omega (arith, some, c.if-index-gt0.false)),
    )
