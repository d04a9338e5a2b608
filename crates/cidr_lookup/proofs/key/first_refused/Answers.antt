use Rattle.std.proofs.Common.{length, rules, sym}
use borrow.Author.Tests.{tests}
use Rattle.std.proofs.lemmas.Iterator.{first_from_Range}
use Rattle.cidr_lookup.specs.Keys.{key_networks}
use Rattle.cidr_lookup.specs.Passing.{IsNext}
use Rattle.cidr_lookup.proofs.Numbers.{first_refused_is, length_networks}
use Rattle.cidr_lookup.proofs.key.first_refused.Goals as goal

pub returns : goal.returns
returns g c =
    let networks = key_networks g.A.Address.value c.args.keys.now in
    let next = IsNext g.A.Address.width networks in
    first_refused_is g.A.Address.width networks (length c.args.keys.now) (sym (length_networks g.A.Address.value c.args.keys.now)) c.find.result
    (first_from_Range _ _ _ c.find.result (λ i. ¬ (next i)) next c.find.ensures.ran (λ x q k. search (rules, tests)) (λ x q k. search (rules, tests)))
