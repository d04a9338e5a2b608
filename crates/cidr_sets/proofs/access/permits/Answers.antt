use Rattle.std.proofs.Common.{rules}
use borrow.Author.Tests.{tests}
use Rattle.std.proofs.lemmas.Bool.{false≢true}
use Rattle.std.proofs.lemmas.Iterator.{first_from_find, YieldsList-from_slice}
use Rattle.std.proofs.option.Match.{if_some, if_none}
use Rattle.cidr.specs.model.Network.{BeginsWith}
use Rattle.cidr_sets.proofs.FirstRules.{first_permits, none_permits}
use Rattle.cidr_sets.proofs.access.permits.Goals as goal

pub returns-in-Some : goal.returns-in-Some
returns-in-Some g c =
    let a = g.C.BitString.bits c.args.address.now in
    let (begins, i, within, at, none) = if_some _ _ _ c.in-Some.is
    (first_from_find _ _ c.find.result (λ r. BeginsWith a (g.C.BitString.bits r.network)) (λ r. ¬ (BeginsWith a (g.C.BitString.bits r.network)))
    c.find.ensures.ran (YieldsList-from_slice c.args.rules.now cc) (λ x q k. search (rules, tests)) (λ x q k. search (rules, tests))) in
    let first = first_permits (λ r. g.C.BitString.bits r.network) (λ r. r.action) a c.args.rules.now c.in-Some.rule.now i within at none begins in
    (λ t. first.1 (c.is_permit.ensures.0 t), λ h. c.is_permit.ensures.1 (first.0 h))

pub returns-in-None : goal.returns-in-None
returns-in-None g c =
    let a = g.C.BitString.bits c.args.address.now in
    let none = if_none _ _ c.in-None.is
    (first_from_find _ _ c.find.result (λ r. BeginsWith a (g.C.BitString.bits r.network)) (λ r. ¬ (BeginsWith a (g.C.BitString.bits r.network)))
    c.find.ensures.ran (YieldsList-from_slice c.args.rules.now cc) (λ x q k. search (rules, tests)) (λ x q k. search (rules, tests))) in
    (λ t. absurd (false≢true t), λ h. absurd (none_permits (λ r. g.C.BitString.bits r.network) (λ r. r.action) a c.args.rules.now none h))
