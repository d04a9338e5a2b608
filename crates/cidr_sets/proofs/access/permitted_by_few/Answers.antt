use Rattle.std.proofs.Common.{◌≡◌, map, drop, subst, arith}
use Rattle.cidr_sets.specs.model.Sets.{IsSetOf}
use Rattle.cidr_sets.specs.model.FirstRules.{IsPermitted}
use Rattle.cidr_sets.proofs.FirstRules.{permitted_more, denied_more}
use Rattle.cidr_sets.proofs.access.permitted_by_few.Goals as goal

pub loop-i-preserved-in-Continue-1 : goal.loop-i-preserved-in-Continue-1
loop-i-preserved-in-Continue-1 g c =
    let f = g.C.BitString.bits in
    let l = c.loop-i in
    let r = c.index-rules-i.result in
    permitted_more (λ x. f x.network) (λ x. x.action) c.args.rules.now l.i r c.loop-i-test.true l.auto.i c.index-rules-i.is
    (map f l.set) (map f c.insert.new.self) l.invariant c.in-Permit.is c.in_ok-insert-in-Permit.ensures.ok

pub loop-i-preserved : goal.loop-i-preserved
loop-i-preserved g c =
    let f = g.C.BitString.bits in
    let l = c.loop-i in
    let r = c.index-rules-i.result in
    denied_more (λ x. f x.network) (λ x. x.action) c.args.rules.now l.i r c.loop-i-test.true l.auto.i c.index-rules-i.is
    (map f l.set) (map f c.remove.new.self) l.invariant c.in-Deny.is c.in_ok-remove-in-Deny.ensures.ok

pub returns : goal.returns
returns g c =
    let f = g.C.BitString.bits in
    let l = c.loop-i in
    let xs = c.args.rules.now in
    let none : l.i ≡ 0 = omega (arith, c.loop-i-test.false) in
    subst (λ n. IsSetOf 129 (IsPermitted (map (λ r. f r.network) (drop n xs)) (map (λ r. r.action) (drop n xs))) (map f l.set)) none l.invariant
