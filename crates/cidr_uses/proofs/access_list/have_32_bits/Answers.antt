use Rattle.std.proofs.Common.{◌≤◌, length, map, take, subst, arith}
use Rattle.std.proofs.lemmas.List.{take_all}
use Rattle.cidr_table.specs.model.Cover.{AreNetworks}
use Rattle.cidr_uses.proofs.AccessLists.{one_more}
use Rattle.cidr_uses.proofs.access_list.have_32_bits.Goals as goal

pub loop-rule-preserved : goal.loop-rule-preserved
loop-rule-preserved c =
    let l = c.loop-rule in
    one_more (λ r. r.network) (λ p. length p ≤ 32) c.args.rules.now l.rule-index c.rule-item.result c.loop-rule-test.true c.rule-item.is l.invariant
    (omega (arith, c.network_length.ensures.value, c.network_length.ensures.fits))

pub returns : goal.returns
returns c =
    let l = c.loop-rule in
    subst (λ rs. AreNetworks 32 (map (λ r. r.network) rs)) (take_all l.rule-index c.args.rules.now c.loop-rule-test.false) l.invariant
