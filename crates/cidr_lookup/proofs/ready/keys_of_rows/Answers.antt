use Rattle.std.proofs.Common.{◌∙◌, ap, arith, List, take_all}
use Rattle.cidr_lookup.specs.Keys.{key_networks}
use Rattle.cidr_lookup.specs.Rows.{numbered_rows}
use Rattle.cidr_lookup.proofs.Networks.{one_fits, one_more}
use Rattle.cidr_lookup.proofs.ready.keys_of_rows.Goals as goal

pub loop-row-init : goal.loop-row-init
loop-row-init g c = record {
  networks = ap (key_networks g.C.Number.Address.value) c.in_ok-keys.ensures.items;
  fit = λ any i l. absurd (omega (arith, l));
}

pub loop-row-preserved : goal.loop-row-preserved
loop-row-preserved g c = record {
  networks =
      one_more g.C.Number.Address.width g.C.BitString.bits g.C.Number.Address.value c.args.rows.now c.loop-row.keys.items c.push.new.self.items c.loop-row.row-index
      c.row-item.result c.of.result c.in_ok-push.ensures.items c.loop-row-test.true c.row-item.is c.of.ensures.address c.of.ensures.len
      c.loop-row.invariant.networks;
  fit =
      one_fits g.C.Number.Address.width g.C.BitString.bits c.args.rows.now c.loop-row.row-index c.row-item.result c.loop-row-test.true c.row-item.is
      (omega (arith, c.of.ensures.len, c.of.ensures.fits)) c.loop-row.invariant.fit;
}

pub returns-clause-networks : goal.returns-clause-networks
returns-clause-networks g c =
    c.loop-row.invariant.networks
    ∙ ap (λ (xs : List (g.row.C.Denot × g.row.V.Denot)). numbered_rows g.C.BitString.bits g.C.Number.Address.width xs)
    (take_all c.loop-row.row-index c.args.rows.now c.loop-row-test.false)

pub returns-clause-fit : goal.returns-clause-fit
returns-clause-fit g c = λ any i l. c.loop-row.invariant.fit any i (omega (arith, l, c.loop-row-test.false))
