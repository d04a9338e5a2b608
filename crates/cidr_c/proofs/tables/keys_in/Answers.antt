use Rattle.std.proofs.Common.{ap, ◌∙◌}
use Rattle.cidr_lookup.specs.Keys.{key_networks}
use Rattle.cidr_c.proofs.TableRows.{keys_more}
use Rattle.cidr_c.proofs.tables.keys_in.Goals as goal

pub loop-value-preserved : goal.loop-value-preserved
loop-value-preserved g c =
    ap (key_networks g.A.Address.value) c.in_ok-push.ensures.items
    ∙ keys_more g.A.Address.value g.A.FromValue.pair c.args.values.now c.loop-value.value-index (record { high = 0; low = 0; tag = 0; zero_17 = 0; zero_18 = 0; zero_20 = 0 }) c.loop-value.keys.items
    c.key_in.result c.loop-value-test.true c.loop-value.invariant c.key_in.ensures.address c.key_in.ensures.len
