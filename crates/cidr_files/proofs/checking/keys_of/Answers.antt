use Rattle.std.proofs.Common.{◌∙◌, ap, arith, map, take_all}
use Rattle.std.proofs.lemmas.List.{length-map}
use Rattle.std.proofs.lemmas.Slice.Zip.{length-zip}
use Rattle.std.specs.List.{zip}
use Rattle.cidr_lookup.specs.Keys.{key_networks}
use Rattle.cidr_files.proofs.KeyRows.{keys_more}
use Rattle.cidr_files.proofs.checking.keys_of.Goals as goal

pub loop-i-preserved : goal.loop-i-preserved
loop-i-preserved g c =
    let i = c.loop-i.i in
    let read = c.index-addresses-i in
    ap (key_networks g.W.Address.value) c.in_ok-push.ensures.items
    ∙ keys_more g.W.Address.value c.args.addresses.now c.args.lengths.now i read.result c.loop-i.keys.items
    (record { address = read.result; len = c.from.result }) (omega (arith, c.min-count.ensures)) (omega (arith, c.min-count.ensures)) c.loop-i.invariant read.is c.from.ensures

pub returns : goal.returns
returns g c =
    let numbers = map g.W.Address.value c.args.addresses.now in
    c.loop-i.invariant
    ∙ take_all c.loop-i.i (zip numbers c.args.lengths.now)
    (omega (arith, length-zip numbers c.args.lengths.now, length-map c.args.addresses.now g.W.Address.value, c.min-count.ensures))
