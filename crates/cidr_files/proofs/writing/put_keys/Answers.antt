use Rattle.std.proofs.Common.{◌∙◌, ap, arith, ◌++◌, take_all}
use Rattle.cidr_files.specs.Contents.{key_addresses}
use Rattle.cidr_files.specs.Written.{spelled}
use Rattle.cidr_files.proofs.Putting.{none_put, number_more}
use Rattle.cidr_files.proofs.writing.put_keys.Goals as goal

pub loop-i-init : goal.loop-i-init
loop-i-init g c = none_put g.W.FileAddress.bytes_of c.args.out.now.items

pub loop-i-preserved : goal.loop-i-preserved
loop-i-preserved g c =
    let bytes = g.W.FileAddress.bytes_of in
    let value = g.W.Address.value in
    let read = c.index-keys-i in
    number_more bytes (λ key. value key.address) c.args.keys.now c.loop-i.i read.result c.args.out.now.items c.loop-i.out.items c.put.new.out.items
    (bytes c.number.result) (omega arith) c.loop-i.invariant c.in_ok-put.ensures (ap bytes c.number.ensures.value)

pub returns : goal.returns
returns g c =
    c.loop-i.invariant
    ∙ ap (λ keys. c.args.out.now.items ++ spelled g.W.FileAddress.bytes_of (key_addresses g.W.Address.value keys)) (take_all c.loop-i.i c.args.keys.now (omega arith))
