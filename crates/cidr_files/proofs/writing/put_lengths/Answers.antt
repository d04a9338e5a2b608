use Rattle.std.proofs.Common.{refl, sym, ◌∙◌, ap, arith, ◌++◌, get_or, take_all}
use Rattle.std.proofs.lemmas.List.{append-nil}
use Rattle.cidr_files.specs.Contents.{lengths_of}
use Rattle.cidr_files.proofs.KeyRows.{length_at}
use Rattle.cidr_files.proofs.Putting.{length_more}
use Rattle.cidr_files.proofs.writing.put_lengths.Goals as goal

pub loop-i-init : goal.loop-i-init
loop-i-init g c = sym (append-nil c.args.out.now.items)

pub loop-i-preserved : goal.loop-i-preserved
loop-i-preserved g c =
    let read = c.index-keys-i in
    length_more (λ key. key.len) c.args.keys.now c.loop-i.i read.result c.args.out.now.items c.loop-i.out.items c.push.new.self.items (get_or c.args.keys.now c.loop-i.i read.result).len
    (omega arith) c.loop-i.invariant c.in_ok-push.ensures.items refl

pub returns : goal.returns
returns g c =
    c.loop-i.invariant ∙ ap (λ keys. c.args.out.now.items ++ lengths_of keys) (take_all c.loop-i.i c.args.keys.now (omega arith))

pub overflow_cast-keys : goal.overflow_cast-keys
overflow_cast-keys g c =
    let i = c.loop-i.i in
    let here = length_at c.args.keys.now i c.index-keys-i.result (omega arith) in
    omega (arith, here.1, c.requires i here.0)
