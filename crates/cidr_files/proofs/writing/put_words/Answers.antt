use Rattle.std.proofs.Common.{◌∙◌, ap, arith, ◌++◌, take_all}
use Rattle.cidr_files.specs.Spelling.{word_bytes}
use Rattle.cidr_files.specs.Written.{spelled}
use Rattle.cidr_files.proofs.Putting.{none_put, word_more}
use Rattle.cidr_files.proofs.writing.put_words.Goals as goal

pub loop-i-init : goal.loop-i-init
loop-i-init c = none_put word_bytes c.args.out.now.items

pub loop-i-preserved : goal.loop-i-preserved
unfolding word_bytes
loop-i-preserved c =
    word_more word_bytes c.args.words.now c.loop-i.i c.args.out.now.items c.loop-i.out.items c.extend_from_slice.new.self.items c.to_le_bytes.result
    (omega arith) c.loop-i.invariant c.in_ok-extend_from_slice.ensures.items c.to_le_bytes.ensures

pub returns : goal.returns
returns c =
    c.loop-i.invariant ∙ ap (λ words. c.args.out.now.items ++ spelled word_bytes words) (take_all c.loop-i.i c.args.words.now (omega arith))
