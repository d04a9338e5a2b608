use Rattle.std.proofs.Common.{◌≡◌, ◌∙◌, ap, arith, ◌+◌, length}
use Rattle.std.proofs.lemmas.List.{length-append}
use Rattle.cidr_files.specs.Contents.{head_of}
use Rattle.cidr_files.specs.Spelling.{length-spelled, length-word_bytes, word_bytes}
use Rattle.cidr_files.specs.Written.{spelled}
use Rattle.cidr_files.proofs.writing.put_head.Goals as goal

pub returns-clause-aligned : goal.returns-clause-aligned
returns-clause-aligned c =
    let head = head_of c.args.ipv4.now c.args.ipv6.now in
    let old = c.args.out.now.items in
    let size : length c.put_words.new.out.items ≡ length old + 64 =
    ap length c.in_ok-put_words.ensures
    ∙ (length-append old (spelled word_bytes head) ∙ ap (λ n. length old + n) (length-spelled word_bytes 4 length-word_bytes head)) in
    omega (arith, size)
