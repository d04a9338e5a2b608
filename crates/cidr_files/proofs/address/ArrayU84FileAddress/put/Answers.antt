use Rattle.std.proofs.Common.{◌∙◌, ap, ◌++◌}
use Rattle.cidr_files.specs.Spelling.{word_bytes}
use Rattle.cidr_files.proofs.address.ArrayU84FileAddress.put.Goals as goal

pub returns : goal.returns
unfolding word_bytes
returns c = c.in_ok-extend_from_slice.ensures.items ∙ ap (λ xs. c.args.out.now.items ++ xs) c.to_le_bytes.ensures
