use Rattle.std.proofs.Common.{None, arith}
use Rattle.std.proofs.lemmas.Str.Pattern.{split_parts}
use Rattle.netset_commands.proofs.Parts.{no_equals, without_equals}
use Rattle.netset_commands.proofs.commands.arguments.value_in.Goals as goal

pub returns-in_err-name : goal.returns-in_err-name
returns-in_err-name c =
    let lacks = split_parts 61 c.args.word.now None c.in_err-name.ensures.cases (omega arith) in
    rw c.from_residual.ensures (no_equals c.args.command c.args.word.now (without_equals c.args.word.now lacks))
