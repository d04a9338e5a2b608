use Rattle.std.proofs.Common.{ap, arith, ok_or, ℕ, [], Option}
use Rattle.netset_commands.specs.Arguments.{misuse_text}
use Rattle.netset_commands.specs.declared.errors.Misfit.TheVariants.{NoLength}
use Rattle.netset_commands.proofs.FieldNumbers.{number_none, number_some}
use Rattle.netset_commands.proofs.commands.arguments.length_by.Goals as goal

pub returns-in-Some : goal.returns-in-Some
returns-in-Some c =
    ap (λ (k : Option ℕ). ok_or k (misuse_text c.args.text.now NoLength [])) (number_some 129 c.args.text.now c.in-Some.len c.in-Some.ensures.0 (omega (arith, c.in-Some.ensures.1)))

pub returns-in-None : goal.returns-in-None
returns-in-None c =
    ap (λ (k : Option ℕ). ok_or k (misuse_text c.args.text.now NoLength [])) (number_none 129 c.args.text.now (λ n is. let long = c.in-None.ensures n is in omega (arith, long)))
