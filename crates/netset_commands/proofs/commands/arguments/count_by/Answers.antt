use Rattle.std.proofs.Common.{ap, ok_or, ℕ, ◌^◌, [], Option}
use Rattle.netset_commands.specs.Arguments.{misuse_text}
use Rattle.netset_commands.specs.declared.errors.Misfit.TheVariants.{NoCount}
use Rattle.netset_commands.proofs.FieldNumbers.{number_none, number_some}
use Rattle.netset_commands.proofs.commands.arguments.count_by.Goals as goal

pub returns-in-Some : goal.returns-in-Some
returns-in-Some c = ap (λ (k : Option ℕ). ok_or k (misuse_text c.args.text.now NoCount [])) (number_some (2 ^ 64) c.args.text.now c.in-Some.count c.in-Some.ensures.0 c.in-Some.ensures.1)

pub returns-in-None : goal.returns-in-None
returns-in-None c = ap (λ (k : Option ℕ). ok_or k (misuse_text c.args.text.now NoCount [])) (number_none (2 ^ 64) c.args.text.now c.in-None.ensures)
