use Rattle.std.proofs.Common.{arith}
use Rattle.std.proofs.lemmas.Result.{err_from_is_err_and}
use Rattle.netset_commands.specs.Command.{given}
use Rattle.netset_commands.proofs.Values.{at_end, at_refused, at_taken}
use Rattle.netset_commands.proofs.commands.arguments.option_value.Goals as goal

pub returns : goal.returns
returns c =
    at_end c.args.command c.args.name.now c.args.values.now c.loop-at.at (given c.loop-at.found) c.loop-at.invariant.1
    (omega (arith, c.loop-at-test.false, c.loop-at.invariant.0))

pub loop-at-preserved : goal.loop-at-preserved
loop-at-preserved c = (
  omega (arith, c.loop-at-test.true, c.loop-at.invariant.0),
  at_taken c.args.command c.args.name.now c.args.values.now c.loop-at.at (given c.loop-at.found) c.loop-at.invariant.1
      (omega (arith, c.loop-at-test.true, c.loop-at.invariant.0)) _ _ (given c.in_ok-found.found) c.in_ok-found.ensures,
)

pub returns-in_err-found : goal.returns-in_err-found
returns-in_err-found c =
    let (y, is, same) = err_from_is_err_and c.from_residual.result c.from_residual.ensures.1 in
    rw (is, same) (at_refused c.args.command c.args.name.now c.args.values.now c.loop-at.at (given c.loop-at.found) c.loop-at.invariant.1
    (omega (arith, c.loop-at-test.true, c.loop-at.invariant.0)) _ _ _ c.in_err-found.ensures)
