use Rattle.std.proofs.Common.{inl, inr, refl}
use Rattle.netset_commands.proofs.LinesRead.{fits}
use Rattle.netset_commands.proofs.commands.matching.first_long.Goals as goal

pub returns-in-Some : goal.returns-in-Some
returns-in-Some c = rw c.in-Some.is refl

pub returns-then-is_too_long : goal.returns-then-is_too_long
returns-then-is_too_long c = rw c.in-None.is (inl (c.is_too_long.ensures.0 c.if-is_too_long.true, refl))

pub returns-else-is_too_long : goal.returns-else-is_too_long
returns-else-is_too_long c =
    rw c.in-None.is (inr (fits c.args.line.now c.is_too_long.result c.is_too_long.ensures c.if-is_too_long.false, refl))
