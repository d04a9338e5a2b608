use Rattle.std.proofs.Common.{None, Some, refl, sym, inl, inr}
use Rattle.netset_commands.proofs.LinesRead.{fits}
use Rattle.netset_commands.proofs.input.rows.add_row_line.Goals as goal

pub returns-then-is_too_long-clause-adds : goal.returns-then-is_too_long-clause-adds
returns-then-is_too_long-clause-adds g c = (refl, inl (refl, c.is_too_long.ensures.0 c.if-is_too_long.true))

pub returns-in-Ok-None-clause-adds : goal.returns-in-Ok-None-clause-adds
returns-in-Ok-None-clause-adds g c = (
  None,
  (fits c.args.line.now c.is_too_long.result c.is_too_long.ensures c.if-is_too_long.false, rw c.in-Ok-None.field-0-is at c.in-Ok-None.ensures),
  refl,
)

pub returns-in_ok-watch-in-Ok-Some-clause-adds : goal.returns-in_ok-watch-in-Ok-Some-clause-adds
returns-in_ok-watch-in-Ok-Some-clause-adds g c = (
  Some (c.in-Ok-Some.network, c.in-Ok-Some.value.now),
  (fits c.args.line.now c.is_too_long.result c.is_too_long.ensures c.if-is_too_long.false, rw (c.in-Ok-Some.field-0-is, c.host_bits.ensures) at c.in-Ok-Some.ensures),
  (rw (sym c.in_ok-watch-in-Ok-Some.ensures.made) at c.push-pushed.ensures),
)

pub returns-in-Err-clause-adds : goal.returns-in-Err-clause-adds
returns-in-Err-clause-adds g c =
    (refl, inr (fits c.args.line.now c.is_too_long.result c.is_too_long.ensures c.if-is_too_long.false, rw c.host_bits.ensures at c.in-Err.ensures))
