use Rattle.std.proofs.Common.{None, Some, refl, sym, inl, inr}
use Rattle.std.proofs.lemmas.List.{append-nil}
use Rattle.netset_commands.proofs.LinesRead.{fits}
use Rattle.netset_commands.proofs.input.entries.add_entry_line.Goals as goal

pub returns-then-is_too_long-clause-adds : goal.returns-then-is_too_long-clause-adds
returns-then-is_too_long-clause-adds g c = (refl, inl (refl, c.is_too_long.ensures.0 c.if-is_too_long.true))

pub returns-in_ok-push-in-Ok-Some-clause-adds : goal.returns-in_ok-push-in-Ok-Some-clause-adds
returns-in_ok-push-in-Ok-Some-clause-adds g c =
    (Some c.in-Ok-Some.entry, (fits c.args.line.now c.is_too_long.result c.is_too_long.ensures c.if-is_too_long.false, rw c.in-Ok-Some.field-0-is at c.in-Ok-Some.ensures), c.in_ok-push-in-Ok-Some.ensures.pushed)

pub returns-in-Ok-None-clause-adds : goal.returns-in-Ok-None-clause-adds
returns-in-Ok-None-clause-adds g c =
    (None, (fits c.args.line.now c.is_too_long.result c.is_too_long.ensures c.if-is_too_long.false, rw c.in-Ok-None.field-0-is at c.in-Ok-None.ensures), sym (append-nil c.args.entries.now.items))

pub returns-in-Err-clause-adds : goal.returns-in-Err-clause-adds
returns-in-Err-clause-adds g c = (refl, inr (fits c.args.line.now c.is_too_long.result c.is_too_long.ensures c.if-is_too_long.false, c.in-Err.ensures))
