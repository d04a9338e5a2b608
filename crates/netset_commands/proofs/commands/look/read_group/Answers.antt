use Rattle.std.proofs.Common.{subst, List, ℕ}
use Rattle.netset_commands.specs.LookUps.{LineAsks}
use Rattle.netset_commands.proofs.Asked.{asked_all, asked_on}
use Rattle.netset_commands.proofs.commands.look.read_group.Goals as goal

pub returns-then-not-has_more-clause-asks : goal.returns-then-not-has_more-clause-asks
returns-then-not-has_more-clause-asks g c =
    let (one, says, new) = (rw c.in_default.is at c.ask_line.ensures) in
    asked_all c.args.place c.args.first c.args.reader.now.left c.loop-number.reader.left c.read_line.new.self.left c.loop-number.asked.items c.ask_line.new.asked.items
    c.loop-number.number c.read_line.new.self.line c.in_ok-has_more.has_more one c.if-not-has_more.true c.loop-number.invariant c.in_ok-has_more.ensures.line
    (subst (λ (k : List ℕ). LineAsks c.args.place k one) c.line.ensures says) new

pub loop-number-preserved : goal.loop-number-preserved
loop-number-preserved g c =
    let (one, says, new) = (rw c.in_default.is at c.ask_line.ensures) in
    asked_on c.args.place c.args.first c.args.reader.now.left c.loop-number.reader.left c.read_line.new.self.left c.loop-number.asked.items c.ask_line.new.asked.items
    c.loop-number.number c.read_line.new.self.line c.in_ok-has_more.has_more one c.if-not-has_more.false c.loop-number.invariant c.in_ok-has_more.ensures.line
    (subst (λ (k : List ℕ). LineAsks c.args.place k one) c.line.ensures says) new
