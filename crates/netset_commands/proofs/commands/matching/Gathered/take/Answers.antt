use Rattle.std.proofs.Common.{◌&&◌, ◌==◌, ◌∙◌, sym}
use Rattle.netset_commands.specs.Gathering.{label_of}
use Rattle.netset_commands.specs.Picking.{PicksOf}
use Rattle.cidr_lists.specs.Sets.{IsInSets}
use Rattle.netset_commands.proofs.Matched.{header_here, takes_empty, takes_header, takes_lost, takes_passed, takes_picked}
use Rattle.netset_commands.proofs.commands.matching.Gathered.take.Goals as goal

pub returns-then-not-is_line : goal.returns-then-not-is_line
returns-then-not-is_line g c =
    takes_empty (PicksOf c.args.matcher.now.picking (IsInSets c.args.matcher.now.sets.now)) (label_of c.args.matcher.now.name) c.args.matcher.now.picking.written c.args.file.now c.args.number (c.args.matcher.now.picking.headed && (c.args.number == 1)) c.args.part.now
    c.args.has_more (g.S.Sink.state c.args.out.now) c.args.self.now (c.is_line.ensures.none c.if-not-is_line.true)

pub returns-then-is_header : goal.returns-then-is_header
returns-then-is_header g c =
    let here = sym c.is_header.ensures ∙ c.if-is_header.true in
    takes_header (PicksOf c.args.matcher.now.picking (IsInSets c.args.matcher.now.sets.now)) (label_of c.args.matcher.now.name) c.args.matcher.now.picking.written c.args.file.now c.args.number (c.args.matcher.now.picking.headed && (c.args.number == 1)) c.args.part.now
    c.args.has_more (g.S.Sink.state c.args.out.now) (g.S.Sink.state c.take_header.new.out) c.args.self.now c.take_header.new.self c.take_header.result here
    ((header_here c.args.matcher.now.picking.headed c.args.number).0 here).1 (c.is_line.ensures.line c.if-not-is_line.false) c.take_header.ensures

pub returns-in-Ok : goal.returns-in-Ok
returns-in-Ok g c =
    takes_picked (PicksOf c.args.matcher.now.picking (IsInSets c.args.matcher.now.sets.now)) (label_of c.args.matcher.now.name) c.args.matcher.now.picking.written c.args.file.now c.args.number (c.args.matcher.now.picking.headed && (c.args.number == 1)) (sym c.is_header.ensures ∙ c.if-is_header.false) c.args.part.now
    c.args.has_more (g.S.Sink.state c.args.out.now) (g.S.Sink.state c.push.new.out) c.args.self.now c.push.new.self (c.is_line.ensures.line c.if-not-is_line.false)
    (rw c.in-Ok-true.field-0-test at c.in-Ok-true.ensures) c.in-Ok.ensures.count c.in-Ok.ensures.collects

pub returns-in-Ok-false : goal.returns-in-Ok-false
returns-in-Ok-false g c =
    takes_passed (PicksOf c.args.matcher.now.picking (IsInSets c.args.matcher.now.sets.now)) (label_of c.args.matcher.now.name) c.args.matcher.now.picking.written c.args.file.now c.args.number (c.args.matcher.now.picking.headed && (c.args.number == 1)) (sym c.is_header.ensures ∙ c.if-is_header.false) c.args.part.now
    c.args.has_more (g.S.Sink.state c.args.out.now) c.args.self.now (c.is_line.ensures.line c.if-not-is_line.false)
    (rw c.in-Ok-false.field-0-test at c.in-Ok-false.ensures)

pub returns-in-Err-push : goal.returns-in-Err-push
returns-in-Err-push g c =
    takes_lost (PicksOf c.args.matcher.now.picking (IsInSets c.args.matcher.now.sets.now)) (label_of c.args.matcher.now.name) c.args.matcher.now.picking.written c.args.file.now c.args.number (c.args.matcher.now.picking.headed && (c.args.number == 1)) (sym c.is_header.ensures ∙ c.if-is_header.false) c.args.part.now
    c.args.has_more (g.S.Sink.state c.args.out.now) (g.S.Sink.state c.push.new.out) c.args.self.now c.push.new.self (c.is_line.ensures.line c.if-not-is_line.false)
    (rw c.in-Ok-true.field-0-test at c.in-Ok-true.ensures) c.in-Err-push.ensures.collects
