use Rattle.std.proofs.lemmas.Result.{err_from_is_err_and}
use Rattle.cidr_io.proofs.Collected.{all_collected, none_collected, part_collected, part_lost}
use Rattle.cidr.specs.texts.Printed.{forced_text}
use Rattle.netset_commands.specs.Fewest.{told_row}
use Rattle.netset_commands.proofs.commands.smallest.push_rows.Goals as goal

pub loop-row-init : goal.loop-row-init
loop-row-init g c = none_collected (g.S.Sink.state c.args.out.now) c.args.block.now

pub loop-row-preserved : goal.loop-row-preserved
loop-row-preserved g c =
    part_collected (told_row (λ p. forced_text g.C.FamilyCidr.FAMILY (g.C.BitString.bits p)) c.args.numbers.now) (g.S.Sink.state c.args.out.now) (g.S.Sink.state c.loop-row.out) (g.S.Sink.state c.push_row.new.out) c.args.block.now
    c.loop-row.block c.push_row.new.block c.args.rows.now c.loop-row.row-index c.row-item.result c.loop-row-test.true c.loop-row.invariant
    (rw (c.to_text_with_length.ensures.text, c.told_value.ensures, c.row-item.is) at c.in_ok-push_row.ensures)

pub returns-in_err-push_row : goal.returns-in_err-push_row
returns-in_err-push_row g c =
    let (y, is, same) = err_from_is_err_and c.from_residual.result c.from_residual.ensures.1 in
    part_lost (told_row (λ p. forced_text g.C.FamilyCidr.FAMILY (g.C.BitString.bits p)) c.args.numbers.now) (g.S.Sink.state c.args.out.now) (g.S.Sink.state c.loop-row.out) (g.S.Sink.state c.push_row.new.out) c.args.block.now
    c.loop-row.block c.push_row.new.block c.args.rows.now c.loop-row.row-index c.row-item.result c.from_residual.result y is c.loop-row-test.true
    c.loop-row.invariant (rw (c.to_text_with_length.ensures.text, c.told_value.ensures, c.row-item.is) at c.in_err-push_row.ensures)

pub returns : goal.returns
returns g c =
    all_collected (told_row (λ p. forced_text g.C.FamilyCidr.FAMILY (g.C.BitString.bits p)) c.args.numbers.now) (g.S.Sink.state c.args.out.now) (g.S.Sink.state c.loop-row.out) c.args.block.now c.loop-row.block c.args.rows.now
    c.loop-row.row-index c.loop-row-test.false c.loop-row.invariant
