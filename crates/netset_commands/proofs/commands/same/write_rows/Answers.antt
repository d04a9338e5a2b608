use Rattle.std.proofs.lemmas.Result.{err_from_is_err_and}
use Rattle.cidr.specs.texts.Printed.{plain_text}
use Rattle.netset_commands.specs.Compared.{named}
use Rattle.netset_commands.specs.Same.{value_lines}
use Rattle.netset_commands.proofs.WrittenLines.{walk_started, walked_at, walk_lost_at, walk_ended_at}
use Rattle.netset_commands.proofs.commands.same.write_rows.Goals as goal

pub loop-row-init : goal.loop-row-init
loop-row-init g c = walk_started (λ row. value_lines (plain_text g.C.FamilyCidr.FAMILY (g.C.BitString.bits row.0)) (named c.args.numbers.now row.1)) c.args.rows.now (g.S.Sink.state c.args.out.now) c.new-block.result c.new-block.ensures

pub loop-row-preserved : goal.loop-row-preserved
loop-row-preserved g c =
    walked_at (λ row. value_lines (plain_text g.C.FamilyCidr.FAMILY (g.C.BitString.bits row.0)) (named c.args.numbers.now row.1)) c.args.rows.now c.loop-row.row-index (g.S.Sink.state c.args.out.now)
    (g.S.Sink.state c.loop-row.out) (g.S.Sink.state c.push_differences.new.out) c.loop-row.block c.push_differences.new.block c.row-item.result
    c.loop-row-test.true c.row-item.is c.loop-row.invariant c.in_ok-push_differences.ensures

pub returns-in_err-push_differences : goal.returns-in_err-push_differences
returns-in_err-push_differences g c =
    let (y, is, same) = err_from_is_err_and c.from_residual.result c.from_residual.ensures.1 in
    walk_lost_at (λ row. value_lines (plain_text g.C.FamilyCidr.FAMILY (g.C.BitString.bits row.0)) (named c.args.numbers.now row.1)) c.args.rows.now c.loop-row.row-index (g.S.Sink.state c.args.out.now)
    (g.S.Sink.state c.loop-row.out) (g.S.Sink.state c.push_differences.new.out) c.loop-row.block c.push_differences.new.block c.row-item.result
    c.from_residual.result y is c.loop-row-test.true c.row-item.is c.loop-row.invariant c.in_err-push_differences.ensures

pub returns : goal.returns
returns g c =
    walk_ended_at (λ row. value_lines (plain_text g.C.FamilyCidr.FAMILY (g.C.BitString.bits row.0)) (named c.args.numbers.now row.1)) c.args.rows.now c.loop-row.row-index (g.S.Sink.state c.args.out.now)
    (g.S.Sink.state c.loop-row.out) (g.S.Sink.state c.write.new.out) c.loop-row.block c.loop-row.block c.write.result
    c.loop-row-test.false c.loop-row.invariant c.write.ensures.writes
