use Rattle.std.specs.List.{flat_map}
use Rattle.std.proofs.lemmas.Result.{err_from_is_err_and}
use Rattle.cidr.specs.declared.family.Family.TheVariants.{Ipv4, Ipv6}
use Rattle.cidr.specs.texts.Printed.{forced_text}
use Rattle.cidr_io.proofs.Collected.{collected_more}
use Rattle.netset_commands.specs.Fewest.{told_row}
use Rattle.netset_commands.proofs.Pages.{page_lost}
use Rattle.netset_commands.proofs.commands.smallest.push_fewest.Goals as goal

pub returns-in_err-push_rows : goal.returns-in_err-push_rows
returns-in_err-push_rows g c =
    let (y, is, same) = err_from_is_err_and c.from_residual.result c.from_residual.ensures.1 in
    let fewest = c.args.fewest.now in
    page_lost (g.S.Sink.state c.args.out.now) (g.S.Sink.state c.push_rows.new.out) c.args.block.now c.push_rows.new.block
    (flat_map (told_row (forced_text Ipv4) fewest.numbers) fewest.v4.items) (flat_map (told_row (forced_text Ipv6) fewest.numbers) fewest.v6.items) c.from_residual.result y is
    (rw c.as_slice.ensures.value at c.in_err-push_rows.ensures)

pub returns : goal.returns
returns g c =
    let fewest = c.args.fewest.now in
    collected_more (g.S.Sink.state c.args.out.now) (g.S.Sink.state c.push_rows.new.out) (g.S.Sink.state c.push_rows-2.new.out)
    c.args.block.now c.push_rows.new.block c.push_rows-2.new.block
    (flat_map (told_row (forced_text Ipv4) fewest.numbers) fewest.v4.items) (flat_map (told_row (forced_text Ipv6) fewest.numbers) fewest.v6.items) c.push_rows-2.result
    (rw c.as_slice.ensures.value at c.in_ok-push_rows.ensures) (rw c.as_slice-2.ensures.value at c.push_rows-2.ensures)
