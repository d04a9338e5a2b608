use Rattle.std.proofs.Common.{[], ◌∷◌}
use Rattle.std.specs.List.{concat, flat_map}
use Rattle.std.proofs.lemmas.Result.{err_from_is_err_and}
use Rattle.cidr_io.proofs.Collected.{collected_more}
use Rattle.netset_commands.specs.Table.{about_of, commands}
use Rattle.netset_commands.specs.declared.commands.table.TheConstants.{OPTIONS, HOST_BITS, KEEP_GOING, SKIP_BAD, FORMS, TABLE_SEPARATOR, FORMAT, OUTPUT, LISTS}
use Rattle.netset_commands.proofs.Pages.{page_lost}
use Rattle.netset_commands.proofs.commands.help.push_page.Goals as goal

pub returns-in_err-push_abouts : goal.returns-in_err-push_abouts
returns-in_err-push_abouts g c =
    let (y, is, same) = err_from_is_err_and c.from_residual.result c.from_residual.ensures.1 in
    page_lost (g.S.Sink.state c.args.out.now) (g.S.Sink.state c.push_abouts.new.out) c.args.block.now c.push_abouts.new.block
    (flat_map about_of commands) (concat (OPTIONS.now ∷ HOST_BITS.now ∷ KEEP_GOING.now ∷ SKIP_BAD.now ∷ FORMS.now ∷ TABLE_SEPARATOR.now ∷ FORMAT.now ∷ OUTPUT.now ∷ LISTS.now ∷ [])) c.from_residual.result y is
    (rw c.commands.ensures at c.in_err-push_abouts.ensures)

pub returns : goal.returns
returns g c =
    collected_more (g.S.Sink.state c.args.out.now) (g.S.Sink.state c.push_abouts.new.out) (g.S.Sink.state c.push_texts.new.out)
    c.args.block.now c.push_abouts.new.block c.push_texts.new.block
    (flat_map about_of commands) (concat (OPTIONS.now ∷ HOST_BITS.now ∷ KEEP_GOING.now ∷ SKIP_BAD.now ∷ FORMS.now ∷ TABLE_SEPARATOR.now ∷ FORMAT.now ∷ OUTPUT.now ∷ LISTS.now ∷ [])) c.push_texts.result
    (rw c.commands.ensures at c.in_ok-push_abouts.ensures) c.push_texts.ensures
