use Rattle.std.proofs.Common.{◌∙◌, ap, inl, inr, refl, sym, Err}
use Rattle.std.proofs.lemmas.Result.{err_from_is_err_and}
use Rattle.netset_commands.specs.Rows.{kept}
use Rattle.netset_commands.specs.Fewest.{all_rows}
use Rattle.netset_commands.specs.declared.errors.CommandError.{CommandError}
use Rattle.netset_commands.proofs.FewestTold.{fewest_lines}
use Rattle.netset_commands.proofs.commands.smallest.tell_fewest.Goals as goal

pub returns-in_err-fewest : goal.returns-in_err-fewest
returns-in_err-fewest g c =
    let (y, is, same) = err_from_is_err_and c.from_residual.result c.from_residual.ensures.1 in
    inl (refl, c.in_err-fewest.ensures.refused, is ∙ ap (λ (e : CommandError). Err e) same)

pub returns : goal.returns
returns g c =
    let fewest = c.in_ok-fewest.fewest in
    inr (
      all_rows fewest,
      c.write_fewest.result,
      fewest_lines c.args.holes (kept c.args.table.now) fewest (rw (sym c.in_ok-fewest.ensures.made) at c.fewest_of-fewest.ensures.ascending)
          (rw (sym c.in_ok-fewest.ensures.made) at c.fewest_of-fewest.ensures.values) (rw (sym c.in_ok-fewest.ensures.made) at c.fewest_of-fewest.ensures.ipv4)
          (rw (sym c.in_ok-fewest.ensures.made) at c.fewest_of-fewest.ensures.ipv6),
      c.write_fewest.ensures,
      c.by_output.ensures,
    )
