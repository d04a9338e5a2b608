use Rattle.std.proofs.Common.{◌≡◌, length, map, sym, ap, subst, ◌∙◌}
use Rattle.cidr_lookup.specs.Keys.{key_networks}
use Rattle.cidr_lookup.specs.Tables.{IsTableRefused}
use Rattle.cidr_lookup.specs.declared.table.TableError.{TableError}
use Rattle.cidr_lookup.proofs.Numbers.{length_networks}
use Rattle.cidr_c.proofs.Checks.{not_built, refused_at}
use Rattle.cidr_c.proofs.tables.put_table.Goals as goal
use Rattle.cidr_c.proofs.tables.put_table.Goals.{in-Refused, in_default-error}

pub returns : goal.returns
returns g c =
    let w = g.A.Address.width in
    let padding = g.A.Address.padding in
    let steps_of = g.A.Address.steps in
    let networks = map g.A.FromValue.pair c.args.networks.now in
    let keys = c.as_slice.result.now in
    let value = g.A.Address.value in
    let same : key_networks value keys ≡ networks = ap (key_networks value) c.as_slice.ensures.value ∙ c.in-Ok.ensures in
    let size : length keys ≡ length networks = sym (length_networks value keys) ∙ ap length same in
    let refused : IsTableRefused w padding (steps_of (length networks)) networks c.in-Err.error = rw (sym size, sym same) c.in-Err.ensures.refused in
    let first = c.args.first.now in
    let words = c.args.words.now in
    elim c.match-error.branch [
      | in-Refused e ↦
          rw (c.table_error_code.ensures.value, e.error-is, e.sizes-is)
          (refused_at w padding steps_of networks first words c.args.sizes.now e.in-Refused.index
          (subst (λ (x : TableError). IsTableRefused w padding (steps_of (length networks)) networks x) e.in-Refused.is refused))
      | in_default-error e ↦
          rw (c.table_error_code.ensures.value, e.error-is, e.sizes-is)
          (not_built w padding steps_of networks first words c.args.sizes.now c.in-Err.error e.in_default-error.not-Refused refused)
    ]
