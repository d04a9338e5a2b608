use Rattle.std.proofs.Common.{arith, subst, ℕ, ◌+◌, length}
use Rattle.cidr_lookup.specs.Keys.{key_networks}
use Rattle.cidr_lookup.proofs.Numbers.{length_networks}
use Rattle.cidr_lookup.specs.Tables.{HasTooManyWords}
use Rattle.cidr_lookup.proofs.Blocks.{few_blocks}
use Rattle.cidr_lookup.proofs.Tables.{too_large}
use Rattle.cidr_lookup.proofs.table.build.Goals as goal

pub returns-then-len-clause-refused : goal.returns-then-len-clause-refused
returns-then-len-clause-refused g c =
    let w = g.A.Address.width in
    let padding = g.A.Address.padding in
    let networks = key_networks g.A.Address.value c.args.keys.now in (
      omega (arith, c.in_ok-ranges.ensures.few, length_networks g.A.Address.value c.args.keys.now),
      c.in_ok-ranges.ensures.keys,
      subst (λ (n : ℕ). HasTooManyWords w padding n networks) c.steps_for-steps.ensures.own
          (too_large w padding c.steps_for-steps.result networks c.put_table.new.first.items c.put_table.new.words.items c.in-Ok-put_table.ensures.table
          (omega (arith, c.len.ensures, c.if-len.true, c.put_table.new.words.ok.0))),
    )

pub returns-in-Ok-put_table-clause-entries : goal.returns-in-Ok-put_table-clause-entries
returns-in-Ok-put_table-clause-entries g c =
    omega (
      arith,
      few_blocks c.steps_for-steps.result (g.A.Address.width + g.A.Address.padding) (length c.put_table.new.first.items) c.in-Ok-put_table.ensures.table.size c.steps_for-steps.ensures.some
          c.steps_for-steps.ensures.few,
    )
