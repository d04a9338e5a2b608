use Rattle.std.proofs.Common.{List, ℕ, inr, subst, ◌∙◌}
use Rattle.cidr_lists.specs.declared.lines.HostBits.{HostBits}
use Rattle.cidr_c.specs.calls.Calls.{IsPrintedInto}
use Rattle.cidr_c.specs.calls.Plans.{IsBadRow}
use Rattle.cidr_c.proofs.plans.pcidr_plan_message.Goals as goal

pub returns-in-Err : goal.returns-in-Err
returns-in-Err c =
    inr (
      c.in-Err.e,
      subst (λ (bits : HostBits). IsBadRow bits c.args.line.now c.in-Err.e) c.host_bits_by.ensures c.in-Err.ensures.row,
      c.line_code.ensures,
      c.print.result,
      subst (λ (told : List ℕ). IsPrintedInto told c.args.message.now c.print.new.out c.print.result)
          (c.as_str.ensures.value ∙ c.message.ensures) c.print.ensures,
    )
