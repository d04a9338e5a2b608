use Rattle.std.proofs.Common.{ℕ, List, [], ◌∷◌, subst, arith}
use Rattle.cidr_lists.specs.Lists.{text_by}
use Rattle.cidr_lists.specs.declared.lines.HostBits.TheVariants.{Refused}
use Rattle.netset_commands.specs.Commands.{IsMadeOf}
use Rattle.netset_commands.specs.declared.commands.operations.Operation.TheVariants.{Merge}
use Rattle.netset_uses.proofs.Telling.{merged_twice}
use Rattle.netset_uses.proofs.runs.merge_twice.Goals as goal

pub returns : goal.returns
returns c =
    let first = c.in_ok-first.first.out.items in
    let second = c.in_ok-second.second.out.items in
    merged_twice c.merging_again_changes_nothing.ensures c.args.list.now first second
    (c.in_ok-first.ensures.printed (omega arith)).0
    (subst (λ (k : List ℕ). IsMadeOf Merge (text_by Refused k ∷ []) second) c.as_slice.ensures.value (c.in_ok-second.ensures.printed (omega arith)).0)
