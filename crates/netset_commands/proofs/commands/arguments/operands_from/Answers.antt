use Rattle.std.proofs.Common.{Bor, List, ℕ, ap, sym, ◌∙◌}
use Rattle.std.specs.List.{drop-map}
use Rattle.std.proofs.lemmas.List.{take_rest}
use Rattle.netset_commands.specs.Table.{texts}
use Rattle.netset_commands.proofs.commands.arguments.operands_from.Goals as goal

pub returns-then-index-operands : goal.returns-then-index-operands
returns-then-index-operands c =
    ap texts (take_rest c.args.operands.now c.args.index) ∙ sym (drop-map (λ (word : Bor (List ℕ)). word.now) c.args.index c.args.operands.now)
