use Rattle.std.proofs.Common.{◌≡◌, ◌≤◌, take}
use Rattle.std.specs.List.{count_by}
use Rattle.netset_commands.specs.Commands.{input_name}
use Rattle.netset_commands.specs.Matching.{is_word}
use Rattle.netset_commands.proofs.commands.input_count.Given as goal

abbrev pub invariant-loop-file : goal.invariant-loop-file
invariant-loop-file l =
    (l.count ≡ count_by (λ w. is_word input_name w.now) (take l.file-index l.files)) × (l.count ≤ l.file-index)
