use Rattle.std.proofs.Common.{◌/◌, ◌%◌, ℕ, List, [], ◌∷◌, ◌++◌, ap, ◌∙◌}
use Rattle.std.specs.Char.{digit_char}
use Rattle.cidr_c.proofs.GroupDigits.{by_octets}
use Rattle.cidr_c.proofs.exploded.push_group.Goals as goal

pub returns-clause-bytes : goal.returns-clause-bytes
returns-clause-bytes c =
    c.push_octet-2.ensures.bytes ∙ ap (λ (t : List ℕ). t ++ digit_char (c.args.group % 256 / 16) ∷ digit_char (c.args.group % 256 % 16) ∷ []) c.push_octet.ensures.bytes
    ∙ by_octets c.args.group c.args.text.now.items
