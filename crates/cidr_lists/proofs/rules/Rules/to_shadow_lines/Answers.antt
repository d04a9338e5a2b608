use Rattle.cidr_lists.proofs.Shadows.{both_told}
use Rattle.cidr_lists.proofs.rules.Rules.to_shadow_lines.Goals as goal

pub returns : goal.returns
returns c =
    both_told c.args.file.now c.push_shown.new.text.items c.new-text.result.items c.push_shadows.new.text.items c.push_shadows-2.new.text.items c.args.self.now
    (rw c.new-name.ensures.items at c.in_ok-push_shown.ensures) c.new-text.ensures.items
    (rw (c.as_slice.ensures.value, c.as_slice-2.ensures.value) at c.in_ok-push_shadows.ensures)
    (rw (c.as_slice-3.ensures.value, c.as_slice-4.ensures.value) at c.in_ok-push_shadows-2.ensures)
