use Rattle.std.proofs.Common.{◌∙◌}
use Rattle.cidr_lists.proofs.Shadows.{tells_shadows}
use Rattle.cidr_lists.proofs.rules.push_shadows.Goals as goal

pub returns : goal.returns
returns g c =
    tells_shadows g.C.BitString.bits c.args.file.now c.args.rules.now c.as_slice.result.now c.in_ok-shadows.shadows.items c.args.text.now.items
    c.push_each.new.text.items (c.as_slice.ensures.value ∙ c.in_ok-plain.ensures) c.in_ok-shadows.ensures.rules c.in_ok-shadows.ensures.ascending
    c.in_ok-shadows.ensures.by (rw c.as_slice-2.ensures.value at c.in_ok-push_each.ensures)
