use Rattle.netset_commands.proofs.commands.describe.push_masks.Goals as goal

pub returns : goal.returns
returns g c = rw (c.as_bytes.ensures.value, c.as_str.ensures.value, c.mask_line.ensures) at c.push.ensures
