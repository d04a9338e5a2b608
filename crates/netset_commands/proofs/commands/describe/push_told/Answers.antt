use Rattle.netset_commands.proofs.commands.describe.push_told.Goals as goal

pub returns-in-Zones : goal.returns-in-Zones
returns-in-Zones g c = rw c.in-Zones.is c.push_zones.ensures

pub returns-in-Masks : goal.returns-in-Masks
returns-in-Masks g c = rw c.in-Masks.is c.push_masks.ensures
