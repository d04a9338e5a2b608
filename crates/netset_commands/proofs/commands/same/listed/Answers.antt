use Rattle.std.proofs.Common.{map}
use Rattle.cidr.specs.model.Network.{width_of}
use Rattle.cidr_lists.specs.Tables.{resolved}
use Rattle.netset_commands.proofs.Compared.{are_found}
use Rattle.netset_commands.proofs.Families.{narrow}
use Rattle.netset_commands.proofs.commands.same.listed.Goals as goal

pub returns : goal.returns
returns g c =
    are_found g.C.BitString.bits (width_of g.C.FamilyCidr.FAMILY) c.args.numbers.now (map (resolved c.args.old_values.now) c.args.old.now.rows)
    (map (resolved c.args.new_values.now) c.args.new.now.rows) c.in_ok-before.before.rows c.in_ok-after.after.rows c.differences.result (narrow g.C.FamilyCidr.FAMILY)
    c.in_ok-before.ensures.fit c.in_ok-after.ensures.fit c.in_ok-before.ensures.rows c.in_ok-after.ensures.rows c.differences.ensures.width c.differences.ensures.kept
