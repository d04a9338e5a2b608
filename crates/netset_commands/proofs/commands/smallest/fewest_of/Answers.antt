use Rattle.netset_commands.proofs.FewestTold.{of_numbers}
use Rattle.netset_commands.proofs.commands.smallest.fewest_of.Goals as goal

pub returns-clause-ipv4 : goal.returns-clause-ipv4
returns-clause-ipv4 c =
    of_numbers c.args.holes 32 c.in_ok-ipv4.ipv4.rows _ c.in_ok-v4.v4.items (rw c.as_slice-all.ensures.value at c.in_ok-ipv4.ensures.rows) c.in_ok-v4.ensures

pub returns-clause-ipv6 : goal.returns-clause-ipv6
returns-clause-ipv6 c =
    of_numbers c.args.holes 128 c.in_ok-ipv6.ipv6.rows _ c.in_ok-v6.v6.items (rw c.as_slice-all.ensures.value at c.in_ok-ipv6.ensures.rows) c.in_ok-v6.ensures
