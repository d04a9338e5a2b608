use Rattle.cidr.specs.declared.family.Family.TheVariants.{Ipv4, Ipv6}
use Rattle.netset_commands.specs.Rows.{kept}
use Rattle.netset_commands.proofs.Compared.{family_differences}
use Rattle.netset_commands.proofs.commands.same.compare.Goals as goal

pub returns : goal.returns
returns c Ipv4 =
    let made = c.in_ok-numbers.ensures in
    family_differences c.in_ok-numbers.numbers made.ascending (kept c.args.old.now Ipv4) (kept c.args.new.now Ipv4) c.in_ok-v4.v4.items (made.values Ipv4) (made.others Ipv4) 32
    (rw (c.as_slice-old_values.ensures.value, c.as_slice-new_values.ensures.value) at c.in_ok-v4.ensures)
returns c Ipv6 =
    let made = c.in_ok-numbers.ensures in
    family_differences c.in_ok-numbers.numbers made.ascending (kept c.args.old.now Ipv6) (kept c.args.new.now Ipv6) c.in_ok-v6.v6.items (made.values Ipv6) (made.others Ipv6) 128
    (rw (c.as_slice-old_values.ensures.value, c.as_slice-new_values.ensures.value) at c.in_ok-v6.ensures)
