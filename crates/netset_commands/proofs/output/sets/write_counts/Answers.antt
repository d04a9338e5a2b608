use Rattle.std.proofs.Common.{ℕ, ◌^◌, refl, unwrap_or}
use Rattle.cidr.specs.declared.family.Family.{Family}
use Rattle.cidr.specs.declared.family.Family.TheVariants.{Ipv4, Ipv6}
use Rattle.cidr_lists.specs.Sets.{HaveCounts, networks_of, printed_counts}
use Rattle.cidr_lists.proofs.SetSteps.{have_count}
use Rattle.netset_commands.proofs.output.sets.write_counts.Goals as goal

pub returns : goal.returns
returns g c =
    let count : Family → ℕ = elim [ Ipv4 ↦ unwrap_or c.address_count.result (2 ^ 128) | Ipv6 ↦ unwrap_or c.address_count-2.result (2 ^ 128) ] in
    let have : HaveCounts (networks_of c.args.sets.now) count = elim [
      | Ipv4 ↦ have_count 32 c.args.sets.now.v4 c.address_count.result c.address_count.ensures
      | Ipv6 ↦ have_count 128 c.args.sets.now.v6 c.address_count-2.result c.address_count-2.ensures
    ] in
    (printed_counts count, (count, have, refl), rw (c.as_str.ensures.value, c.as_str-2.ensures.value, c.count_text-v4.ensures, c.count_text-v6.ensures) at c.write_line.ensures)
