use Rattle.std.proofs.Common.{ℕ, ◌^◌, decimal, unwrap_or}
use Rattle.cidr.specs.declared.family.Family.{Family}
use Rattle.cidr.specs.declared.family.Family.TheVariants.{Ipv4, Ipv6}
use Rattle.cidr_lists.specs.Sets.{HaveCounts, networks_of}
use Rattle.cidr_lists.proofs.PrintedTexts.{counts_pushed}
use Rattle.cidr_lists.proofs.SetSteps.{have_count}
use Rattle.cidr_lists.proofs.sets.Sets.to_count_lines.Goals as goal

pub returns : goal.returns
returns c =
    let count : Family → ℕ = elim [ Ipv4 ↦ unwrap_or c.address_count.result (2 ^ 128) | Ipv6 ↦ unwrap_or c.address_count-2.result (2 ^ 128) ] in
    let have : HaveCounts (networks_of c.args.self.now) count = elim [
      | Ipv4 ↦ have_count 32 c.args.self.now.v4 c.address_count.result c.address_count.ensures
      | Ipv6 ↦ have_count 128 c.args.self.now.v6 c.address_count-2.result c.address_count-2.ensures
    ] in (
      count,
      have,
      counts_pushed (decimal (count Ipv4)) (decimal (count Ipv6)) c.new-text.result.items c.extend_from_slice.new.self.items
          c.extend_from_slice-2.new.self.items c.extend_from_slice-3.new.self.items c.extend_from_slice-4.new.self.items c.push.new.self.items
          c.new-text.ensures.items c.in_ok-extend_from_slice.ensures.items
          (rw (c.as_bytes.ensures.value, c.as_str.ensures.value, c.count_text.ensures) at c.in_ok-extend_from_slice-2.ensures.items)
          c.in_ok-extend_from_slice-3.ensures.items
          (rw (c.as_bytes-2.ensures.value, c.as_str-2.ensures.value, c.count_text-2.ensures) at c.in_ok-extend_from_slice-4.ensures.items)
          c.in_ok-push.ensures.items,
    )
