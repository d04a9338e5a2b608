-- Ranges of addresses of both families.
use Rattle.std.proofs.Common.{◌≡◌, refl, ℕ, Bool, List, ◌++◌, Result, Err, true, map}
use Rattle.std.specs.List.{flat_map}
use Rattle.std.proofs.lemmas.List.{map-id}
use Rattle.cidr.specs.declared.family.Family.{Family}
use Rattle.cidr.specs.declared.family.Family.TheVariants.{Ipv4, Ipv6}
use Rattle.cidr.specs.texts.PrintedAddress.{address_text}
use Rattle.cidr_io.specs.Writing.{State, Answered}
use Rattle.cidr_io.specs.declared.sink.OutputFailed.{OutputFailed}
use Rattle.cidr_io.proofs.Chains.{part_none}
use Rattle.cidr_sets.specs.model.Ranges.{AreRanges}
use Rattle.cidr_table.specs.model.Cover.{Covers}
use Rattle.netset_commands.specs.Sets.{Prints}
use Rattle.cidr_lists.specs.Sets.{networks_of, printed_ranges, range_line}
use Rattle.cidr_lists.specs.declared.sets.Form.TheVariants.{Ranges}
use Rattle.cidr_lists.specs.declared.sets.Sets.{Sets}

plain_ranges : (networks : List (List Bool)) (ranges : List (List Bool × List Bool)) → AreRanges 129 (Covers (map (λ (x : List Bool). x) networks)) ranges
    → AreRanges 129 (Covers networks) ranges
plain_ranges networks ranges h = rw (map-id networks) at h

-- the ranges of both families, written one behind the other
pub ranges_printed : (sets : Sets) (four six : List (List Bool × List Bool)) (s t : State) (r : Result (Unit {0}) OutputFailed)
    → AreRanges 129 (Covers (map (λ (x : List Bool). x) sets.v4)) four → AreRanges 129 (Covers (map (λ (x : List Bool). x) sets.v6)) six
    → Answered s t (flat_map (range_line (address_text Ipv4)) four ++ flat_map (range_line (address_text Ipv6)) six) r → Prints Ranges s t (networks_of sets) r
ranges_printed sets four six s t r h k written =
    let ranges : Family → List (List Bool × List Bool) = elim [ Ipv4 ↦ four | Ipv6 ↦ six ] in
    let are : (family : Family) → AreRanges 129 (Covers (networks_of sets family)) (ranges family) = elim [
      | Ipv4 ↦ plain_ranges sets.v4 four h
      | Ipv6 ↦ plain_ranges sets.v6 six k
    ] in
    (printed_ranges ranges, (ranges, are, refl), written)

-- nothing is written to a sink that has failed
pub ranges_unprinted : (sets : Sets) (four six : List (List Bool × List Bool)) (s : State) (e : OutputFailed)
    → AreRanges 129 (Covers (map (λ (x : List Bool). x) sets.v4)) four → AreRanges 129 (Covers (map (λ (x : List Bool). x) sets.v6)) six
    → s.failed ≡ true → Prints Ranges s s (networks_of sets) (Err e)
ranges_unprinted sets four six s e h k failed =
    let text : List ℕ = flat_map (range_line (address_text Ipv4)) four ++ flat_map (range_line (address_text Ipv6)) six in
    ranges_printed sets four six s s (Err e) h k (part_none s text failed, λ _. refl)
