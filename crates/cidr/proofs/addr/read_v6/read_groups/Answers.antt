-- As many groups as stand first, group by group.
use Rattle.std.proofs.Common.{refl, ◌∙◌, ◌≢◌, ◌<◌, [], arith}
use Rattle.cidr.proofs.Ipv6Reading.{none_left, some_left, reads_start, finds_no_room, stuck_no_room, finds_no_group, stuck_no_group, reads_group, finds_last, stuck_last, stuck_group, finds_dotted}
use Rattle.cidr.proofs.addr.read_v6.read_groups.Goals.{else-groups-gt0-via-then-groups-gt0+else-is_empty, else-groups-gt0-via-else-groups-gt0}
use Rattle.cidr.proofs.addr.read_v6.read_groups.Goals as goal

pub loop-groups-init : goal.loop-groups-init
loop-groups-init c = reads_start _ _

pub loop-groups-preserved-in-Some : goal.loop-groups-preserved-in-Some
loop-groups-preserved-in-Some c =
    reads_group _ c.loop-groups.invariant c.loop-groups-test.true c.in-Some.ensures.first
    _ _ refl c.from.ensures c.requires

pub returns-then-is_empty : goal.returns-then-is_empty
returns-then-is_empty c =
    stuck_no_group _ c.loop-groups.invariant c.loop-groups-test.true c.in_default-take_group.ensures
    c.if-groups-gt0.true (none_left _ c.if-is_empty.ensures)

pub returns-else-groups-gt0 : goal.returns-else-groups-gt0
returns-else-groups-gt0 c =
    let later : 0 < c.loop-groups.groups.count → c.loop-groups.groups.rest.now ≢ [] = elim c.else-groups-gt0.branch [
      | else-groups-gt0-via-then-groups-gt0+else-is_empty w ↦ λ some. some_left _ w.if-is_empty.ensures
      | else-groups-gt0-via-else-groups-gt0 w ↦ λ some. absurd (omega arith)
    ] in
    finds_no_group _ c.loop-groups.invariant c.loop-groups-test.true c.in_default-take_group.ensures later

pub loop-groups-preserved : goal.loop-groups-preserved
loop-groups-preserved c =
    reads_group _ c.loop-groups.invariant c.loop-groups-test.true c.in-Some-take_group.ensures
    _ _ c.in-Some-take_byte.ensures c.from-in-Some-take_byte.ensures c.requires

pub returns-then-is_empty-2 : goal.returns-then-is_empty-2
returns-then-is_empty-2 c =
    finds_last _ c.loop-groups.invariant c.loop-groups-test.true c.in-Some-take_group.ensures
    _ (none_left _ c.if-is_empty-2.ensures) c.from-then-is_empty-2.ensures c.requires

pub returns-then-groups-room : goal.returns-then-groups-room
returns-then-groups-room c =
    stuck_last _ c.loop-groups.invariant c.loop-groups-test.true c.in-Some-take_group.ensures
    (some_left _ c.if-is_empty-2.ensures) c.in_default-take_byte.ensures c.if-groups-room.true c.requires

pub returns-in_err-read_ipv4 : goal.returns-in_err-read_ipv4
returns-in_err-read_ipv4 c =
    rw c.from_residual.ensures
    (stuck_group _ c.loop-groups.invariant c.loop-groups-test.true c.in-Some-take_group.ensures
    (some_left _ c.if-is_empty-2.ensures) c.in_default-take_byte.ensures
    c.if-groups-room.false c.in_err-read_ipv4.ensures)

pub returns-in-loop-groups : goal.returns-in-loop-groups
returns-in-loop-groups c =
    finds_dotted _ c.loop-groups.invariant c.loop-groups-test.true c.from-last.result c.from-in-loop-groups.result
    (rw c.from-last.ensures c.in_ok-read_ipv4.ensures) (c.from-in-loop-groups.ensures ∙ c.to_bits.ensures.value)
    c.to_bits.ensures.width c.requires c.if-groups-room.false

pub returns-then-groups-eq0 : goal.returns-then-groups-eq0
returns-then-groups-eq0 c = finds_no_room _ c.loop-groups.invariant c.loop-groups-test.false c.if-groups-eq0.true

pub returns-else-groups-eq0 : goal.returns-else-groups-eq0
returns-else-groups-eq0 c = stuck_no_room _ c.loop-groups.invariant c.loop-groups-test.false c.if-groups-eq0.false
