use Rattle.std.proofs.Common.{◌≡◌, ◌≤◌, false, rules, arith, Result, Ok, Err}
use Rattle.std.specs.Result.{OnOk}
use Rattle.cidr.specs.model.Network.{width_of}
use Rattle.cidr.specs.declared.family.Family.{Family}
use Rattle.cidr.specs.declared.family.Family.TheVariants.{Ipv4, Ipv6}
use Rattle.cidr_routes.proofs.DecidingRows.{below_changed, below_unchanged}
use Rattle.cidr_routes.proofs.shadows.mark_length.Goals as goal

on_ok_then : {X E : Type 0} (r : Result X E) (P Q : Type 0) → (P → Q) → OnOk r P → OnOk r Q
on_ok_then (Ok x) P Q f h = f h
on_ok_then (Err e) P Q f h = h

fits : (family : Family) → width_of family ≤ 129
fits Ipv4 = omega arith
fits Ipv6 = omega arith

pub mark_deciding-requires-clause-known : goal.mark_deciding-requires-clause-known
mark_deciding-requires-clause-known g c = omega (arith, c.requires.known, fits g.C.FamilyCidr.FAMILY)

pub returns-then-not-is_changed-clause-marks : goal.returns-then-not-is_changed-clause-marks
returns-then-not-is_changed-clause-marks g c =
    let same : c.is_changed.result ≡ false = search (rules, c.if-not-is_changed.true) in
    below_unchanged g.C.BitString.bits c.args.len c.args.rows.now c.args.marks.now (c.is_changed.ensures.some same) (c.is_changed.ensures.each same) c.requires.done

pub returns-clause-marks : goal.returns-clause-marks
returns-clause-marks g c =
    on_ok_then c.mark_deciding.result _ _
    (λ k. below_changed g.C.BitString.bits c.args.len c.args.rows.now c.args.marks.now c.mark_deciding.new.marks k c.requires.done)
    c.mark_deciding.ensures.marks
