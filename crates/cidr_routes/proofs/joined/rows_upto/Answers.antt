use Rattle.std.proofs.Common.{◌≡◌, ◌≤◌, false, rules, arith, sym, subst, Result, Ok, Err}
use Rattle.std.specs.Result.{IfOk}
use Rattle.std.specs.List.{Contains}
use Rattle.cidr.specs.model.Network.{width_of}
use Rattle.cidr.specs.declared.family.Family.{Family}
use Rattle.cidr.specs.declared.family.Family.TheVariants.{Ipv4, Ipv6}
use Rattle.cidr_routes.specs.Lengths.{AreSoFar}
use Rattle.cidr_routes.proofs.PermitRows.{none_more}
use Rattle.cidr_routes.proofs.joined.rows_upto.Goals as goal

if_ok_then : {X E : Type 0} (r : Result X E) (P Q : X → Type 0) → ((x : X) → P x → Q x) → IfOk r P → IfOk r Q
if_ok_then (Ok x) P Q f h = f x h
if_ok_then (Err e) P Q f h = h

fits : (family : Family) → width_of family ≤ 129
fits Ipv4 = omega arith
fits Ipv6 = omega arith

pub permitted_of_length-requires : goal.permitted_of_length-requires
permitted_of_length-requires g c = omega (arith, c.requires.within, fits g.C.FamilyCidr.FAMILY)

pub next_rows-requires-clause-low : goal.next_rows-requires-clause-low
next_rows-requires-clause-low g c = λ row d. (c.requires.done.each row (subst (λ rows. Contains rows row) c.as_slice.ensures.value d)).low

pub returns-then-not-is_changed : goal.returns-then-not-is_changed
returns-then-not-is_changed g c =
    let same : c.is_changed.result ≡ false = search (rules, c.if-not-is_changed.true) in
    none_more g.C.BitString.bits (width_of g.C.FamilyCidr.FAMILY) c.args.len (c.is_changed.ensures.some same) c.requires.within
    c.args.rows.now c.args.before.items (omega (arith, c.requires.within, fits g.C.FamilyCidr.FAMILY)) (c.is_changed.ensures.same same) c.requires.done

pub returns : goal.returns
returns g c =
    let bits = g.C.BitString.bits in
    let w = width_of g.C.FamilyCidr.FAMILY in
    if_ok_then c.next_rows.result _ _
    (λ out k. k c.args.rows.now c.in_ok-set.ensures (subst (AreSoFar bits w c.args.rows.now c.args.len) (sym c.as_slice.ensures.value) c.requires.done))
    c.next_rows.ensures
