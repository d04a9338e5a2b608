use Rattle.std.proofs.Common.{Some}
use Rattle.arrayvec.specs.declared.array_string.ArrayString.{ArrayString}
use Rattle.cidr_ext.proofs.ZoneNames.{given_front, kept_front}
use Rattle.cidr_ext.proofs.reverse.zones.ReverseZonesIterator.next.Goals as goal

pub invariant_of-self-2 : goal.invariant_of-self-2
invariant_of-self-2 g c =
    kept_front g.C.PrivCidr.family_of g.C.PrivCidr.prefix (λ (name : ArrayString 72). name.bytes) c.self.inside.networks c.next.new.self c.self.invariant
    (Some c.in_ok-next.field-0) c.in_ok-next.ensures.steps

pub returns-clause-steps : goal.returns-clause-steps
returns-clause-steps g c =
    rw (← c.self.view_is) (
    given_front g.C.PrivCidr.family_of g.C.PrivCidr.prefix (λ (name : ArrayString 72). name.bytes) c.self.inside.networks c.next.new.self c.self.invariant
    c.in_ok-next.field-0 c.name_of.result c.in_ok-next.ensures.steps c.name_of.ensures
    )
