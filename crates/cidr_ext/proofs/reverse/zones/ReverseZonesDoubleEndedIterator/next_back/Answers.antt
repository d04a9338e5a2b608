use Rattle.arrayvec.specs.declared.array_string.ArrayString.{ArrayString}
use Rattle.cidr_ext.proofs.ZoneNames.{given_back}
use Rattle.cidr_ext.proofs.reverse.zones.ReverseZonesDoubleEndedIterator.next_back.Goals as goal

pub returns-clause-steps : goal.returns-clause-steps
returns-clause-steps g c =
    rw (← c.self.view_is) (
    given_back g.C.PrivCidr.family_of g.C.PrivCidr.prefix (λ (name : ArrayString 72). name.bytes) c.self.inside.networks c.next_back.new.self c.self.invariant
    c.in_ok-next_back.field-0 c.name_of.result c.in_ok-next_back.ensures.steps c.name_of.ensures
    )
