use Rattle.std.proofs.Common.{inl, inr}
use Rattle.cidr.specs.model.Network.{width_of}
use Rattle.cidr.specs.model.Views.{in_family}
use Rattle.cidr_ext.specs.model.Subnets.{subnets_left}
use Rattle.cidr_ext.proofs.Ends.{yields_back, progress_back}
use Rattle.cidr_ext.proofs.subnets.SubnetsDoubleEndedIterator.next_back.Goals as goal
use Rattle.cidr_ext.proofs.subnets.SubnetsDoubleEndedIterator.next_back.Goals.{then-first-last, else-first-last}

pub returns-clause-steps : goal.returns-clause-steps
returns-clause-steps g c =
    yields_back (g.C.PrivCidr.family_of c.self.inside.network) (g.C.PrivCidr.prefix c.self.inside.network) c.self.inside.len g.C.PrivCidr.family_of g.C.PrivCidr.prefix
    (width_of (g.C.PrivCidr.family_of c.self.inside.network)) c.self.inside.ends c.if-first-last.self c.in_ok-first.first c.in_ok-first.last c.subnet_at.result
    c.args.self.now c.self.invariant.0 c.self.invariant.1 c.self.invariant.2 c.self.view_is c.in_ok-first.was c.subnet_at.ensures.value
    (elim c.if-first-last.branch [ then-first-last w ↦ inl (w.if-first-last.true, w.self-is) | else-first-last w ↦ inr (w.if-first-last.false, w.self-is) ])

pub returns-clause-goes : goal.returns-clause-goes
returns-clause-goes g c =
    progress_back (in_family g.C.PrivCidr.family_of g.C.PrivCidr.prefix) (λ s. tt) c.args.self.now
    (subnets_left (g.C.PrivCidr.family_of c.self.inside.network) (g.C.PrivCidr.prefix c.self.inside.network) c.self.inside.len c.if-first-last.self)
    c.subnet_at.result (returns-clause-steps g c)
