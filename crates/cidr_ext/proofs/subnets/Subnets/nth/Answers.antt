use Rattle.cidr.specs.model.Views.{in_family}
use Rattle.cidr_ext.proofs.Ends.{nth_given}
use Rattle.cidr_ext.proofs.subnets.Subnets.nth.Goals as goal

pub returns : goal.returns
returns g c =
    nth_given (in_family g.C.PrivCidr.family_of g.C.PrivCidr.prefix) c.args.n c.args.self.now c.skip_front.new.self c.next.new.self c.next.result
    c.skip_front.ensures c.next.ensures.steps
