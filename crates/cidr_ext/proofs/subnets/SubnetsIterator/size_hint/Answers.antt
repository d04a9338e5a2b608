use Rattle.std.proofs.Common.{length}
use Rattle.cidr_ext.proofs.Ends.{exact_hint, hint_low, hint_high}
use Rattle.cidr_ext.proofs.subnets.SubnetsIterator.size_hint.Goals as goal

pub returns-clause-exact : goal.returns-clause-exact
returns-clause-exact g c =
    exact_hint c.self.inside.ends (g.C.PrivCidr.family_of c.self.inside.network) (g.C.PrivCidr.prefix c.self.inside.network) c.self.inside.len
    c.hint.result c.args.self.now c.self.view_is c.hint.ensures

pub returns-clause-lower : goal.returns-clause-lower
returns-clause-lower g c = λ _. hint_low c.hint.result (length c.args.self.now) (returns-clause-exact g c)

pub returns-clause-upper : goal.returns-clause-upper
returns-clause-upper g c = hint_high c.hint.result.0 (length c.args.self.now) c.hint.result.1 (returns-clause-exact g c)
