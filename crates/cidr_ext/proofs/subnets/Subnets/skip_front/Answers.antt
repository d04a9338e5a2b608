use Rattle.std.proofs.Common.{ap, ◌∙◌}
use Rattle.cidr_ext.specs.model.Subnets.{subnets_left}
use Rattle.cidr_ext.proofs.Ends.{skips_some, skips_all, count_some, count_none}
use Rattle.cidr_ext.proofs.subnets.Subnets.skip_front.Goals as goal
use Rattle.cidr_ext.proofs.subnets.Subnets.skip_front.Goals.{in-Some, in_default-2, in_default}

pub returns : goal.returns
returns g c =
    let f = g.C.PrivCidr.family_of c.self.inside.network in
    let p = g.C.PrivCidr.prefix c.self.inside.network in
    let n = c.self.inside.len in
    let ends = c.self.inside.ends in
    elim c.match-self.branch [
      | in-Some w ↦
          ap (subnets_left f p n) w.self-is
          ∙ skips_some f p n ends c.args.n c.args.self.now c.self.view_is w.in-Some.first w.in-Some.last c.self.invariant.2 w.in-Some.is w.if-n-last.true
      | in_default-2 w ↦
          ap (subnets_left f p n) w.self-is
          ∙ skips_all f p n ends c.args.n c.args.self.now c.self.view_is (count_some ends w.in-Some.first w.in-Some.last c.args.n w.in-Some.is w.if-n-last.false)
      | in_default w ↦
          ap (subnets_left f p n) w.self-is
          ∙ skips_all f p n ends c.args.n c.args.self.now c.self.view_is (count_none ends c.args.n w.in_default.is)
    ]
