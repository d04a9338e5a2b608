use Rattle.std.proofs.Common.{arith, ap}
use Rattle.cidr.specs.model.Network.{width_of}
use Rattle.cidr_ext.proofs.Inside.{exactly}
use Rattle.cidr_ext.proofs.numbered.AnyCidrExt.subnets.Goals as goal

pub returns-clause-exactly : goal.returns-clause-exactly
returns-clause-exactly g c =
    exactly (g.C.PrivCidr.family_of c.args.self.now) (g.C.PrivCidr.prefix c.args.self.now) c.args.len
    (omega (arith, c.network_length.ensures.value, c.in_ok-more.ensures.0)) c._new.result c._new.ensures

pub returns-clause-within : goal.returns-clause-within
returns-clause-within g c =
    (omega (arith, c.network_length.ensures.value, c.in_ok-more.ensures.0), omega (arith, ap width_of c.family.ensures, c.len.ensures))
