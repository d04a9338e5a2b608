use Rattle.std.proofs.Common.{refl, inl}
use Rattle.cidr_uses.proofs.routing_table.inner_route.Goals as goal

pub unreachable-requires : goal.unreachable-requires
unreachable-requires g c = c.in-None.ensures c.args.inner ((c.in_ok-insert.ensures.ok c.args.inner).1 (inl refl)) c.requires

pub returns-clause-inner : goal.returns-clause-inner
returns-clause-inner g c = c.in-Some.ensures.longest c.args.inner ((c.in_ok-insert.ensures.ok c.args.inner).1 (inl refl)) c.requires
