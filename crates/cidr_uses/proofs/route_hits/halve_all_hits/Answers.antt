use Rattle.std.proofs.Common.{rules, ◌/◌}
use Rattle.cidr_table.proofs.InTurn.{written_by}
use Rattle.cidr_uses.proofs.route_hits.halve_all_hits.Goals as goal

pub returns : goal.returns
returns g c = written_by _ (λ network hits. hits / 2) (λ f network before after f' call. search rules) _ c.args.routes.now.rows _ c.for_each_mut.ensures.rows
