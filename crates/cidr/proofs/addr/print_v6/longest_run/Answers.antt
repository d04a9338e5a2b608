-- The run is among the groups.
use Rattle.std.proofs.Common.{ap₂, ◌∙◌}
use Rattle.cidr.proofs.ZeroRuns.{run_in_table, run_among_groups}
use Rattle.cidr.proofs.addr.print_v6.longest_run.Goals as goal

pub returns-clause-fits : goal.returns-clause-fits
returns-clause-fits c =
    let groups = c.args.groups.now in
    let table = run_in_table groups c.zero_places.result c.requires c.zero_places.ensures.value in
    run_among_groups groups c.from.result c.from-2.result (ap₂ (λ a b. (a, b)) c.from.ensures c.from-2.ensures ∙ table)
