use Rattle.std.proofs.Common.{sym, ◌∙◌, refl}
use Rattle.cidr_lists.specs.Sets.{networks_of, printed_sets}
use Rattle.netset_commands.proofs.program.write_made.Goals as goal

pub returns-in-Networks : goal.returns-in-Networks
returns-in-Networks g c = rw (sym c.form_of.ensures ∙ c.in-Networks.is) (printed_sets (networks_of c.args.sets.now), refl, c.write_sets.ensures)

pub returns-in-Ranges : goal.returns-in-Ranges
returns-in-Ranges g c = rw (sym c.form_of.ensures ∙ c.in-Ranges.is) c.write_ranges.ensures

pub returns-in-Counts : goal.returns-in-Counts
returns-in-Counts g c = rw (sym c.form_of.ensures ∙ c.in-Counts.is) c.write_counts.ensures
