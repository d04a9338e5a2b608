use Rattle.std.proofs.Common.{ap, ◌∙◌}
use Rattle.std.specs.Char.{is_ascii_control}
use Rattle.std.specs.List.{list_any}
use Rattle.cidr_io.proofs.Controls.{excerpt_clean}
use Rattle.cidr_io.proofs.shown.excerpt.Goals as goal

pub returns-clause-clean : goal.returns-clause-clean
returns-clause-clean c = ap (list_any is_ascii_control) c.cut_text.ensures ∙ excerpt_clean c.args.text.now
