use Rattle.std.proofs.Common.{sym, ◌∙◌}
use Rattle.cidr_ext.proofs.Faults.{no_mask, none_found}
use Rattle.cidr_ext.proofs.text_faults.text_fault.Goals as goal

pub returns-in-None : goal.returns-in-None
returns-in-None c =
    none_found c.args.text.now (sym c.some_group_has.ensures ∙ c.if-some_group_has.false) (sym c.some_group_has-2.ensures ∙ c.if-some_group_has-2.false)
    (sym c.some_group_has-3.ensures ∙ c.if-some_group_has-3.false) (sym c.some_group_has-4.ensures ∙ c.if-some_group_has-4.false)
    (no_mask c.behind_slash.result.now c.args.text.now c.is_mask.result c.behind_slash.ensures c.is_mask.ensures c.if-is_mask.false) c.in-None.ensures
