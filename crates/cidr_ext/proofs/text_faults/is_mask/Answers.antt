use Rattle.cidr_ext.proofs.Faults.{mask_by}
use Rattle.cidr_ext.proofs.text_faults.is_mask.Goals as goal

pub returns-in-Ok : goal.returns-in-Ok
returns-in-Ok c = mask_by c.args.text.now c.in-Ok.address c.length_of_mask.result c.is_some.result c.in-Ok.ensures.value c.length_of_mask.ensures c.is_some.ensures
