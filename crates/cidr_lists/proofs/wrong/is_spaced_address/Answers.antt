use Rattle.cidr_lists.proofs.Standing.{spaced_told}
use Rattle.cidr_lists.proofs.wrong.is_spaced_address.Goals as goal

pub returns : goal.returns
returns c =
    spaced_told c.args.text.now c.trim_ascii.result.now c.is_address.result c.trim_ascii.ensures.value c.is_address.ensures
