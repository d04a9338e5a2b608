use Rattle.std.proofs.lemmas.Result.{err_from_is_err_and}
use Rattle.cidr_lists.specs.Lists.{text_by}
use Rattle.cidr_lists.specs.Texts.{HaveAddresses, IsListError}
use Rattle.cidr_lists.proofs.WholeTexts.{list_set, passed_on}
use Rattle.cidr_lists.proofs.sets.Sets.of_text.Goals as goal

pub returns : goal.returns
returns c =
    list_set c.args.host_bits c.args.text.now c.in_ok-lists.lists c.of_lists.result c.in_ok-lists.ensures c.of_lists.ensures

pub returns-in_err-lists : goal.returns-in_err-lists
returns-in_err-lists c =
    let (y, is, same) = err_from_is_err_and c.from_residual.result c.from_residual.ensures.1 in
    let text = text_by c.args.host_bits c.args.text.now in
    passed_on (HaveAddresses text) (IsListError text) _ y _ is same c.in_err-lists.ensures
