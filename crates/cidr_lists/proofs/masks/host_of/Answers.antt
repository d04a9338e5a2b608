use Rattle.cidr_lists.proofs.MaskedTexts.{made_host, no_back, no_front, no_length}
use Rattle.cidr_lists.proofs.masks.host_of.Goals as goal

pub returns-in_default : goal.returns-in_default
returns-in_default c = no_front c.args.front.now c.args.back.now c.in_default.ensures.value.1

pub returns-in_default-parse : goal.returns-in_default-parse
returns-in_default-parse c = no_back c.args.front.now c.args.back.now c.in_default-parse.ensures.value.1

pub returns-in_default-length_beside : goal.returns-in_default-length_beside
returns-in_default-length_beside c =
    no_length c.args.front.now c.args.back.now c.in-Ok.address c.in-Ok-parse.mask c.in-Ok.ensures.value c.in-Ok-parse.ensures.value c.in_default-length_beside.ensures

pub returns-in-Ok-new : goal.returns-in-Ok-new
returns-in-Ok-new c =
    made_host c.args.front.now c.args.back.now c.in-Ok.address c.in-Ok-parse.mask c.in-Some.len c.in-Ok.ensures.value c.in-Ok-parse.ensures.value c.in-Some.ensures
    c.in-Ok-new.host c.in-Ok-new.ensures
