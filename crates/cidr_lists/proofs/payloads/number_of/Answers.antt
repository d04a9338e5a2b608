use Rattle.cidr_lists.proofs.PayloadTexts.{number_utf8}
use Rattle.cidr_lists.proofs.payloads.number_of.Goals as goal

pub returns-in-Err : goal.returns-in-Err
returns-in-Err c = λ n h. absurd (c.in-Err.ensures.cases.0 (number_utf8 c.args.text.now h.0))
