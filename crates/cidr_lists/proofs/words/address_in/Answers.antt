use Rattle.std.proofs.Common.{◌≡◌, sym}
use Rattle.std.proofs.lemmas.Str.{IsUtf8-from_ascii}
use Rattle.cidr_lists.proofs.FirstWords.{ipv4_is, ipv6_is}
use Rattle.cidr_lists.proofs.words.address_in.Goals as goal

pub returns-in_default : goal.returns-in_default
returns-in_default c = absurd (c.in_default.ensures.cases.0 (IsUtf8-from_ascii c.args.text.now c.requires))

pub returns-in-Ok-parse : goal.returns-in-Ok-parse
returns-in-Ok-parse c =
    let same : c.in-Ok.text.now ≡ c.args.text.now = c.in-Ok.ensures.cases.0 in
    (sym c.in-Ipv4.is, rw same at c.in-Ok-parse.ensures.value)

pub returns-in-Err : goal.returns-in-Err
returns-in-Err c =
    let same : c.in-Ok.text.now ≡ c.args.text.now = c.in-Ok.ensures.cases.0 in
    let refused = rw same at c.in-Err.ensures.value in
    rw c.in-Ipv4.is (ipv4_is c.args.text.now refused.1)

pub returns-in-Ok-parse-2 : goal.returns-in-Ok-parse-2
returns-in-Ok-parse-2 c =
    let same : c.in-Ok.text.now ≡ c.args.text.now = c.in-Ok.ensures.cases.0 in
    (sym c.in-Ipv6.is, rw same at c.in-Ok-parse-2.ensures.value)

pub returns-in-Err-parse : goal.returns-in-Err-parse
returns-in-Err-parse c =
    let same : c.in-Ok.text.now ≡ c.args.text.now = c.in-Ok.ensures.cases.0 in
    let refused = rw same at c.in-Err-parse.ensures.value in
    rw c.in-Ipv6.is (ipv6_is c.args.text.now refused.1)
