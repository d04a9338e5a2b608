use Rattle.std.proofs.Common.{◌≡◌}
use Rattle.std.proofs.lemmas.Str.{IsUtf8-from_ascii}
use Rattle.cidr.specs.declared.family.Family.TheVariants.{Ipv4, Ipv6}
use Rattle.cidr_lists.specs.Sets.{IsInSets}
use Rattle.cidr_lists.proofs.Anywhere.{none_by, one_by}
use Rattle.cidr_lists.proofs.SetSteps.{within_is}
use Rattle.cidr_lists.proofs.sets.Sets.have_text.Goals as goal

pub returns-in_default : goal.returns-in_default
returns-in_default c = absurd (c.in_default.ensures.cases.0 (IsUtf8-from_ascii c.args.text.now c.requires))

pub returns-in-Ok-parse : goal.returns-in-Ok-parse
returns-in-Ok-parse c =
    let same : c.in-Ok.text.now ≡ c.args.text.now = c.in-Ok.ensures.cases.0 in
    rw c.in-Ipv4.is (one_by (IsInSets c.args.self.now) Ipv4 c.args.text.now c.in-Ok-parse.address c.contains.result (rw same at c.in-Ok-parse.ensures.value)
    (within_is c.args.self.now.v4 c.in-Ok-parse.address c.contains.result (rw c.new_host.ensures.value at c.contains.ensures.addresses)))

pub returns-in-Err : goal.returns-in-Err
returns-in-Err c =
    let same : c.in-Ok.text.now ≡ c.args.text.now = c.in-Ok.ensures.cases.0 in
    let refused = rw same at c.in-Err.ensures.value in
    rw c.in-Ipv4.is (none_by (IsInSets c.args.self.now) Ipv4 c.args.text.now refused.1)

pub returns-in-Ok-parse-2 : goal.returns-in-Ok-parse-2
returns-in-Ok-parse-2 c =
    let same : c.in-Ok.text.now ≡ c.args.text.now = c.in-Ok.ensures.cases.0 in
    rw c.in-Ipv6.is (one_by (IsInSets c.args.self.now) Ipv6 c.args.text.now c.in-Ok-parse-2.address c.contains-in-Ok-parse-2.result (rw same at c.in-Ok-parse-2.ensures.value)
    (within_is c.args.self.now.v6 c.in-Ok-parse-2.address c.contains-in-Ok-parse-2.result
    (rw c.new_host-in-Ok-parse-2.ensures.value at c.contains-in-Ok-parse-2.ensures.addresses)))

pub returns-in-Err-parse : goal.returns-in-Err-parse
returns-in-Err-parse c =
    let same : c.in-Ok.text.now ≡ c.args.text.now = c.in-Ok.ensures.cases.0 in
    let refused = rw same at c.in-Err-parse.ensures.value in
    rw c.in-Ipv6.is (none_by (IsInSets c.args.self.now) Ipv6 c.args.text.now refused.1)
