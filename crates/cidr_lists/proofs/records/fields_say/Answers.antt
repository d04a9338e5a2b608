use Rattle.std.proofs.Common.{sym, ◌∙◌, subst, inl, inr}
use Rattle.std.proofs.lemmas.Bool.{true≢false}
use Rattle.cidr_lists.specs.Records.{IsType}
use Rattle.cidr_lists.specs.declared.records.RecordType.{RecordType}
use Rattle.cidr_lists.proofs.RecordLines.{record_read}
use Rattle.cidr_lists.proofs.records.fields_say.Goals as goal

pub returns-then-is_version : goal.returns-then-is_version
returns-then-is_version c = λ line is.
    inr (c.args.registry.now, c.args.kind.now, c.args.start.now, c.args.value.now, c.args.status.now, is, inl (sym c.is_version.ensures ∙ c.if-is_version.true))

pub returns-then-is_no_delegation : goal.returns-then-is_no_delegation
returns-then-is_no_delegation c = λ line is. inr (
  c.args.registry.now,
  c.args.kind.now,
  c.args.start.now,
  c.args.value.now,
  c.args.status.now,
  is,
  inr (inr (
    c.in-Some-Addresses.family,
    subst (λ (one : RecordType). IsType c.args.kind.now one) c.in-Some-Addresses.field-0-is c.in-Some-Addresses.ensures,
    c.is_no_delegation.ensures.0 c.if-is_no_delegation.true,
  )),
)

pub returns-in-None : goal.returns-in-None
returns-in-None c = λ line is. inr (inl (
  c.args.registry.now,
  c.args.kind.now,
  c.args.start.now,
  c.args.value.now,
  c.args.status.now,
  is,
  sym c.is_version.ensures ∙ c.if-is_version.false,
  (c.in-None.ensures, c.byte_excerpt.ensures.text),
))

pub returns-in-Some-AsNumbers : goal.returns-in-Some-AsNumbers
returns-in-Some-AsNumbers c = λ line is. inr (
  c.args.registry.now,
  c.args.kind.now,
  c.args.start.now,
  c.args.value.now,
  c.args.status.now,
  is,
  inr (inl (subst (λ (one : RecordType). IsType c.args.kind.now one) c.in-Some-AsNumbers.field-0-is c.in-Some-AsNumbers.ensures)),
)

pub returns-else-is_no_delegation : goal.returns-else-is_no_delegation
returns-else-is_no_delegation c = λ line is.
    record_read line c.in-Some-Addresses.family c.args.start.now c.args.value.now c.delegation.result (
      c.args.registry.now,
      c.args.kind.now,
      c.args.status.now,
      is,
      sym c.is_version.ensures ∙ c.if-is_version.false,
      subst (λ (one : RecordType). IsType c.args.kind.now one) c.in-Some-Addresses.field-0-is c.in-Some-Addresses.ensures,
      λ none. true≢false (sym (c.is_no_delegation.ensures.1 none) ∙ c.if-is_no_delegation.false),
    ) c.delegation.ensures
