use Rattle.std.proofs.Common.{◌≡◌, ap, arith, ℕ}
use Rattle.cidr_lists.specs.Fields.{field_at}
use Rattle.cidr_lists.proofs.Contents.{is_nothing}
use Rattle.cidr_lists.proofs.FieldsAt.{all_behind, none_there, one_behind}
use Rattle.cidr_lists.proofs.columns.rest_at.Goals as goal

pub loop-place-init : goal.loop-place-init
loop-place-init c = (
  omega arith,
  λ n e.
      let same : n ≡ c.args.column.place = omega (arith, e) in
      ap (λ (k : ℕ). field_at c.args.column.separator k c.args.line.now) same,
)

pub returns-then-is_empty : goal.returns-then-is_empty
returns-then-is_empty c =
    none_there c.args.column.separator _ c.args.column.place c.loop-place.place c.loop-place.rest.now c.loop-place.invariant.1 c.loop-place.invariant.0
    (is_nothing c.loop-place.rest.now c.is_empty.result c.is_empty.ensures c.if-is_empty.true)

pub loop-place-preserved : goal.loop-place-preserved
loop-place-preserved c = (
  omega (arith, c.loop-place-test.true),
  rw c.behind_field-rest.ensures (one_behind c.args.column.separator _ c.args.column.place c.loop-place.place c.loop-place.rest.now c.loop-place.invariant.1),
)

pub returns : goal.returns
returns c =
    all_behind c.args.column.separator _ c.args.column.place c.loop-place.place c.loop-place.rest.now c.loop-place.invariant.1 c.loop-place.invariant.0 c.loop-place-test.false
