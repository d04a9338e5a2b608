use Rattle.std.proofs.Common.{refl, sym, ◌∙◌, ap, ap₂, subst, arith, ℕ, ◌+◌, ◌*◌, List, drop, get_or, length}
use Rattle.std.proofs.lemmas.List.{length-drop, length-take}
use Rattle.std.specs.List.{slice_range}
use Rattle.cidr_files.specs.Layout.{words}
use Rattle.cidr_files.specs.Tables.{AreOffsets}
use Rattle.cidr_c.specs.model.Files.{bytes_at}
use Rattle.cidr_c.proofs.Places.{no_ends, value_there}
use Rattle.cidr_c.proofs.files.value_at.Goals as goal

pub returns-in_err-offsets-clause-none : goal.returns-in_err-offsets-clause-none
returns-in_err-offsets-clause-none c = λ _ size inside rows l good. absurd (omega (arith, inside.offsets, c.in_err-offsets.ensures.none refl))

pub returns-in_err-values-clause-none : goal.returns-in_err-values-clause-none
returns-in_err-values-clause-none c = λ _ size inside rows l good. absurd (omega (arith, inside.values, c.in_err-values.ensures.none refl))

pub returns-in_err-from-clause-none : goal.returns-in_err-from-clause-none
returns-in_err-from-clause-none c = λ _ size inside rows l good.
    let t = c.args.table.now in
    no_ends (words c.in_ok-offsets.offsets.now) rows (length c.in_ok-values.values.now) c.args.row
    (subst (λ (xs : List ℕ). AreOffsets (words xs) rows (length c.in_ok-values.values.now)) (sym c.in_ok-offsets.ensures.part)
    (subst (λ (n : ℕ). AreOffsets (words (bytes_at c.args.bytes.now t.offsets (4 * (t.rows + 1)))) rows n)
    (sym (ap length c.in_ok-values.ensures.part)) good)) l (c.in_err-from.ensures.none refl)

pub ends_of-requires : goal.ends_of-requires
ends_of-requires c =
    let t = c.args.table.now in
    let part = drop t.offsets c.args.bytes.now in
    omega (arith, ap length c.in_ok-offsets.ensures.part, length-take (4 * (t.rows + 1)) part, length-drop t.offsets c.args.bytes.now, c.in_ok-offsets.ensures.inside)

pub returns-clause-inside : goal.returns-clause-inside
returns-clause-inside c =
    let t = c.args.table.now in
    let h = c.in_ok-from.ensures in
    omega (
      arith,
      h.ordered,
      h.inside,
      ap length c.in_ok-values.ensures.part,
      length-take t.values_len (drop t.values c.args.bytes.now),
      c.in_ok-values.ensures.inside,
    )

pub returns-clause-value : goal.returns-clause-value
returns-clause-value c = λ size.
    let t = c.args.table.now in
    let h = c.in_ok-from.ensures in
    let bytes = c.args.bytes.now in
    let from_is = h.from ∙ ap (λ (xs : List ℕ). get_or (words xs) c.args.row 0) c.in_ok-offsets.ensures.part in
    let to_is = h.to ∙ ap (λ (xs : List ℕ). get_or (words xs) (c.args.row + 1) 0) c.in_ok-offsets.ensures.part in
    value_there bytes t.values t.values_len c.in_ok-from.from c.in_ok-from.to h.ordered
    (omega (arith, h.inside, ap length c.in_ok-values.ensures.part))
    ∙ ap₂ (λ (a b : ℕ). slice_range (bytes_at bytes t.values t.values_len) a b) from_is to_is
