-- The labels of a string are its first one and those of the rest.
use Rattle.std.proofs.Common.{arith, rules, ◌≡◌, ◌≢◌, ◌*◌, length}
use Rattle.std.proofs.lemmas.Nat.{pow_pos}
use Rattle.cidr_ext.specs.texts.Reverse.{label_width}
use Rattle.cidr_ext.proofs.LabelReading.{none_empty, empty_only, no_room, no_label, no_rest, only_one, found_one, sum_fits}
use Rattle.cidr_ext.proofs.reverse.reading.+read_labels.Goals as goal

pub returns-then-is_empty-clause-found : goal.returns-then-is_empty-clause-found
returns-then-is_empty-clause-found t c =
    let none : length c.args.text.now ≡ 0 = search rules in
    (omega arith, pow_pos (label_width c.args.family * 0), none_empty c.args.family c.args.text.now none)

pub returns-then-is_empty-clause-only : goal.returns-then-is_empty-clause-only
returns-then-is_empty-clause-only t c =
    let none : length c.args.text.now ≡ 0 = search rules in
    empty_only c.args.family c.args.text.now c.args.room none

pub returns-in_err-room-clause-only : goal.returns-in_err-room-clause-only
returns-in_err-room-clause-only t c = λ count network within has.
    let some : length c.args.text.now ≢ 0 = search rules in
    absurd (no_room c.args.family c.args.text.now c.args.room some (omega (arith, c.in_err-room.ensures)) count network within has)

pub returns-in_err-label-clause-only : goal.returns-in_err-label-clause-only
returns-in_err-label-clause-only t c = λ count network within has.
    let some : length c.args.text.now ≢ 0 = search rules in
    absurd (no_label c.args.family c.args.text.now c.args.room some c.in_err-label.ensures count network within has)

pub returns-in_err-number-clause-only : goal.returns-in_err-number-clause-only
returns-in_err-number-clause-only t c = λ count network within has.
    let some : length c.args.text.now ≢ 0 = search rules in
    absurd (no_rest c.args.family c.args.text.now c.args.room some c.in_ok-room.room c.in_ok-label.label c.in_ok-label.rest.now
    c.in_ok-room.ensures.1 c.in_ok-room.ensures.0 c.in_ok-label.ensures
    (λ k p few labels. let none = c.in_err-number.ensures.only k p few labels in cc) count network within has)

pub with_label-requires : goal.with_label-requires
with_label-requires t c =
    sum_fits c.args.family c.args.text.now c.args.room c.in_ok-number.number c.in_ok-number.count c.in_ok-label.label c.in_ok-room.room c.in_ok-label.ensures.0
    c.requires c.in_ok-room.ensures.1 c.in_ok-room.ensures.0 c.in_ok-number.ensures.found.0 c.in_ok-number.ensures.found.1

pub returns-clause-found : goal.returns-clause-found
returns-clause-found t c =
    let some : length c.args.text.now ≢ 0 = search rules in
    found_one c.args.family c.args.text.now c.args.room some c.in_ok-room.room c.in_ok-label.label c.in_ok-label.rest.now
    c.in_ok-room.ensures.1 c.in_ok-room.ensures.0 c.in_ok-label.ensures c.in_ok-number.number c.in_ok-number.count c.with_label.result c.with_label.ensures
    c.in_ok-number.ensures.found.0 c.in_ok-number.ensures.found.1 c.in_ok-number.ensures.found.2

pub returns-clause-only : goal.returns-clause-only
returns-clause-only t c =
    let some : length c.args.text.now ≢ 0 = search rules in
    only_one c.args.family c.args.text.now c.args.room some c.in_ok-room.room c.in_ok-label.label c.in_ok-label.rest.now
    c.in_ok-room.ensures.1 c.in_ok-room.ensures.0 c.in_ok-label.ensures c.in_ok-number.number c.in_ok-number.count c.with_label.result c.with_label.ensures
    c.in_ok-number.ensures.only
