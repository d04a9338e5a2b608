use Rattle.std.proofs.Common.{◌∙◌, ◌^◌, ap, subst}
use Rattle.cidr.specs.either.IpNetwork.{specific}
use Rattle.cidr_mmdb.specs.LookUps.{looked_up}
use Rattle.cidr_mmdb.specs.Rows.{IsNextRow, IsPassed, begin_behind}
use Rattle.cidr_c.specs.model.Mmdb.{most_passed}
use Rattle.cidr_c.proofs.MmdbRows.{next_told, none_told, same_row}
use Rattle.cidr_c.proofs.mmdb.pcidr_mmdb_next.Goals as goal

pub returns-in-Some-next_row_in : goal.returns-in-Some-next_row_in
returns-in-Some-next_row_in c =
    let bytes = c.args.bytes.now in
    let next = c.in-Some-next_row_in.next in
    let new = c.put_row.new.row in
    let taken = c.in-Some.ensures in
    let after = c.one_family.ensures ∙ ap specific taken.1 in
    next_told bytes c.args.file.now c.args.row.now new next taken.0 c.put_row.ensures.row (same_row new next c.put_row.ensures.network c.put_row.ensures.found)
    (λ database of. subst (λ a. IsNextRow (looked_up database) database.width (begin_behind a) most_passed next) after
    (c.in-Some-next_row_in.ensures database (c.parts_of.ensures bytes database of)))

pub returns-in-None : goal.returns-in-None
returns-in-None c =
    let bytes = c.args.bytes.now in
    let taken = c.in-Some.ensures in
    let after = c.one_family.ensures ∙ ap specific taken.1 in
    none_told bytes c.args.file.now c.args.row.now taken.0
    (λ database of. subst (λ a. IsPassed (looked_up database) database.width (begin_behind a) (2 ^ database.width)) after
    (c.in-None.ensures database (c.parts_of.ensures bytes database of)))
