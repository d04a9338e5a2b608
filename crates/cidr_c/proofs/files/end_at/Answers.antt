use Rattle.std.proofs.Common.{◌≡◌, ◌∙◌, ap, subst, arith, ◌+◌, ◌-◌, Some}
use Rattle.cidr.specs.model.Bits.{bits}
use Rattle.cidr_table.specs.model.Prefixes.{IsLongestMatch}
use Rattle.cidr_lookup.specs.Keys.{prefix_bits}
use Rattle.cidr_files.specs.Tables.{stored_networks}
use Rattle.cidr_c.specs.model.Files.{parts_at}
use Rattle.cidr_c.proofs.Founds.{row_behind_some}
use Rattle.cidr_c.proofs.files.end_at.Goals as goal

pub returns-in-Some-clause-longest : goal.returns-in-Some-clause-longest
returns-in-Some-clause-longest g c = λ size inside good.
    let w = g.W.Address.width in
    let networks = stored_networks g.W.FileAddress.numbers (parts_at size c.args.table.now c.args.bytes.now) in
    let row = c.in-Some.row in
    let before : row ≡ row + 1 - 1 = omega arith in
    subst (λ r. IsLongestMatch (prefix_bits w) (bits w (g.W.Address.value c.args.address)) networks r)
    (ap Some before ∙ row_behind_some (row + 1) (omega arith)) (c.in-Some.ensures.longest size inside good)
