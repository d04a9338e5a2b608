use Rattle.std.proofs.Common.{sym, subst}
use Rattle.std.proofs.lemmas.Nat.{shl-shr}
use Rattle.cidr.specs.model.Bits.{bits}
use Rattle.cidr_table.specs.model.Prefixes.{IsLongestMatch}
use Rattle.cidr_lookup.specs.Keys.{prefix_bits, row_behind}
use Rattle.cidr_lookup.proofs.search.find.Goals as goal

pub returns : goal.returns
returns g c = λ networks table.
    let w = g.A.Address.width in
    let value = g.A.Address.value c.args.address in
    let known = c.value_by_steps.ensures networks table in
    subst (λ r. IsLongestMatch (prefix_bits w) (bits w value) networks r) (sym c.row.ensures)
    (subst (λ a. IsLongestMatch (prefix_bits w) (bits w a) networks (row_behind c.value_by_steps.result)) (shl-shr value g.A.Address.padding) known)
