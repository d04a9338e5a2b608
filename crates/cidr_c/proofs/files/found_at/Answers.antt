use Rattle.std.proofs.Common.{◌≡◌, sym, subst, arith, inl, inr, ◌-◌, length}
use Rattle.std.proofs.lemmas.Bool.{cases_lt}
use Rattle.cidr.specs.model.Bits.{bits}
use Rattle.cidr_table.specs.model.Prefixes.{IsLongestMatch}
use Rattle.cidr_lookup.specs.Keys.{prefix_bits}
use Rattle.cidr_files.specs.Tables.{stored_networks}
use Rattle.cidr_c.specs.model.Files.{IsFoundInParts, parts_at}
use Rattle.cidr_c.specs.declared.files.CFound.{CFound}
use Rattle.cidr_c.proofs.Founds.{nothing_there, row_behind_none, row_behind_some, row_there}
use Rattle.cidr_c.proofs.files.found_at.Goals as goal

pub returns-then-table-eq0 : goal.returns-then-table-eq0
returns-then-table-eq0 g c = λ size.
    let w = g.W.Address.width in
    let networks = stored_networks g.W.FileAddress.numbers (parts_at size c.args.table.now c.args.bytes.now) in
    nothing_there w g.W.Address.padding g.W.FileAddress.numbers size c.args.table.now c.args.bytes.now (g.W.Address.value c.args.address) c.nothing.result c.nothing.ensures
    (λ inside good. subst (λ r. IsLongestMatch (prefix_bits w) (bits w (g.W.Address.value c.args.address)) networks r)
    (sym (row_behind_none c.end_at-end.result (omega (arith, c.end_at-end.ensures.within)))) (c.end_at-end.ensures.longest size inside good))

pub returns : goal.returns
returns g c = λ size.
    let w = g.W.Address.width in
    let padding = g.W.Address.padding in
    let numbers = g.W.FileAddress.numbers in
    let table = c.args.table.now in
    let bytes = c.args.bytes.now in
    let address = g.W.Address.value c.args.address in
    let end = c.end_at-end.result in
    let networks = stored_networks numbers (parts_at size table bytes) in
    let place = c.place_at.result in
    let longest = c.end_at-end.ensures.longest size in
    elim (cases_lt 0 end) [
      | inl some ↦
          subst (λ (f : CFound). IsFoundInParts w padding numbers size table bytes address f) (sym (c.found_of.ensures.some some))
          (row_there w padding numbers size table bytes address (end - 1) place.0 place.1 (omega (arith, c.end_at-end.ensures.within)) (omega (arith, c.end_at-end.ensures.within))
          c.place_at.ensures.inside
          (λ inside good. subst (λ r. IsLongestMatch (prefix_bits w) (bits w address) networks r) (sym (row_behind_some end some)) (longest inside good))
          (λ inside good within. c.place_at.ensures.value some size inside (length networks) within good))
      | inr none ↦
          let zero : end ≡ 0 = omega arith in
          nothing_there w padding numbers size table bytes address c.found_of.result (c.found_of.ensures.none zero)
          (λ inside good. subst (λ r. IsLongestMatch (prefix_bits w) (bits w address) networks r) (sym (row_behind_none end zero)) (longest inside good))
    ]
