use Rattle.std.proofs.Common.{ap, sym, arith, length, ◌≡◌, ◌∙◌, ◌^◌}
use Rattle.cidr.specs.laws.BitLaws.{number-lt}
use Rattle.cidr.specs.model.Network.{width_of}
use Rattle.cidr_mmdb.proofs.searching.Search.answer.Goals as goal

pub walk-walk-requires-clause-fits : goal.walk-walk-requires-clause-fits
walk-walk-requires-clause-fits g c =
    let bits = g.C.Address.PrivUnspecAddress.bits c.args.address in
    let width : length bits ≡ c.from-width.result = c.to_number.ensures.width ∙ sym (c.from-width.ensures ∙ c.len.ensures ∙ ap width_of c.FAMILY.ensures) in
    omega (arith, c.to_number.ensures.value, number-lt bits, ap (λ n. 2 ^ n) width)
