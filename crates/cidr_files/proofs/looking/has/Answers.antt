use Rattle.std.proofs.Common.{refl}
use Rattle.std.proofs.lemmas.Bool.{false≢true}
use Rattle.std.proofs.lemmas.Option.{get_or_from_slice_get, slice_get_within}
use Rattle.cidr_files.specs.Tables.{stored_networks, parts_in}
use Rattle.cidr_files.proofs.looking.has.Goals as goal

pub returns-in-Some : goal.returns-in-Some
returns-in-Some g c = λ good.
    let networks = stored_networks g.W.FileAddress.numbers (parts_in c.args.part.now) in
    let row = c.in-Some.field-0 in
    let m = c.in-Some.ensures.longest good in
    (λ _. (m.key, (row, slice_get_within networks row m.key m.here, get_or_from_slice_get networks row m.key m.key m.here), m.begins), λ _. refl)

pub returns-in-None : goal.returns-in-None
returns-in-None g c = λ good.
    (λ t. absurd (false≢true t), λ found. absurd (c.in-None.ensures.longest good found.0 found.1 found.2))
