-- All addresses of a network are in the keys exactly if it lies in one network of their least cover.
use Rattle.std.proofs.Common.{◌≤◌, length, map, take, arith}
use Rattle.std.specs.Map.{keys_of}
use Rattle.cidr_uses.proofs.Aggregates.{full_exactly}
use Rattle.cidr_uses.proofs.aggregate.has_all.Goals as goal

pub returns : goal.returns
returns g c =
    let bits = g.C.BitString.bits in
    let keys = map bits (keys_of c.args.table.now.rows) in
    let networks = take c.least_cover-count.result c.least_cover-count.new.out in
    let p = bits c.args.network.now in
    let cover = c.least_cover-count.ensures.cover in
    let within : length p ≤ 129 = omega (arith, c.len-len.ensures.value, c.len-len.ensures.fits) in
    let full = full_exactly bits 129 keys networks p cover (c.cover_is_exact.ensures 129 keys (map bits networks) cover)
    (λ others. c.cover_is_refined_by_others.ensures 129 keys (map bits networks) others cover) within in
    (λ t. full.0 (c.lies_in_one.ensures.0 t), λ h. c.lies_in_one.ensures.1 (full.1 h))
