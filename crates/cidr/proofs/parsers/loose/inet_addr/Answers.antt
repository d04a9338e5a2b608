-- The last number fills what the octets leave.
use Rattle.std.proofs.Common.{◌≡◌, ◌-◌, ◌*◌, ◌/◌, ◌%◌, ◌^◌, arith}
use Rattle.std.proofs.lemmas.Nat.{shl_whole}
use Rattle.cidr.proofs.LooseGrammar.{loose_value}
use Rattle.cidr.proofs.parsers.loose.inet_addr.Goals as goal

pub returns : goal.returns
returns c =
    let parts = c.in_ok-parts.parts in
    let free = 32 - 8 * parts.count in
    let small : parts.last / 2 ^ free ≡ 0 = cc in
    let whole : parts.front * 2 ^ free % 2 ^ 64 ≡ parts.front * 2 ^ free = shl_whole parts.front 32 free 64 (omega (arith, c.from.ensures)) (omega arith) in
    rw (c.from_bits.ensures, c.from.ensures, c.from-last.ensures, whole) (loose_value c.args.s.now parts.front parts.count parts.last (rw c.as_bytes.ensures.value at c.in_ok-parts.ensures) small)
