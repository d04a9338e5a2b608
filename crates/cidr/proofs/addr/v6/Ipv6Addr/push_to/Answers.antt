-- A mapped address is printed with its IPv4 part, every other one in groups.
use Rattle.std.proofs.Common.{◌≡◌, ◌%◌, ◌^◌, arith, bit_and, sym, ap, ◌∙◌, ◌++◌, append_assoc, codes}
use Rattle.cidr.specs.model.Bits.{number}
use Rattle.cidr.proofs.StepNumbers.{low_word}
use Rattle.cidr.proofs.GroupParts.{low_bits}
use Rattle.cidr.proofs.Ipv6Printing.{printed_mapped, printed_groups_alone}
use Rattle.cidr.proofs.addr.v6.Ipv6Addr.push_to.Goals as goal

pub returns-then-is_mapped-clause-bytes : goal.returns-then-is_mapped-clause-bytes
returns-then-is_mapped-clause-bytes g c =
    let a = c.args.self.now in
    let old = c.args.text.now.bytes in
    let mapped = sym c.if-is_mapped.ensures.value in
    let half = c.lower.ensures ∙ ap (λ n. n % 2 ^ 64) c.halves.ensures.value in
    let word : bit_and c.lower.result 4294967295 ≡ number a % 2 ^ 32 = low_word c.lower.result ∙ omega (arith, half) in
    rw (c.push_to.ensures.bytes, c.push_str.ensures.bytes, c.from_bits.ensures, word, low_bits a c.halves.ensures.width)
    (append_assoc old (codes "::ffff:") _ ∙ ap (λ t. old ++ t) (printed_mapped a mapped))

pub returns-else-is_mapped-clause-bytes : goal.returns-else-is_mapped-clause-bytes
returns-else-is_mapped-clause-bytes g c =
    let a = c.args.self.now in
    let other = sym c.if-is_mapped.ensures.value in
    rw (c.push_hex_groups.ensures.bytes, c.segments.ensures.value) (ap (λ t. c.args.text.now.bytes ++ t) (printed_groups_alone a other))
