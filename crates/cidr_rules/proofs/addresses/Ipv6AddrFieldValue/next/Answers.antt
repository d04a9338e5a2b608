use Rattle.std.proofs.Common.{◌+◌, ◌∙◌, ap, arith}
use Rattle.cidr.specs.model.Bits.{number}
use Rattle.cidr.specs.laws.BitLaws.{number-bits}
use Rattle.cidr_rules.proofs.addresses.Ipv6AddrFieldValue.next.Goals as goal

pub returns : goal.returns
returns c = ap number c.from_bits.ensures ∙ number-bits 128 (c.to_bits-value.result + 1) (omega arith) ∙ ap (λ n. n + 1) c.to_bits-value.ensures.value
