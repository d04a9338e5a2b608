use Rattle.std.proofs.Common.{◌≡◌, ◌∙◌, ap, arith, ◌<◌, take}
use Rattle.cidr.specs.model.Bits.{bits}
use Rattle.cidr.specs.declared.cidr.any.AnyIpCidr.TheVariants.{V4}
use Rattle.cidr_c.proofs.Networks.{ipv4_in_value, low_part}
use Rattle.cidr_c.proofs.values.network_at.Goals as goal

pub returns-then-value-lt-IPV6 : goal.returns-then-value-lt-IPV6
returns-then-value-lt-IPV6 c =
    let v = c.args.value.now in
    let small : v.tag < 64 = omega arith in
    let address : c.new_host-network.result ≡ bits 32 v.low = c.new_host-network.ensures.value ∙ (c.from_bits.ensures ∙ low_part v.low) in
    let clipped : c.clip.new.self ≡ take v.tag (bits 32 v.low) =
    c.clip.ensures.bits ∙ (ap (λ n. take n c.new_host-network.result) c.from.ensures ∙ ap (λ p. take v.tag p) address) in
    rw (ipv4_in_value v small) (ap V4 clipped)
