-- `any`, or a text of either family.
use Rattle.std.proofs.Common.{inl, inr}
use Rattle.cidr.proofs.ShortParsing.{short_ip_read}
use Rattle.cidr.proofs.parsers.short.parse_short_any_ip_cidr.Goals as goal

pub returns : goal.returns
returns c =
    elim c.parse_any_cidr_full.ensures [
      | inl h ↦ inl h
      | inr (other, network, h, same) ↦ inr (other, network, short_ip_read c.args.s.now network h (λ t x k. k) (λ t r k. k), same)
    ]
