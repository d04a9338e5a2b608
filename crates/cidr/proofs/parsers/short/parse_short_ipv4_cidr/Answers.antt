-- A text with no slash goes to the short reader, and one with a slash is read strictly.
use Rattle.std.proofs.Common.{subst, inl, inr}
use Rattle.cidr.specs.declared.errors.NetworkParseError.TheVariants as parse_error
use Rattle.cidr.specs.declared.family.Family.TheVariants.{Ipv4}
use Rattle.cidr.specs.texts.AddressText.{IsAddressText, Reads}
use Rattle.cidr.specs.texts.Messages.{ipv4_error}
use Rattle.cidr.specs.texts.ShortText.{IsShortText}
use Rattle.cidr.proofs.ShortParsing.{ipv4_slashed_read}
use Rattle.cidr.proofs.parsers.short.parse_short_ipv4_cidr.Goals as goal

pub returns : goal.returns
returns c =
    elim c.parse_cidr_full.ensures [
      | inl (lacks, h) ↦ inl (lacks, subst (λ t. Reads IsShortText (parse_error.AddrParseError ipv4_error) t c.parse_cidr_full.result) h.2 h.1)
      | inr h ↦
          inr (
            h.front,
            h.back,
            h.cut,
            ipv4_slashed_read c.args.s.now h.front h.back h.returned c.parse_cidr_full.result h.cut
                (subst (λ t. Reads (IsAddressText Ipv4) ipv4_error t h.returned) h.asked.2 h.asked.1) h.follows,
          )
    ]
