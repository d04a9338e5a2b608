-- Of a string that is rejected for a set bit after the prefix alone, ignoring such bits gives the network.
use Rattle.std.proofs.Common.{Ok, Err, sym, ◌∙◌, subst}
use Rattle.cidr.specs.texts.AddressText.{IsAddressText, Reads}
use Rattle.cidr.specs.texts.Messages.{ipv4_error}
use Rattle.cidr.specs.declared.errors.NetworkParseError.TheVariants.{InvalidHostPart}
use Rattle.cidr.specs.declared.family.Family.TheVariants.{Ipv4}
use Rattle.cidr_uses.proofs.Readings.{never_refused, masked}
use Rattle.cidr_uses.proofs.reading.network_and_note.Goals as goal

pub returns-in-Ok : goal.returns-in-Ok
returns-in-Ok c =
    c.parsing_around_strict_ipv4_is_strict.ensures.network (λ text r h. subst (λ t. Reads (IsAddressText Ipv4) ipv4_error t r) h.shows h.says.met)
    c.args.s.now (Ok c.in-Ok.network) c.in-Ok.ensures

pub returns-in-Err-2 : goal.returns-in-Err-2
returns-in-Err-2 c =
    let tells = c.equal_errors_are_the_same.ensures.network c.in-Err.e InvalidHostPart in
    let read = c.parsing_around_strict_ipv4_is_strict.ensures.network (λ text r h. subst (λ t. Reads (IsAddressText Ipv4) ipv4_error t r) h.shows h.says.met)
    c.args.s.now (Err c.in-Err.e) c.in-Err.ensures in
    (λ same. absurd (let one = sym (tells.1 same) ∙ sym c.eq.ensures ∙ c.if-eq.false in cc), read.0)

pub returns-in_ok-parse_cidr_ignore_hostbits-in-Err : goal.returns-in_ok-parse_cidr_ignore_hostbits-in-Err
returns-in_ok-parse_cidr_ignore_hostbits-in-Err c =
    let same = (c.equal_errors_are_the_same.ensures.network c.in-Err.e InvalidHostPart).0 (sym c.eq.ensures ∙ c.if-eq.true) in
    let strict = rw same at c.in-Err.ensures in
    let read = c.parsing_around_strict_ipv4_is_strict.ensures.network (λ text r h. subst (λ t. Reads (IsAddressText Ipv4) ipv4_error t r) h.shows h.says.met)
    c.args.s.now (Err InvalidHostPart) strict in (
      read.0,
      masked _ (λ text r h. subst (λ t. Reads (IsAddressText Ipv4) ipv4_error t r) h.shows h.says.met) c.args.s.now
          c.ipv4_text_spells_one.ensures c.last_cut_is_one.ensures.one c.last_cut_is_one.ensures.slash c.ignoring_host_bits_accepts_them.ensures strict
          _ c.in_ok-parse_cidr_ignore_hostbits-in-Err.ensures,
    )

pub returns-in_err-parse_cidr_ignore_hostbits-in-Err : goal.returns-in_err-parse_cidr_ignore_hostbits-in-Err
returns-in_err-parse_cidr_ignore_hostbits-in-Err c =
    let same = (c.equal_errors_are_the_same.ensures.network c.in-Err.e InvalidHostPart).0 (sym c.eq.ensures ∙ c.if-eq.true) in
    let strict = rw same at c.in-Err.ensures in
    absurd (never_refused _ (λ text r h. subst (λ t. Reads (IsAddressText Ipv4) ipv4_error t r) h.shows h.says.met) c.args.s.now
    c.ipv4_text_spells_one.ensures c.last_cut_is_one.ensures.one c.last_cut_is_one.ensures.slash c.ignoring_host_bits_accepts_them.ensures strict
    _ c.in_err-parse_cidr_ignore_hostbits-in-Err.ensures)
