use Rattle.std.proofs.Common.{◌≡◌, ◌-◌, ℕ, List, ap, arith, drop, inl, inr, length, length-drop, subst, sym, take, ◌∙◌}
use Rattle.std.specs.Char.{is_ascii_whitespace}
use Rattle.std.specs.List.{prefix_len}
use Rattle.std.proofs.lemmas.Bool.{true≢false}
use Rattle.std.proofs.lemmas.List.{take_all}
use Rattle.std.proofs.lemmas.List.Sums.{prefix_len-le-length}
use Rattle.std.proofs.lemmas.Str.Ascii.{trim_ascii_start_is}
use Rattle.cidr_io.specs.Shown.{byte_excerpt}
use Rattle.cidr_lists.proofs.WholeTexts.{short_line}
use Rattle.cidr_lists.specs.Lists.{HasBadField, IsField}
use Rattle.cidr_c.specs.calls.Plans.{IsAddressText, said_end, word_end}
use Rattle.cidr_c.proofs.plans.row_in.Goals as goal

-- both addresses, of what a row says and of its name
abbrev AreTwo : List ℕ → List ℕ → Type 0
AreTwo said name = IsAddressText said × IsAddressText (take (word_end name) name)

pub returns-in-Err-clause-row : goal.returns-in-Err-clause-row
returns-in-Err-clause-row c =
    let short = short_line c.is_too_long.result c.args.line.now c.is_too_long.ensures c.if-is_too_long.false in
    let row = c.trim_ascii-row.result.now in
    inr (
      (λ long. omega (arith, short, long)),
      (
        row,
        rw c.without_comment.ensures at c.trim_ascii-row.ensures.value,
        inl (subst (λ (n : ℕ). HasBadField c.args.host_bits (take n row) c.in-Err.e) c.said_end.ensures.end c.in-Err.ensures),
      ),
    )

pub returns-then-has_two_addresses-clause-row : goal.returns-then-has_two_addresses-clause-row
returns-then-has_two_addresses-clause-row c =
    let short = short_line c.is_too_long.result c.args.line.now c.is_too_long.ensures c.if-is_too_long.false in
    let row = c.trim_ascii-row.result.now in
    let at = c.name_at-at.result in
    let whole = take_all (length row - at) (drop at row) (omega (arith, length-drop at row)) in
    let both = subst (λ (k : List ℕ). AreTwo (take c.said_end.result row) k) whole (c.has_two_addresses.ensures.0 c.if-has_two_addresses.true) in
    let two = subst (λ (n : ℕ). AreTwo (take (said_end row) row) (drop n row)) c.name_at-at.ensures.place
    (subst (λ (n : ℕ). AreTwo (take n row) (drop at row)) c.said_end.ensures.end both) in
    inr (
      (λ long. omega (arith, short, long)),
      (
        row,
        rw c.without_comment.ensures at c.trim_ascii-row.ensures.value,
        inr (two, subst (λ (n : ℕ). c.byte_excerpt.result.bytes ≡ byte_excerpt (take n row)) c.said_end.ensures.end c.byte_excerpt.ensures.text),
      ),
    )

pub returns-clause-row : goal.returns-clause-row
returns-clause-row c =
    let short = short_line c.is_too_long.result c.args.line.now c.is_too_long.ensures c.if-is_too_long.false in
    let row = c.trim_ascii-row.result.now in
    let (field, is_field, says) = c.in-Ok.ensures in
    let start = trim_ascii_start_is c.args.line.now c.trim_ascii_start.result.now c.trim_ascii_start.ensures.value in
    let at = c.name_at-at.result in
    let whole = take_all (length row - at) (drop at row) (omega (arith, length-drop at row)) in
    let indent = prefix_len is_ascii_whitespace c.args.line.now in
    record {
      row = row;
      field = field;
      fits = λ long. omega (arith, short, long);
      is_row = rw c.without_comment.ensures at c.trim_ascii-row.ensures.value;
      is_field = subst (λ (n : ℕ). IsField (take n row) field) c.said_end.ensures.end is_field;
      says = says;
      one = λ two. true≢false (sym (c.has_two_addresses.ensures.1
          (subst (λ (k : List ℕ). AreTwo (take c.said_end.result row) k) (sym whole)
          (subst (λ (n : ℕ). AreTwo (take n row) (drop at row)) (sym c.said_end.ensures.end)
          (subst (λ (n : ℕ). AreTwo (take (said_end row) row) (drop n row)) (sym c.name_at-at.ensures.place) two)))) ∙ c.if-has_two_addresses.false);
      place = omega (arith, ap length start, length-drop indent c.args.line.now, prefix_len-le-length is_ascii_whitespace c.args.line.now, c.name_at-at.ensures.place);
      size = omega (arith, ap length whole, c.name_at-at.ensures.place, c.name_at-at.ensures.fits, length-drop c.name_at-at.result row);
    }
