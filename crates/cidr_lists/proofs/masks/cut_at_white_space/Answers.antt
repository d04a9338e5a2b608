use Rattle.std.proofs.Common.{◌≡◌, ◌<◌, ◌≤◌, ℕ, List, false, length, take, drop, get_or, not, ap, sym, ◌∙◌, subst, arith, tests}
use Rattle.std.specs.Char.{is_ascii_whitespace}
use Rattle.std.specs.List.{position_or_len}
use Rattle.std.specs.Str.{IsCharBoundary, IsTrimAsciiStart}
use Rattle.std.proofs.lemmas.List.Sums.{prefix_len_stops}
use Rattle.cidr_lists.proofs.masks.cut_at_white_space.Goals as goal

is_ascii : (byte : ℕ) → not (is_ascii_whitespace byte) ≡ false → byte < 128
is_ascii byte h = grind (arith, tests)

-- a string may be cut before its first white space
at_white_space : (text : List ℕ) (n : ℕ) → n ≡ position_or_len is_ascii_whitespace text → n ≤ length text → IsCharBoundary text n
at_white_space text n first most = (
  most,
  λ within high. absurd (omega (
    arith,
    high,
    first,
    is_ascii (get_or text n 0) (rw first (prefix_len_stops (λ b. not (is_ascii_whitespace b)) text 0 (omega (arith, within, first)))),
  )),
)

pub split_at-requires : goal.split_at-requires
split_at-requires c =
    at_white_space c.args.text.now c.len_to_white_space.result
    (c.len_to_white_space.ensures.first ∙ ap (λ (k : List ℕ). position_or_len is_ascii_whitespace k) c.as_bytes.ensures.value)
    (omega (arith, c.len_to_white_space.ensures.fits, ap length c.as_bytes.ensures.value))

pub returns : goal.returns
returns c = record {
  front = c.split_at.ensures.front ∙ ap (λ (n : ℕ). take n c.args.text.now) c.len_to_white_space.ensures.first
      ∙ ap (λ (k : List ℕ). take (position_or_len is_ascii_whitespace k) c.args.text.now) c.as_bytes.ensures.value;
  back = subst (λ (k : List ℕ). IsTrimAsciiStart k c.trim_ascii_start.result.now)
      (c.split_at.ensures.back ∙ ap (λ (n : ℕ). drop n c.args.text.now) (sym c.split_at.ensures.front_len)) c.trim_ascii_start.ensures.value;
}
