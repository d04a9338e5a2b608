-- Bytes before the first that passes a test.
use Rattle.std.proofs.Common.{◌≡◌, ◌≢◌, ◌<◌, ◌≤◌, sym, ◌∙◌, ap, ℕ, take, slice_index_or, ◌==◌, refl, not, cond, Option, Some, None, Bool, true, false, List, [], ◌∷◌, length, arith}
use Rattle.std.specs.List.{before_first, position_or_len}
use Rattle.std.specs.Option.{MatchOption, unwrap_or}
use Rattle.std.proofs.lemmas.Bool.{ltb-false}
use lib.Dec.{ltb}
use Rattle.std.proofs.lemmas.List.Sums.{position_or_len_is, prefix_len-le-length}
use Rattle.std.proofs.Math.Seq.{take-length}
use Rattle.cidr_io.specs.Lines.{HasNoFeed, IsFirstFeed, is_line_feed}

-- where the first byte is that passes, or behind the last
pub place_or_len : (p : ℕ → Bool) (line : List ℕ) (place : Option ℕ) (len : ℕ)
    → place ≡ cond (ltb (position_or_len p line) (length line)) (Some (position_or_len p line)) None
    → len ≡ unwrap_or place (length line) → (len ≡ position_or_len p line) × (len ≤ length line)
place_or_len p line place len found is =
    let most = prefix_len-le-length (λ b. not (p b)) line in
    let same : len ≡ position_or_len p line =
    is ∙ (ap (λ (k : Option ℕ). unwrap_or k (length line)) found ∙ by (ltb (position_or_len p line) (length line)) refl) in
    (same, omega (arith, most, same))
  where
    by : (b : Bool) → ltb (position_or_len p line) (length line) ≡ b → unwrap_or (cond b (Some (position_or_len p line)) None) (length line) ≡ position_or_len p line
    by true here = refl
    by false past = omega (arith, prefix_len-le-length (λ b. not (p b)) line, ltb-false (position_or_len p line) (length line) past)

-- the same of a line feed
pub feed_or_len : (text : List ℕ) (place : Option ℕ) (len : ℕ) → MatchOption place (HasNoFeed text) (IsFirstFeed text)
    → len ≡ unwrap_or place (length text) → (len ≡ position_or_len is_line_feed text) × (len ≤ length text)
feed_or_len text (Some at) len feed is =
    (is ∙ sym (position_or_len_is is_line_feed text at 0 (omega (arith, feed.within)) feed.before (λ _. feed.here)), omega (arith, is, feed.within))
feed_or_len text None len none is =
    (is ∙ sym (position_or_len_is is_line_feed text (length text) 0 (omega arith) none (λ h. absurd (omega (arith, h)))), omega (arith, is))

-- a line without a byte that passes
pub uncut : (p : ℕ → Bool) (line : List ℕ) (place : ℕ) → ((k : ℕ) → k < place → p (slice_index_or line k 0) ≡ false)
    → length line ≤ place → line ≡ before_first p line
uncut p line place below past =
    let all : (k : ℕ) → k < length line → p (slice_index_or line k 0) ≡ false = λ k h. below k (omega arith) in
    let none : length line < length line → p (slice_index_or line (length line) 0) ≡ true = λ h. absurd (omega (arith, h)) in
    sym (ap (λ (k : ℕ). take k line) (position_or_len_is p line (length line) 0 (omega arith) all none) ∙ take-length line)

pub not_empty : (field : List ℕ) (test : Bool) → test ≡ (length field == 0) → test ≡ false → field ≢ []
not_empty [] test is fails = λ e. cc
not_empty (b ∷ field) test is fails = λ e. cc
