-- A text about routes, read line by line from its bytes: how far it was read.
use Rattle.std.proofs.Common.{◌≡◌, refl, sym, ◌∙◌, ap, subst, inl, inr, arith, ℕ, ◌+◌, ◌<◌, ◌≤◌, List, [], ◌∷◌, ◌++◌, length, take, drop, append_assoc, length-append, Result, Ok, Err}
use Rattle.std.specs.List.{AllZip, position_or_len}
use Rattle.std.specs.Result.{MatchResult}
use Rattle.std.proofs.lemmas.List.{length-drop, length-take}
use Rattle.cidr_lists.specs.ListLines.{is_line_feed, kept_of, lines_of, most_bytes}
use Rattle.cidr_lists.specs.RouteErrors.{IsBadRouteBy, IsFirstBadFrom}
use Rattle.cidr_lists.specs.declared.errors.LineError.TheVariants as error
use Rattle.cidr_lists.specs.declared.route_errors.RouteError.{RouteError}
use Rattle.cidr_lists.specs.declared.route_errors.RouteError.TheVariants.{Line}
use Rattle.cidr_lists.specs.declared.route_errors.RouteListError.{RouteListError}
use Rattle.cidr_lists.proofs.WholeTexts.{cut_any, cut_first, cut_last, kept_short, zip_push}

-- ---- one line, as far as it is kept
module _ (IsBad : List ℕ → RouteError → Type 0) (line : List ℕ) where
  pub long_line : most_bytes < length line → IsBadRouteBy IsBad (kept_of line) (Line error.TooLong)
  long_line long = inl (refl, omega (arith, long, length-take (most_bytes + 1) line))

  pub short_bad : (e : RouteError) → length line ≤ most_bytes → IsBad line e → IsBadRouteBy IsBad (kept_of line) e
  short_bad e fits bad =
      subst (λ (k : List ℕ). IsBadRouteBy IsBad k e) (sym (kept_short line fits)) (inr ((λ long. omega (arith, fits, long)), bad))

pub short_says : {S : Type 0} (Says : List ℕ → S → Type 0) (line : List ℕ) (said : S) → length line ≤ most_bytes → Says line said
    → ¬ (most_bytes < length (kept_of line)) × Says (kept_of line) said
short_says Says line said fits says =
    subst (λ (k : List ℕ). ¬ (most_bytes < length k) × Says k said) (sym (kept_short line fits)) ((λ long. omega (arith, fits, long)), says)

-- ---- how far a text was read
-- of these lines, of which the first has this number, and of so many bytes
module _ {L S : Type 0} (Says : List ℕ → S → Type 0) (Have : L → List S → Type 0) (first size : ℕ) (all : List (List ℕ)) where
  -- the lines before the rest were read
  pub record PassedUpTo (rest : List ℕ) (number : ℕ) (lists : L) : Type 0 where
    pub before : List (List ℕ)
    pub lines : all ≡ before ++ lines_of rest
    pub place : number ≡ first + length before
    pub room : number + length rest ≤ size + 1
    pub said : List S
    pub says : AllZip Says before said
    pub have : Have lists said

  pub none_passed : (rest : List ℕ) (lists : L) → all ≡ lines_of rest → first + length rest ≤ size + 1 → Have lists [] → PassedUpTo rest first lists
  none_passed rest lists lines room none = record {
    before = [];
    lines = lines;
    place = omega arith;
    room = room;
    said = [];
    says = tt;
    have = none;
  }

  module _ (rest line : List ℕ) (n number : ℕ) (lists : L) (is : n ≡ position_or_len is_line_feed rest) (cut : line ≡ take n rest)
      (up : PassedUpTo rest number lists) where
    module _ (new : L) (one : S) (says : Says (kept_of line) one) (have : Have new (up.said ++ one ∷ [])) where
      pub line_passed : (next : List ℕ) → n < length rest → drop (n + 1) rest ≡ next → PassedUpTo next (number + 1) new
      line_passed next within behind =
          let kept = kept_of line in
          let front : lines_of rest ≡ kept ∷ lines_of (drop (n + 1) rest) =
          cut_first rest n is within ∙ ap (λ (k : List ℕ). kept_of k ∷ lines_of (drop (n + 1) rest)) (sym cut) in
          let lines : lines_of rest ≡ kept ∷ lines_of next = front ∙ ap (λ (k : List ℕ). kept ∷ lines_of k) behind in
          record {
            before = up.before ++ kept ∷ [];
            lines = up.lines ∙ (ap (λ (k : List (List ℕ)). up.before ++ k) lines ∙ sym (append_assoc up.before (kept ∷ []) (lines_of next)));
            place = omega (arith, up.place, length-append up.before (kept ∷ []));
            room = omega (arith, up.room, ap length behind, length-drop (n + 1) rest, within);
            said = up.said ++ one ∷ [];
            says = zip_push Says up.before up.said kept one up.says says;
            have = have;
          }

      pub last_passed : n ≡ length rest → (said : List S) × AllZip Says all said × Have new said
      last_passed whole =
          let kept = kept_of line in
          let last : lines_of rest ≡ kept ∷ [] = cut_last rest n is whole ∙ ap (λ (k : List ℕ). kept_of k ∷ []) (sym cut) in
          let lines : all ≡ up.before ++ kept ∷ [] = up.lines ∙ ap (λ (k : List (List ℕ)). up.before ++ k) last in (
            up.said ++ one ∷ [],
            subst (λ (k : List (List ℕ)). AllZip Says k (up.said ++ one ∷ [])) (sym lines) (zip_push Says up.before up.said kept one up.says says),
            have,
          )

    pub bad_line : (IsBad : List ℕ → RouteError → Type 0) (e : RouteError) (k : ℕ) → n ≤ length rest → k ≡ number → IsBad (kept_of line) e
        → IsFirstBadFrom first (AllZip Says) IsBad all k e
    bad_line IsBad e k fits same bad =
        let (after, front) = cut_any rest n is fits in
        record {
          before = up.before;
          line = kept_of line;
          after = after;
          lines = up.lines ∙ ap (λ (k : List (List ℕ)). up.before ++ k) (front ∙ ap (λ (k : List ℕ). kept_of k ∷ after) (sym cut));
          place = same ∙ up.place;
          said = up.said;
          fine = up.says;
          fault = bad;
        }

-- what is passed on of an error
pub passed_on : {V : Type 0} (Is : V → Type 0) (IsBad : RouteListError → Type 0) (r : Result V RouteListError) (y e : RouteListError) → r ≡ Err y → y ≡ e → IsBad e
    → MatchResult r Is IsBad
passed_on Is IsBad (Ok v) y e is same bad = cc
passed_on Is IsBad (Err f) y e is same bad =
    let own : f ≡ y = cc in
    subst IsBad (sym (own ∙ same)) bad
