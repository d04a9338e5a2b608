-- Numbers in lines about routes, the fields of payloads, and files of them.
use Rattle.std.proofs.Common.{◌≡◌, refl, sym, ◌∙◌, ap, subst, inl, inr, arith, ℕ, zero, suc, ◌+◌, ◌<◌, ◌≤◌, ◌==◌, Bool, true, false, cond, List, [], ◌∷◌, ◌++◌, length, take, drop, IsAscii, IsUtf8, Option, Result, Ok, Err}
use Rattle.std.specs.List.{position_or_len}
use Rattle.std.specs.Result.{MatchResult}
use Rattle.std.specs.Str.Parse.{AllDigits, IsNumeral, without_leading_plus}
use Rattle.std.proofs.lemmas.Bool.Decides.{Decides-eqb}
use Rattle.std.proofs.lemmas.List.{flat_map_more}
use Rattle.std.proofs.lemmas.Str.{IsUtf8-from_ascii}
use Rattle.std.proofs.lemmas.Str.Parse.{digit_from_value}
use Rattle.cidr.specs.declared.family.Family.{Family}
use Rattle.cidr_lists.specs.ListLines.{IsTooLong, is_line_feed, kept_of, lines_of}
use Rattle.cidr_lists.specs.PayloadFiles.{FileSays, HavePayloads, IsBadPayload, IsFirstBadOf, IsHeader, IsPayloadsError, PayloadSays, payload_in, payloads_in, payloads_of}
use Rattle.cidr_lists.specs.PayloadReading.{AddsPayloadLine, HavePayloadsBehind, IsBehindError, PayloadsGrow, ReadsHeader}
use Rattle.cidr_lists.specs.declared.payloads.IpPayload.{IpPayload}
use Rattle.cidr_lists.specs.declared.payloads.PayloadLayout.{PayloadLayout}
use Rattle.cidr_lists.specs.declared.payloads.PayloadLists.{PayloadLists}
use Rattle.cidr_lists.specs.declared.route_errors.RouteListError.{RouteListError}
use Rattle.cidr_lists.specs.declared.route_errors.RouteListError.TheVariants.{Line, NoMemory}
use Rattle.cidr_lists.proofs.LinesPassed.{PassedUpTo, bad_line, last_passed, line_passed, none_passed}
use Rattle.cidr_lists.proofs.WholeTexts.{cut_any, cut_first, cut_last}

-- ---- numbers are ASCII
digits_ascii : (ds : List ℕ) → AllDigits 10 ds → IsAscii ds
digits_ascii [] h i = omega arith
digits_ascii (c ∷ ds) h zero = let r = digit_from_value c h.0 in omega (arith, r.0, r.1)
digits_ascii (c ∷ ds) h (suc i) = digits_ascii ds h.1 i

number_ascii : (text : List ℕ) → AllDigits 10 (without_leading_plus text) → IsAscii text
number_ascii [] h i = omega arith
number_ascii (c ∷ text) h i = by (c == 43) refl h i
  where
    by : (b : Bool) → (c == 43) ≡ b → AllDigits 10 (drop (cond b 1 0) (c ∷ text)) → IsAscii (c ∷ text)
    by true plus ds zero = let e : c ≡ 43 = (Decides-eqb c 43).0 plus in omega (arith, e)
    by true plus ds (suc i) = digits_ascii text ds i
    by false other ds i = digits_ascii (c ∷ text) ds i

pub number_utf8 : (text : List ℕ) → IsNumeral 10 (without_leading_plus text) → IsUtf8 text
number_utf8 text h = IsUtf8-from_ascii text (number_ascii text h.1)

-- ---- a file
abbrev pub Have : PayloadLists → List (Option IpPayload) → Type 0
Have lists said = (family : Family) → payloads_of lists family ≡ payloads_in family said

-- the payloads of the lines before the rest
abbrev pub PayloadsUpTo : PayloadLayout → List ℕ → List ℕ → ℕ → PayloadLists → Type 0
PayloadsUpTo layout text rest number lists = PassedUpTo (PayloadSays layout) Have 2 (length text + 1) (lines_of text) rest number lists

module _ (layout : PayloadLayout) (text : List ℕ) where
  pub no_payloads : (lists : PayloadLists) → ((family : Family) → payloads_of lists family ≡ []) → PayloadsUpTo layout text text 2 lists
  no_payloads lists none = none_passed (PayloadSays layout) Have 2 (length text + 1) (lines_of text) text lists refl (omega arith) none

  more_payloads : (lists new : PayloadLists) (said : List (Option IpPayload)) (one : Option IpPayload) → Have lists said
      → PayloadsGrow lists new (λ family. payload_in family one) → Have new (said ++ one ∷ [])
  more_payloads lists new said one have grows family =
      grows family
      ∙ (ap (λ k. k ++ payload_in family one) (have family) ∙ flat_map_more (payload_in family) [] said one)

  module _ (rest line : List ℕ) (n number : ℕ) (lists new : PayloadLists) (is : n ≡ position_or_len is_line_feed rest) (cut : line ≡ take n rest)
      (up : PayloadsUpTo layout text rest number lists) where
    pub payload_passed : (next : List ℕ) → n < length rest → drop (n + 1) rest ≡ next → AddsPayloadLine layout (kept_of line) number lists new (Ok tt)
        → PayloadsUpTo layout text next (number + 1) new
    payload_passed next inside after (one, says, grows) =
        line_passed (PayloadSays layout) Have 2 (length text + 1) (lines_of text) rest line n number lists is cut up new one says
        (more_payloads lists new up.said one up.have grows) next inside after

    pub payloads_read : n ≡ length rest → AddsPayloadLine layout (kept_of line) number lists new (Ok tt) → HavePayloadsBehind layout text new
    payloads_read whole (one, says, grows) =
        last_passed (PayloadSays layout) Have 2 (length text + 1) (lines_of text) rest line n number lists is cut up new one says
        (more_payloads lists new up.said one up.have grows) whole

    pub payloads_error : n ≤ length rest → (e : RouteListError) → AddsPayloadLine layout (kept_of line) number lists new (Err e) → IsBehindError layout text e
    payloads_error fits NoMemory h = tt
    payloads_error fits (Line k e) h =
        bad_line (PayloadSays layout) Have 2 (length text + 1) (lines_of text) rest line n number lists is cut up (IsBadPayload layout) e k fits h.0 h.1

module _ (text header : List ℕ) (n : ℕ) (is : n ≡ position_or_len is_line_feed text) (cut : header ≡ take n text) where
  pub header_error : n ≤ length text → (e : RouteListError) → ReadsHeader (kept_of header) (Err e) → IsPayloadsError text e
  header_error fits NoMemory h = tt
  header_error fits (Line number e) h =
      let (after, front) = cut_any text n is fits in
      subst (λ (k : List (List ℕ)). IsFirstBadOf k number e) (sym (front ∙ ap (λ (k : List ℕ). kept_of k ∷ after) (sym cut))) (inl h)

  module _ (layout : PayloadLayout) (ok : ¬ (IsTooLong (kept_of header)) × IsHeader layout (kept_of header)) where
    pub header_alone : n ≡ length text → (lists : PayloadLists) → ((family : Family) → payloads_of lists family ≡ []) → HavePayloads text lists
    header_alone whole lists none = (
      layout,
      [],
      subst (λ (k : List (List ℕ)). FileSays layout k []) (sym (cut_last text n is whole ∙ ap (λ (k : List ℕ). kept_of k ∷ []) (sym cut))) (ok, tt),
      none,
    )

    module _ (first : List ℕ) (within : n < length text) (behind : drop (n + 1) text ≡ first) where
      all_lines : lines_of text ≡ kept_of header ∷ lines_of first
      all_lines =
          cut_first text n is within
          ∙ (ap (λ (k : List ℕ). kept_of k ∷ lines_of (drop (n + 1) text)) (sym cut) ∙ ap (λ (k : List ℕ). kept_of header ∷ lines_of k) behind)

      behind_error : (e : RouteListError) → IsBehindError layout first e → IsPayloadsError text e
      behind_error NoMemory h = tt
      behind_error (Line k e) h = subst (λ (ls : List (List ℕ)). IsFirstBadOf ls k e) (sym all_lines) (inr (layout, ok, h))

      pub file_read : (r : Result PayloadLists RouteListError) → MatchResult r (HavePayloadsBehind layout first) (IsBehindError layout first)
          → MatchResult r (HavePayloads text) (IsPayloadsError text)
      file_read (Ok lists) (said, all, have) =
          (layout, said, subst (λ (k : List (List ℕ)). FileSays layout k said) (sym all_lines) (ok, all), have)
      file_read (Err e) h = behind_error e h
