-- A whole list, read line by line from its bytes.
use Rattle.std.proofs.Common.{◌≡◌, refl, sym, ◌∙◌, ap, subst, inl, inr, ℕ, ◌+◌, ◌<◌, ◌≤◌, Bool, false, List, [], ◌∷◌, ◌++◌, length, take, drop, map, arith, append_assoc, length-append, Result, Ok, Err}
use Rattle.std.specs.Bool.{Decides}
use Rattle.std.specs.List.{AllZip, position_or_len}
use Rattle.std.specs.Result.{MatchResult}
use Rattle.std.proofs.lemmas.Bool.{cases_lt}
use Rattle.std.proofs.lemmas.List.{flat_map_more, length-drop, length-take, take_all}
use Rattle.std.proofs.lemmas.List.Splits.{slice_split_first, slice_split_none}
use Rattle.std.proofs.lemmas.List.Sums.{fails_before_first}
use Rattle.cidr.specs.declared.cidr.combined.IpCidr.{IpCidr}
use Rattle.cidr.specs.declared.family.Family.{Family}
use Rattle.cidr.specs.declared.family.Family.TheVariants.{Ipv4, Ipv6}
use Rattle.cidr_sets.specs.model.Sets.{IsSetOf}
use Rattle.cidr_table.specs.model.Cover.{Covers}
use Rattle.cidr_lists.specs.Lists.{AreContentNetworks, HasBadField, IsContent, IsField, IsInError, IsTooLong, LineSays, is_line_feed, kept_of, lines_of, most_bytes, line_networks, networks_in, text_by}
use Rattle.cidr_lists.specs.Reading.{Grows, listed}
use Rattle.cidr_lists.specs.Sets.{networks_of}
use Rattle.cidr_lists.specs.Texts.{AddsListLine, HaveAddresses, HaveNetworks, IsListError}
use Rattle.cidr_lists.specs.declared.errors.LineError.{LineError}
use Rattle.cidr_lists.specs.declared.errors.LineError.TheVariants.{TooLong}
use Rattle.cidr_lists.specs.declared.errors.ListError.{ListError}
use Rattle.cidr_lists.specs.declared.errors.ListError.TheVariants.{Line, NoMemory}
use Rattle.cidr_lists.specs.declared.lines.Content.{Content}
use Rattle.cidr_lists.specs.declared.lines.HostBits.{HostBits}
use Rattle.cidr_lists.specs.declared.lists.Lists.{Lists}
use Rattle.cidr_lists.specs.declared.sets.Sets.{Sets}

-- ---- one line, as far as it is kept
pub short_line : (long : Bool) (line : List ℕ) → Decides long (IsTooLong line) → long ≡ false → length line ≤ most_bytes
short_line long line is not_long =
    elim (cases_lt most_bytes (length line)) [
      | inl more ↦ let yes = is.1 more in cc
      | inr fits ↦ fits
    ]

pub kept_short : (line : List ℕ) → length line ≤ most_bytes → kept_of line ≡ line
kept_short line fits = take_all (most_bytes + 1) line (omega (arith, fits))

pub long_in_error : (bits : HostBits) (line : List ℕ) → most_bytes < length line → IsInError bits (kept_of line) TooLong
long_in_error bits line long = inl (refl, omega (arith, long, length-take (most_bytes + 1) line))

pub short_in_error : (bits : HostBits) (line : List ℕ) (e : LineError) → length line ≤ most_bytes → HasBadField bits line e → IsInError bits (kept_of line) e
short_in_error bits line e fits bad =
    subst (λ (k : List ℕ). IsInError bits k e) (sym (kept_short line fits)) (inr ((λ long. omega (arith, fits, long)), bad))

pub short_says : (bits : HostBits) (line field : List ℕ) (content : Content) (said : List IpCidr) → length line ≤ most_bytes → IsField line field
    → IsContent bits field content → AreContentNetworks content said → LineSays bits (kept_of line) said
short_says bits line field content said fits trimmed is are =
    subst (λ (k : List ℕ). LineSays bits k said) (sym (kept_short line fits)) ((λ long. omega (arith, fits, long)), field, content, trimmed, is, are)

-- ---- the lines of a text
pub cut_first : (text : List ℕ) (n : ℕ) → n ≡ position_or_len is_line_feed text → n < length text
    → lines_of text ≡ kept_of (take n text) ∷ lines_of (drop (n + 1) text)
cut_first text n is within =
    ap (map kept_of) (slice_split_first is_line_feed text 0 (omega (arith, is, within)))
    ∙ ap (λ (k : ℕ). kept_of (take k text) ∷ lines_of (drop (k + 1) text)) (sym is)

pub cut_last : (text : List ℕ) (n : ℕ) → n ≡ position_or_len is_line_feed text → n ≡ length text → lines_of text ≡ kept_of (take n text) ∷ []
cut_last text n is all =
    ap (map kept_of) (slice_split_none is_line_feed text (λ k d within. fails_before_first is_line_feed text k d (omega (arith, is, all, within))))
    ∙ ap (λ (k : List ℕ). kept_of k ∷ []) (sym (take_all n text (omega (arith, all))))

pub cut_any : (text : List ℕ) (n : ℕ) → n ≡ position_or_len is_line_feed text → n ≤ length text
    → (after : List (List ℕ)) × (lines_of text ≡ kept_of (take n text) ∷ after)
cut_any text n is fits = elim (cases_lt n (length text)) [
  | inl within ↦ (lines_of (drop (n + 1) text), cut_first text n is within)
  | inr past ↦ ([], cut_last text n is (omega (arith, fits, past)))
]

-- ---- lists side by side
pub zip_push : {X Y : Type 0} (R : X → Y → Type 0) (xs : List X) (ys : List Y) (x : X) (y : Y) → AllZip R xs ys → R x y → AllZip R (xs ++ x ∷ []) (ys ++ y ∷ [])
zip_push R [] [] x y h here = (here, tt)
zip_push R [] (w ∷ ys) x y h here = absurd h
zip_push R (v ∷ xs) [] x y h here = absurd h
zip_push R (v ∷ xs) (w ∷ ys) x y h here = (h.0, zip_push R xs ys x y h.1 here)

-- ---- how far a list was read
module _ (bits : HostBits) (text : List ℕ) where
  -- the lines before these bytes were read, of which the first has this number
  pub record ReadUpTo (rest : List ℕ) (number : ℕ) (lists : Lists) : Type 0 where
    pub before : List (List ℕ)
    pub lines : lines_of text ≡ before ++ lines_of rest
    pub place : number ≡ length before + 1
    pub room : number + length rest ≤ length text + 1
    pub said : List (List IpCidr)
    pub says : AllZip (LineSays bits) before said
    pub have : (family : Family) → listed lists family ≡ networks_in family said

  pub none_read : (lists : Lists) → lists.v4.items ≡ [] → lists.v6.items ≡ [] → ReadUpTo text 1 lists
  none_read lists four six = record {
    before = [];
    lines = refl;
    place = refl;
    room = omega arith;
    said = [];
    says = tt;
    have = elim [ Ipv4 ↦ four | Ipv6 ↦ six ];
  }

  more_listed : (lists new : Lists) (said : List (List IpCidr)) (one : List IpCidr) → ((family : Family) → listed lists family ≡ networks_in family said)
      → Grows lists new (λ family. line_networks family one) → (family : Family) → listed new family ≡ networks_in family (said ++ one ∷ [])
  more_listed lists new said one have grows family =
      grows family
      ∙ (ap (λ (k : List (List Bool)). k ++ line_networks family one) (have family) ∙ flat_map_more (line_networks family) [] said one)

  module _ (rest line : List ℕ) (n number : ℕ) (lists new : Lists) (is : n ≡ position_or_len is_line_feed rest) (cut : line ≡ take n rest)
      (up : ReadUpTo rest number lists) where
    pub line_read : (next : List ℕ) → n < length rest → drop (n + 1) rest ≡ next → AddsListLine bits (kept_of line) number lists new (Ok tt)
        → ReadUpTo next (number + 1) new
    line_read next within behind (one, says, grows) =
        let kept = kept_of line in
        let first : lines_of rest ≡ kept ∷ lines_of (drop (n + 1) rest) =
        cut_first rest n is within ∙ ap (λ (k : List ℕ). kept_of k ∷ lines_of (drop (n + 1) rest)) (sym cut) in
        let lines : lines_of rest ≡ kept ∷ lines_of next = first ∙ ap (λ (k : List ℕ). kept ∷ lines_of k) behind in
        record {
          before = up.before ++ kept ∷ [];
          lines = up.lines ∙ (ap (λ (k : List (List ℕ)). up.before ++ k) lines ∙ sym (append_assoc up.before (kept ∷ []) (lines_of next)));
          place = omega (arith, up.place, length-append up.before (kept ∷ []));
          room = omega (arith, up.room, ap length behind, length-drop (n + 1) rest, within);
          said = up.said ++ one ∷ [];
          says = zip_push (LineSays bits) up.before up.said kept one up.says says;
          have = more_listed lists new up.said one up.have grows;
        }

    pub last_read : n ≡ length rest → AddsListLine bits (kept_of line) number lists new (Ok tt) → HaveNetworks (text_by bits text) new
    last_read all (one, says, grows) =
        let kept = kept_of line in
        let last : lines_of rest ≡ kept ∷ [] = cut_last rest n is all ∙ ap (λ (k : List ℕ). kept_of k ∷ []) (sym cut) in
        let lines : lines_of text ≡ up.before ++ kept ∷ [] = up.lines ∙ ap (λ (k : List (List ℕ)). up.before ++ k) last in (
          up.said ++ one ∷ [],
          subst (λ (k : List (List ℕ)). AllZip (LineSays bits) k (up.said ++ one ∷ [])) (sym lines)
              (zip_push (LineSays bits) up.before up.said kept one up.says says),
          more_listed lists new up.said one up.have grows,
        )

    pub line_in_error : (e : ListError) → n ≤ length rest → AddsListLine bits (kept_of line) number lists new (Err e) → IsListError (text_by bits text) e
    line_in_error NoMemory fits h = tt
    line_in_error (Line k e) fits h =
        let (after, first) = cut_any rest n is fits in
        record {
          before = up.before;
          line = kept_of line;
          after = after;
          lines = up.lines ∙ ap (λ (k : List (List ℕ)). up.before ++ k) (first ∙ ap (λ (k : List ℕ). kept_of k ∷ after) (sym cut));
          place = h.0 ∙ up.place;
          said = up.said;
          fine = up.says;
          fault = h.1;
        }

-- the set of the networks of a list
pub list_set : (bits : HostBits) (text : List ℕ) (lists : Lists) (sets : Sets) → HaveNetworks (text_by bits text) lists
    → ((family : Family) → IsSetOf 129 (Covers (listed lists family)) (networks_of sets family)) → HaveAddresses (text_by bits text) sets
list_set bits text lists sets (said, says, have) are =
    (said, says, λ family. subst (λ (k : List (List Bool)). IsSetOf 129 (Covers k) (networks_of sets family)) (have family) (are family))

-- what is passed on of an error
pub passed_on : {V : Type 0} (Is : V → Type 0) (IsBad : ListError → Type 0) (r : Result V ListError) (y e : ListError) → r ≡ Err y → y ≡ e → IsBad e
    → MatchResult r Is IsBad
passed_on Is IsBad (Ok v) y e is same bad = cc
passed_on Is IsBad (Err f) y e is same bad =
    let own : f ≡ y = cc in
    subst IsBad (sym (own ∙ same)) bad
