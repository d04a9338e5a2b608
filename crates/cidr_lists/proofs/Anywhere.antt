-- Addresses in the words of a line.
use Rattle.std.proofs.Common.{◌≡◌, refl, sym, ◌∙◌, ap, subst, inl, inr, ◌⊎◌, ℕ, ◌+◌, ◌-◌, ◌*◌, ◌<◌, ◌≤◌, zero, suc, nat_lt, get_or, Bool, true, false, not, ◌==◌, List, [], ◌∷◌, ◌++◌, length, take, drop, replicate, arith, Contains, Decides, length-append, IsAscii}
use Rattle.std.specs.List.{list_any, position_or_len, suffix_len}
use Rattle.std.proofs.lemmas.Bool.{cases_eq, cases_lt, ltb-true, true≢false}
use Rattle.std.proofs.lemmas.List.{drop-drop, get_or-take, get_or_past, length-drop, length-replicate, length-take, take_all}
use Rattle.std.proofs.lemmas.Bool.Decides.{Decides-eqb}
use Rattle.std.proofs.lemmas.List.Folds.{list_any_at}
use Rattle.std.proofs.lemmas.List.Elements.{Contains-append_cases, Contains-append_left, Contains-append_right}
use Rattle.std.proofs.lemmas.List.Splits.{slice_split_first, slice_split_none}
use Rattle.std.proofs.lemmas.List.Sums.{fails_before_first}
use Rattle.std.proofs.lemmas.Grind.{common_steps}
use Rattle.std.proofs.Math.Seq.{take-append_seam}
use Rattle.cidr.specs.model.Address.{group_bits}
use Rattle.cidr.specs.model.Bits.{bits}
use Rattle.cidr.specs.model.Network.{width_of}
use Rattle.cidr.specs.texts.AddressText.{IsAddressText}
use Rattle.cidr.specs.texts.Ipv4Text.{dot, IsIpv4Text}
use Rattle.cidr.specs.texts.Ipv6Text.{colon, IsEightGroups, IsIpv6Text}
use Rattle.cidr.specs.texts.Refusal.{Lacks}
use Rattle.cidr.specs.declared.family.Family.{Family}
use Rattle.cidr.specs.declared.family.Family.TheVariants.{Ipv4, Ipv6}
use Rattle.cidr.proofs.Cuts.{not_lacking}
use Rattle.cidr.proofs.LooseGrammar.{has_colon}
use Rattle.cidr.proofs.NetworkTexts.{address_grammar}
use Rattle.cidr.proofs.OctetReading.{four_joined}
use Rattle.cidr.specs.laws.BitLaws.{length-bits}
use Rattle.cidr.proofs.ShortGrammar.{length-octet_bits}
use Rattle.cidr_lists.specs.Within.{AreWithin, HasOneIn, IsOneIn, LineHasOneIn, WordIsOneIn}
use Rattle.cidr_lists.specs.Sets.{IsInSets, networks_of}
use Rattle.cidr_lists.specs.Words.{IsBare, ends_word, is_dot, words_of}
use Rattle.cidr_lists.specs.declared.sets.Sets.{Sets}

-- ---- words are ASCII
in_ascii : (family : Family) (byte : ℕ) → ends_word family byte ≡ false → byte < 128
in_ascii Ipv4 byte h = grind (arith, common_steps)
in_ascii Ipv6 byte h = grind (arith, common_steps)

-- ---- words of addresses
bare_fits : (word text : List ℕ) → IsBare word text → length text ≤ length word
bare_fits word text (inl is) = omega (arith, ap length is, length-take (length word - suffix_len is_dot word) word)
bare_fits word text (inr is) = omega (arith, ap length is, length-append text (colon ∷ []))

ipv4_long : (text : List ℕ) (address : List Bool) → IsIpv4Text text address → 7 ≤ length text
ipv4_long text address h =
    let (i, j, k, l, (a, behind, one, octet, (b, rest, two, next, (c, d, three, third, fourth)))) = four_joined text address h in
    omega (
      arith,
      ap length one,
      length-append a (dot ∷ behind),
      ap length two,
      length-append b (dot ∷ rest),
      ap length three,
      length-append c (dot ∷ d),
      octet.digits.0,
      next.digits.0,
      third.digits.0,
      fourth.digits.0,
    )

pub too_short : (word : List ℕ) → nat_lt (length word) 7 ≡ true → (text : List ℕ) (address : List Bool) → IsBare word text
    → ¬ (IsIpv4Text text address)
too_short word short text address bare spells = omega (arith, ltb-true (length word) 7 short, ipv4_long text address spells, bare_fits word text bare)

lacks_taken : (n : ℕ) (word : List ℕ) → Lacks colon word → Lacks colon (take n word)
lacks_taken n word lacks i within = grind (arith, common_steps, lacks i)

pub no_colon : (word : List ℕ) → Lacks colon word → (text : List ℕ) (address : List Bool) → IsBare word text → ¬ (IsIpv6Text text address)
no_colon word lacks text address (inl is) spells =
    has_colon text address spells (subst (Lacks colon) (sym is) (lacks_taken (length word - suffix_len is_dot word) word lacks))
no_colon word lacks text address (inr is) spells = not_lacking colon text [] (subst (Lacks colon) is lacks)

pub lacks_by : (word : List ℕ) (found : Bool) → found ≡ list_any (λ byte. byte == colon) word → not found ≡ true → Lacks colon word
lacks_by word true is none i within e = absurd (true≢false (sym none))
lacks_by word false is none i within e =
    let here : (get_or word i 0 == colon) ≡ true = (Decides-eqb (get_or word i 0) colon).1 e in
    absurd (true≢false (sym (list_any_at (λ byte. byte == colon) word i 0 within here) ∙ sym is))

-- ---- one address
pub one_by : (IsIn : Family → List Bool → Type 0) (family : Family) (text : List ℕ) (address : List Bool) (b : Bool)
    → IsAddressText family text address → Decides b (AreWithin IsIn family address) → Decides b (IsOneIn IsIn family text)
one_by IsIn family text address b spells d = (
  λ e. (address, spells, d.0 e),
  λ (other, too, within). d.1 (subst (AreWithin IsIn family) ((address_grammar family).one_value text other address too spells) within),
)

pub none_by : (IsIn : Family → List Bool → Type 0) (family : Family) (text : List ℕ) → ((address : List Bool) → ¬ (IsAddressText family text address))
    → Decides false (IsOneIn IsIn family text)
none_by IsIn family text none = (λ e. absurd (true≢false (sym e)), λ (address, spells, within). absurd (none address spells))

pub either_family : (IsIn : Family → List Bool → Type 0) (line : List ℕ) (b : Bool) → ¬ (LineHasOneIn IsIn Ipv4 line)
    → Decides b (LineHasOneIn IsIn Ipv6 line) → Decides b (HasOneIn IsIn line)
either_family IsIn line b none d = (λ e. (Ipv6, d.0 e), λ (family, one). by_family family one)
  where
    by_family : (family : Family) → LineHasOneIn IsIn family line → b ≡ true
    by_family Ipv4 one = absurd (none one)
    by_family Ipv6 one = d.1 one

-- ---- the words of a line
contains_one : (x w : List ℕ) → Contains (x ∷ []) w → x ≡ w
contains_one x w (zero, within, is) = is
contains_one x w (suc k, within, is) = absurd (omega (arith, within))

-- its words, from the first one on
module _ (family : Family) where
  pub words_first : (line : List ℕ) (n : ℕ) → n ≡ position_or_len (ends_word family) line → n < length line
      → words_of family line ≡ take n line ∷ words_of family (drop (n + 1) line)
  words_first line n is within =
      slice_split_first (ends_word family) line 0 (omega (arith, is, within))
      ∙ ap (λ (k : ℕ). take k line ∷ words_of family (drop (k + 1) line)) (sym is)

  pub words_last : (line : List ℕ) (n : ℕ) → n ≡ position_or_len (ends_word family) line → n ≡ length line → words_of family line ≡ take n line ∷ []
  words_last line n is all =
      slice_split_none (ends_word family) line (λ k d within. fails_before_first (ends_word family) line k d (omega (arith, is, all, within)))
      ∙ ap (λ (k : List ℕ). k ∷ []) (sym (take_all n line (omega (arith, all))))

module _ (IsIn : Family → List Bool → Type 0) (family : Family) where
  -- by the words of a line
  abbrev Has : List (List ℕ) → Type 0
  Has words = (word : List ℕ) × Contains words word × WordIsOneIn IsIn family word

  has_first : (word : List ℕ) (words : List (List ℕ)) → WordIsOneIn IsIn family word → Has (word ∷ words)
  has_first word words one = (word, Contains-append_left (word ∷ []) words word (0, omega arith, refl), one)

  has_behind : (word : List ℕ) (words : List (List ℕ)) → Has words → Has (word ∷ words)
  has_behind word words (found, among, one) = (found, Contains-append_right (word ∷ []) words found among, one)

  has_either : (word : List ℕ) (words : List (List ℕ)) → Has (word ∷ words) → WordIsOneIn IsIn family word ⊎ Has words
  has_either word words (found, among, one) = elim (Contains-append_cases (word ∷ []) words found among) [
    | inl here ↦ inl (subst (WordIsOneIn IsIn family) (sym (contains_one word found here)) one)
    | inr behind ↦ inr (found, behind, one)
  ]

  pub line_by_word : (line : List ℕ) (n : ℕ) → n ≡ position_or_len (ends_word family) line → n ≤ length line
      → WordIsOneIn IsIn family (take n line) → LineHasOneIn IsIn family line
  line_by_word line n is within one = elim (cases_eq n (length line)) [
    | inl e ↦ subst Has (sym (words_last family line n is e)) (has_first (take n line) [] one)
    | inr e ↦ subst Has (sym (words_first family line n is (omega (arith, e, within))))
        (has_first (take n line) (words_of family (drop (n + 1) line)) one)
  ]

  pub line_behind : (line : List ℕ) (n : ℕ) → n ≡ position_or_len (ends_word family) line → n < length line
      → LineHasOneIn IsIn family (drop (n + 1) line) → LineHasOneIn IsIn family line
  line_behind line n is within h =
      subst Has (sym (words_first family line n is within)) (has_behind (take n line) (words_of family (drop (n + 1) line)) h)

  not_first : (word : List ℕ) (words : List (List ℕ)) → ¬ (WordIsOneIn IsIn family word) → Has (word ∷ words) → Has words
  not_first word words misses h = elim (has_either word words h) [ inl one ↦ absurd (misses one) | inr others ↦ others ]

  pub line_on : (line : List ℕ) (n : ℕ) → n ≡ position_or_len (ends_word family) line → n < length line
      → ¬ (WordIsOneIn IsIn family (take n line)) → LineHasOneIn IsIn family line → LineHasOneIn IsIn family (drop (n + 1) line)
  line_on line n is within misses h =
      not_first (take n line) (words_of family (drop (n + 1) line)) misses (subst Has (words_first family line n is within) h)

  pub line_last : (line : List ℕ) (n : ℕ) → n ≡ position_or_len (ends_word family) line → n ≡ length line
      → ¬ (WordIsOneIn IsIn family (take n line)) → ¬ (LineHasOneIn IsIn family line)
  line_last line n is all misses h =
      let (word, (k, within, _), one) = not_first (take n line) [] misses (subst Has (words_last family line n is all) h) in
      absurd (omega (arith, within))

pub next_is : (line next : List ℕ) (n byte : ℕ) → n ≤ length line → drop n line ≡ byte ∷ next → (n < length line) × (drop (n + 1) line ≡ next)
next_is line next n byte fits is = (omega (arith, fits, ap length is, length-drop n line), sym (drop-drop 1 n line) ∙ ap (drop 1) is)

pub all_of : (line : List ℕ) (n : ℕ) → n ≤ length line → length (drop n line) ≡ 0 → n ≡ length line
all_of line n fits none = omega (arith, fits, none, length-drop n line)

pub word_ascii : (family : Family) (line : List ℕ) (n : ℕ) → n ≡ position_or_len (ends_word family) line → IsAscii (take n line)
word_ascii family line n is i = elim (cases_lt i n) [
  | inl within ↦
      let same : get_or (take n line) i 0 ≡ get_or line i 0 = get_or-take n line i 0 within in
      omega (arith, same, in_ascii family (get_or line i 0) (fails_before_first (ends_word family) line i 0 (omega (arith, is, within))))
  | inr past ↦ omega (arith, get_or_past (take n line) i 0 (omega (arith, past, length-take n line)))
]

-- ---- a set of no address
length-group_bits : (groups : List ℕ) → length (group_bits groups) ≡ 16 * length groups
length-group_bits [] = refl
length-group_bits (g ∷ groups) = omega (arith, length-append (bits 16 g) (group_bits groups), length-bits 16 g, length-group_bits groups)

eight_groups : (text groups : List ℕ) → IsEightGroups text groups → length groups ≡ 8
eight_groups text groups (inl (run, eight)) = eight
eight_groups text groups (inr e) =
    let missing : ℕ = 8 - (length e.head + length e.tail) in
    omega (
      arith,
      ap length e.value,
      length-append (e.head ++ replicate {A = ℕ} missing 0) e.tail,
      length-append e.head (replicate {A = ℕ} missing 0),
      length-replicate {A = ℕ} missing 0,
      e.room,
    )

pub address_width : (family : Family) (text : List ℕ) (address : List Bool) → IsAddressText family text address → length address ≡ width_of family
address_width Ipv4 text address h = omega (arith, ap length h.value, length-octet_bits h.octets, h.four)
address_width Ipv6 text address h = omega (arith, ap length h.value, length-group_bits h.groups, eight_groups text h.groups h.eight)

width_fits : (family : Family) → width_of family ≤ 129
width_fits Ipv4 = omega arith
width_fits Ipv6 = omega arith

pub none_held : (sets : Sets) (family : Family) (line : List ℕ) → networks_of sets family ≡ [] → ¬ (LineHasOneIn (IsInSets sets) family line)
none_held sets family line none (word, among, (text, bare, (address, spells, within))) =
    let fits : length address ≤ 129 = omega (arith, address_width family text address spells, width_fits family) in
    let behind : List Bool = replicate (129 - length address) false in
    let wide : length (address ++ behind) ≡ 129 =
    omega (arith, fits, length-append address behind, length-replicate (129 - length address) false) in
    let (p, (k, below, here), begins) = within (address ++ behind) wide (take-append_seam address behind) in
    absurd (omega (arith, below, ap length none))
