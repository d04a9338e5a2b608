-- Printed rows of prefix lists, read as the list of their name.
use Rattle.std.proofs.Common.{◌≡◌, ◌≢◌, refl, sym, ◌∙◌, ap, subst, arith, inl, inr, ℕ, zero, suc, ◌+◌, ◌<◌, ◌≤◌, Bool, true, false, not, ◌&&◌, if◌then◌else◌, ◌==◌, List, [], ◌∷◌, ◌++◌, length, map, take, drop, get_or, slice_index, codes, decimal, Option, Some, None, cond, eq-eqb, ne_eqb, append_assoc, append-nil, length-append}
use Rattle.std.specs.Char.{digit_value, is_ascii_whitespace}
use Rattle.std.specs.List.{AllZip, before_first, fold, list_all, position_or_len}
use Rattle.std.specs.Prelude.{Contains, bytes_eq}
use Rattle.std.specs.Str.Parse.{AllDigits, IsNumeral, without_leading_plus}
use Rattle.std.proofs.lemmas.Bool.{cases_eq}
use Rattle.std.proofs.lemmas.Fmt.{decimal_is_IsNumeral, length-decimal-le}
use Rattle.std.proofs.lemmas.List.Sums.{passes_at_first}
use Rattle.std.proofs.lemmas.Slice.Eq.{bytes_eq-Decides}
use Rattle.cidr.specs.either.IpNetwork.{network_family, network_prefix}
use Rattle.cidr.specs.laws.NetworkLaws.{length-first_of}
use Rattle.cidr.specs.model.Network.{first_of, width_of}
use Rattle.cidr.specs.texts.Printed.{forced_text, length_text}
use Rattle.cidr.specs.texts.PrintedAddress.{address_text}
use Rattle.cidr.specs.texts.Refusal.{Lacks}
use Rattle.cidr.specs.declared.cidr.combined.IpCidr.{IpCidr}
use Rattle.cidr.specs.declared.family.Family.{Family}
use Rattle.cidr.specs.declared.family.Family.TheVariants.{Ipv4, Ipv6}
use Rattle.cidr.proofs.Cuts.{Lacks-append, Lacks-cons, Lacks-digits}
use Rattle.cidr.proofs.NetworkPrinting.{IsAddressText-address_text, network_forced}
use Rattle.cidr_sets.specs.declared.access.Action.{Action}
use Rattle.cidr_sets.specs.declared.access.Action.TheVariants.{Permit, Deny}
use Rattle.cidr_table.proofs.MapLaws.{contains_first, contains_later}
use Rattle.cidr_routes.specs.declared.lists.Row.{Row}
use Rattle.cidr_lists.specs.Lists.{IsNetworkBy, IsTooLong, lines_of}
use Rattle.cidr_lists.specs.ListTexts.{RowLineSays, RowLinesSay, after_line, numbered_rows}
use Rattle.cidr_lists.specs.PrefixLists.{ActionSays, AreLengths, CiscoSays, LengthsSay, NameSays, NetworkSays, NumberSays, OptionSays, RowSays, family_word, high_of, is_mark}
use Rattle.cidr_lists.specs.Records.{IsCount}
use Rattle.cidr_lists.specs.RowLines.{HasJustRows, IsListName, IsRowOf, joined, le_words, length_words, row_lines, row_words, spaced}
use Rattle.cidr_lists.specs.Rules.{action_text}
use Rattle.cidr_lists.specs.declared.lines.HostBits.TheVariants.{Refused}
use Rattle.cidr_lists.specs.declared.prefix_lists.ListChange.{ListChange}
use Rattle.cidr_lists.specs.declared.prefix_lists.ListChange.TheVariants.{AddRow}
use Rattle.cidr_lists.specs.declared.prefix_lists.ListRow.{ListRow}
use Rattle.cidr_lists.specs.declared.prefix_lists.NumberedRow.{NumberedRow}
use Rattle.cidr_lists.proofs.PlainTexts.{no_space, unspaced}
use Rattle.cidr_lists.proofs.PrintedLines.{line_in_front, of_family}
use Rattle.cidr_lists.proofs.ShortTexts.{address_short, empty_network}
use Rattle.cidr_lists.proofs.OneRow.{one_text}
use Rattle.cidr_lists.proofs.WordRows.{AreWords, IsWord, first_and_rest, first_of_nothing, words_trimmed}

-- ---- words
both : (a b : Bool) → (a && b) ≡ true → (a ≡ true) × (b ≡ true)
both true b h = (refl, h)
both false b h = cc

not_so : (a : Bool) → not a ≡ true → a ≡ false
not_so true h = cc
not_so false h = refl

-- a word by its letters
plain_by : (word : List ℕ) → list_all (λ byte. not (is_ascii_whitespace byte)) word ≡ true → (i : ℕ) → i < length word → is_ascii_whitespace (slice_index word i) ≡ false
plain_by [] h i below = absurd (omega (arith, below))
plain_by (b ∷ word) h zero below = not_so (is_ascii_whitespace b) (both (not (is_ascii_whitespace b)) _ h).0
plain_by (b ∷ word) h (suc i) below = plain_by word (both (not (is_ascii_whitespace b)) _ h).1 i (omega (arith, below))

family_is_word : (family : Family) → IsWord (family_word family)
family_is_word Ipv4 = (omega arith, plain_by (family_word Ipv4) refl)
family_is_word Ipv6 = (omega arith, plain_by (family_word Ipv6) refl)

action_is_word : (action : Action) → IsWord (action_text action)
action_is_word Permit = (omega arith, plain_by (action_text Permit) refl)
action_is_word Deny = (omega arith, plain_by (action_text Deny) refl)

list_is_word : IsWord (codes "prefix-list")
list_is_word = (omega arith, plain_by (codes "prefix-list") refl)

ge_is_word : IsWord (codes "ge")
ge_is_word = (omega arith, plain_by (codes "ge") refl)

le_is_word : IsWord (codes "le")
le_is_word = (omega arith, plain_by (codes "le") refl)

-- a number
digits_plain : (ds : List ℕ) → AllDigits 10 ds → (i : ℕ) → i < length ds → is_ascii_whitespace (slice_index ds i) ≡ false
digits_plain ds all i below =
    no_space (slice_index ds i)
    (Lacks-digits 10 9 ds (omega arith) all i below)
    (Lacks-digits 10 10 ds (omega arith) all i below)
    (Lacks-digits 10 12 ds (omega arith) all i below)
    (Lacks-digits 10 13 ds (omega arith) all i below)
    (Lacks-digits 10 32 ds (omega arith) all i below)

number_is_word : (n : ℕ) → n < 256 → IsWord (decimal n)
number_is_word n small =
    let (numeral, value) = decimal_is_IsNumeral n (omega (arith, small)) in
    (numeral.0, digits_plain (decimal n) numeral.1)

unsigned : (ds : List ℕ) → IsNumeral 10 ds → without_leading_plus ds ≡ ds
unsigned [] numeral = refl
unsigned (c ∷ cs) numeral =
    ap (λ (b : Bool). drop (cond b 1 0) (c ∷ cs))
    (ne_eqb c 43 (λ e. let below : digit_value 43 < 10 = subst (λ (x : ℕ). digit_value x < 10) e numeral.1.0 in omega (arith, below)))

number_counts : (n : ℕ) → n < 256 → IsCount (decimal n) n
number_counts n small =
    let (numeral, value) = decimal_is_IsNumeral n (omega (arith, small)) in
    rw (unsigned (decimal n) numeral) (numeral, sym value)

-- a network
forced_is : (family : Family) (p : List Bool) → length p ≤ width_of family → IsNetworkBy Refused (forced_text family p) (of_family family p)
forced_is Ipv4 p fits = network_forced Ipv4 p fits
forced_is Ipv6 p fits = network_forced Ipv6 p fits

some_length : (text : List ℕ) → text ≢ [] → 0 < length text
some_length [] some = absurd (some refl)
some_length (b ∷ text) some = omega arith

network_is_word : (family : Family) (p : List Bool) → length p ≤ width_of family → IsWord (forced_text family p)
network_is_word family p fits =
    let is = forced_is family p fits in (
      some_length (forced_text family p) (λ none. empty_network Refused (of_family family p) (subst (λ (k : List ℕ). IsNetworkBy Refused k (of_family family p)) none is)),
      unspaced Refused (forced_text family p) (of_family family p) is,
    )

-- ---- the lengths
no_option : (word : List ℕ) → [] ≢ word → OptionSays word [] None []
no_option word other = (refl, [], [], first_of_nothing, other)

some_option : (word : List ℕ) (n : ℕ) (words : List (List ℕ)) → IsWord word → n < 256 → AreWords words
    → OptionSays word (joined (word ∷ decimal n ∷ words)) (Some n) (joined words)
some_option word n words is small are = (
  joined (decimal n ∷ words),
  decimal n,
  first_and_rest word (decimal n ∷ words) (is, (number_is_word n small, are)),
  first_and_rest (decimal n) words (number_is_word n small, are),
  number_counts n small,
  omega (arith, small),
)

other_option : (word other : List ℕ) (words : List (List ℕ)) → AreWords (other ∷ words) → other ≢ word
    → OptionSays word (joined (other ∷ words)) None (joined (other ∷ words))
other_option word other words are ne = (refl, other, joined words, first_and_rest other words are, ne)

le_are_words : (without high : ℕ) → high < 256 → AreWords (le_words without high)
le_are_words without high small =
    elim (high == without) as (λ b. AreWords (if b then [] else codes "le" ∷ decimal high ∷ [])) [ true ↦ tt | false ↦ (le_is_word, (number_is_word high small, tt)) ]

length_are_words : (len width low high : ℕ) → low < 256 → high < 256 → AreWords (length_words len width low high)
length_are_words len width low high small also =
    elim (low == len) as (λ b. AreWords (if b then le_words len high else codes "ge" ∷ decimal low ∷ le_words width high)) [
      | true ↦ le_are_words len high also
      | false ↦ (ge_is_word, (number_is_word low small, le_are_words width high also))
    ]

-- what stands behind `ge`, or where it would
abbrev le_of : ℕ → ℕ → Option ℕ
le_of without high = if high == without then None else Some high

le_says : (without high : ℕ) → high < 256 → OptionSays (codes "le") (joined (le_words without high)) (le_of without high) []
le_says without high small =
    elim (high == without) as (λ b. OptionSays (codes "le") (joined (if b then [] else codes "le" ∷ decimal high ∷ [])) (if b then None else Some high) []) [
      | true ↦ no_option (codes "le") (λ e. cc)
      | false ↦ some_option (codes "le") high [] le_is_word small tt
    ]

no_ge : (without high : ℕ) → high < 256 → OptionSays (codes "ge") (joined (le_words without high)) None (joined (le_words without high))
no_ge without high small =
    elim (high == without) as (λ b. OptionSays (codes "ge") (joined (if b then [] else codes "le" ∷ decimal high ∷ [])) None (joined (if b then [] else codes "le" ∷ decimal high ∷ []))) [
      | true ↦ no_option (codes "ge") (λ e. cc)
      | false ↦ other_option (codes "ge") (codes "le") (decimal high ∷ []) (le_is_word, (number_is_word high small, tt)) (λ e. absurd (omega (arith, ap (λ (l : List ℕ). get_or l 0 0) e)))
    ]

abbrev read_high : ℕ → Option ℕ → ℕ
read_high without None = without
read_high without (Some high) = high

le_high : (without high : ℕ) → high ≡ read_high without (le_of without high)
le_high without high = elim (cases_eq high without) [
  | inl e ↦ rw (eq-eqb high without e) e
  | inr e ↦ rw (ne_eqb high without e) refl
]

pub lengths_say : (network : IpCidr) (low high : ℕ) → low < 256 → high < 256 → AreLengths network low high
    → LengthsSay network (joined (length_words (length (network_prefix network)) (width_of (network_family network)) low high)) low high
lengths_say network low high small also are = elim (cases_eq low len) [
  | inl e ↦ rw (eq-eqb low len e) (None, le_of len high, joined (le_words len high), no_ge len high also, le_says len high also, e, high_none (le_of len high) (le_high len high), are)
  | inr e ↦ rw (ne_eqb low len e) (
    Some low,
    le_of width high,
    joined (le_words width high),
    some_option (codes "ge") low (le_words width high) ge_is_word small (le_are_words width high also),
    le_says width high also,
    refl,
    high_some (le_of width high) (le_high width high),
    are,
  )
]
  where
    len : ℕ
    len = length (network_prefix network)

    width : ℕ
    width = width_of (network_family network)

    high_none : (le : Option ℕ) → high ≡ read_high len le → high ≡ high_of network None le
    high_none None h = h
    high_none (Some n) h = h

    high_some : (le : Option ℕ) → high ≡ read_high width le → high ≡ high_of network (Some low) le
    high_some None h = h
    high_some (Some n) h = h

-- ---- a row
prefix_is : (family : Family) (p : List Bool) → network_prefix (of_family family p) ≡ p
prefix_is Ipv4 p = refl
prefix_is Ipv6 p = refl

family_is : (family : Family) (p : List Bool) → network_family (of_family family p) ≡ family
family_is Ipv4 p = refl
family_is Ipv6 p = refl

width_small : (family : Family) → width_of family < 256
width_small Ipv4 = omega arith
width_small Ipv6 = omega arith

no_number : (action : Action) → action_text action ≢ codes "seq"
no_number Permit = λ e. cc
no_number Deny = λ e. cc

some_before : (b : ℕ) (rest : List ℕ) → is_mark b ≡ false → (n : ℕ) → n ≡ position_or_len is_mark (b ∷ rest) → take n (b ∷ rest) ≢ []
some_before b rest other zero is e =
    let here : is_mark (get_or (b ∷ rest) (position_or_len is_mark (b ∷ rest)) 0) ≡ true = passes_at_first is_mark (b ∷ rest) 0 (omega (arith, is)) in
    let found : is_mark b ≡ true = ap (λ (k : ℕ). is_mark (get_or (b ∷ rest) k 0)) is ∙ here in
    let both : true ≡ false = sym found ∙ other in cc
some_before b rest other (suc n) is e = cc

unmarked : (family : Family) (rest : List ℕ) → before_first is_mark (family_word family ++ rest) ≢ []
unmarked Ipv4 rest = some_before 105 (112 ∷ rest) refl (position_or_len is_mark (105 ∷ 112 ∷ rest)) refl
unmarked Ipv6 rest = some_before 105 (112 ∷ 118 ∷ 54 ∷ rest) refl (position_or_len is_mark (105 ∷ 112 ∷ 118 ∷ 54 ∷ rest)) refl

-- as it is read
abbrev pub list_row : Family → Row (List Bool) → ListRow
list_row family row = record { number = None; action = row.action; network = of_family family row.network; low = row.low; high = row.high }

module _ (family : Family) (name : List ℕ) (is_name : IsListName name) (row : Row (List Bool)) (ok : IsRowOf family row) where
  low_small : row.low < 256
  low_small = omega (arith, ok.1, ok.2, width_small family)

  high_small : row.high < 256
  high_small = omega (arith, ok.2, width_small family)

  fits : length row.network ≤ width_of family
  fits = omega (arith, ok.0, ok.1, ok.2)

  abbrev lengths : List (List ℕ)
  lengths = length_words (length row.network) (width_of family) row.low row.high

  from_network : AreWords (forced_text family row.network ∷ lengths)
  from_network = (network_is_word family row.network fits, length_are_words (length row.network) (width_of family) row.low row.high low_small high_small)

  from_action : AreWords (action_text row.action ∷ forced_text family row.network ∷ lengths)
  from_action = (action_is_word row.action, from_network)

  from_name : AreWords (name ∷ action_text row.action ∷ forced_text family row.network ∷ lengths)
  from_name = ((some_length name is_name.some, is_name.plain), from_action)

  from_list : AreWords (codes "prefix-list" ∷ name ∷ action_text row.action ∷ forced_text family row.network ∷ lengths)
  from_list = (list_is_word, from_name)

  pub are_words : AreWords (row_words family name row)
  are_words = (family_is_word family, from_list)

  these_lengths : LengthsSay (of_family family row.network) (joined lengths) row.low row.high
  these_lengths =
      subst (λ (p : List Bool). LengthsSay (of_family family row.network) (joined (length_words (length p) (width_of family) row.low row.high)) row.low row.high)
      (prefix_is family row.network)
      (subst (λ (f : Family). LengthsSay (of_family family row.network)
      (joined (length_words (length (network_prefix (of_family family row.network))) (width_of f) row.low row.high)) row.low row.high)
      (family_is family row.network)
      (lengths_say (of_family family row.network) row.low row.high low_small high_small (
        subst (λ (p : List Bool). length p ≤ row.low) (sym (prefix_is family row.network)) ok.0,
        ok.1,
        subst (λ (f : Family). row.high ≤ width_of f) (sym (family_is family row.network)) ok.2,
      )))

  network_says : NetworkSays family (joined (forced_text family row.network ∷ lengths)) (list_row family row)
  network_says = (
    forced_text family row.network,
    joined lengths,
    first_and_rest (forced_text family row.network) lengths from_network,
    forced_is family row.network fits,
    family_is family row.network,
    these_lengths,
  )

  action_says : ActionSays family (joined (action_text row.action ∷ forced_text family row.network ∷ lengths)) (list_row family row)
  action_says = (
    joined (forced_text family row.network ∷ lengths),
    first_and_rest (action_text row.action) (forced_text family row.network ∷ lengths) from_action,
    network_says,
  )

  number_says : NumberSays family (joined (action_text row.action ∷ forced_text family row.network ∷ lengths)) (list_row family row)
  number_says = (
    joined (action_text row.action ∷ forced_text family row.network ∷ lengths),
    other_option (codes "seq") (action_text row.action) (forced_text family row.network ∷ lengths) from_action (no_number row.action),
    action_says,
  )

  name_says : NameSays family (joined (name ∷ action_text row.action ∷ forced_text family row.network ∷ lengths)) (list_row family row, name)
  name_says = (
    joined (action_text row.action ∷ forced_text family row.network ∷ lengths),
    first_and_rest name (action_text row.action ∷ forced_text family row.network ∷ lengths) from_name,
    is_name.some,
    number_says,
  )

  row_says : RowSays (joined (row_words family name row)) (list_row family row) name
  row_says = (
    family,
    joined (name ∷ action_text row.action ∷ forced_text family row.network ∷ lengths),
    (
      joined (codes "prefix-list" ∷ name ∷ action_text row.action ∷ forced_text family row.network ∷ lengths),
      first_and_rest (family_word family) (codes "prefix-list" ∷ name ∷ action_text row.action ∷ forced_text family row.network ∷ lengths) are_words,
      first_and_rest (codes "prefix-list") (name ∷ action_text row.action ∷ forced_text family row.network ∷ lengths) from_list,
    ),
    name_says,
  )

  words_say : CiscoSays (joined (row_words family name row)) (Some name) (Some (AddRow (list_row family row)))
  words_say = (
    joined (row_words family name row),
    (words_trimmed (row_words family name row) are_words, unmarked family (spaced (codes "prefix-list" ∷ name ∷ action_text row.action ∷ forced_text family row.network ∷ lengths))),
    row_says,
  )

  -- ---- its line
  abbrev size : List (List ℕ) → ℕ
  size [] = 0
  size (word ∷ words) = 1 + (length word + size words)

  length-spaced : (words : List (List ℕ)) → length (spaced words) ≡ size words
  length-spaced [] = refl
  length-spaced (word ∷ words) = omega (arith, length-append word (spaced words), length-spaced words)

  le_size : (without high : ℕ) → high < 256 → size (le_words without high) ≤ 8
  le_size without high small =
      elim (high == without) as (λ b. size (if b then [] else codes "le" ∷ decimal high ∷ []) ≤ 8) [
        | true ↦ omega arith
        | false ↦ omega (arith, length-decimal-le 3 high (omega arith) (omega (arith, small)) (omega (arith, small)))
      ]

  lengths_size : size lengths ≤ 16
  lengths_size =
      elim (row.low == length row.network) as (λ b. size (if b then le_words (length row.network) row.high else codes "ge" ∷ decimal row.low ∷ le_words (width_of family) row.high) ≤ 16) [
        | true ↦ omega (arith, le_size (length row.network) row.high high_small)
        | false ↦ omega (
          arith,
          le_size (width_of family) row.high high_small,
          length-decimal-le 3 row.low (omega arith) (omega (arith, low_small)) (omega (arith, low_small)),
        )
      ]

  family_size : (f : Family) → length (family_word f) ≤ 4
  family_size Ipv4 = omega arith
  family_size Ipv6 = omega arith

  action_size : (action : Action) → length (action_text action) ≤ 6
  action_size Permit = omega arith
  action_size Deny = omega arith

  network_size : length (forced_text family row.network) ≤ 68
  network_size =
      let first = first_of (width_of family) row.network in
      omega (
        arith,
        length-append (address_text family first) (length_text (length row.network)),
        address_short family (address_text family first) first (IsAddressText-address_text family first (length-first_of (width_of family) row.network fits)),
        length-decimal-le 3 (length row.network) (omega arith) (omega (arith, fits, width_small family)) (omega (arith, fits, width_small family)),
      )

  pub line_short : ¬ (IsTooLong (joined (row_words family name row)))
  line_short long =
      let rest = codes "prefix-list" ∷ name ∷ action_text row.action ∷ forced_text family row.network ∷ lengths in
      omega (
        arith,
        long,
        length-append (family_word family) (spaced rest),
        length-spaced rest,
        family_size family,
        action_size row.action,
        network_size,
        lengths_size,
        is_name.short,
      )

  word_unfed : (word : List ℕ) → IsWord word → Lacks 10 word
  word_unfed word is i below e =
      let white : is_ascii_whitespace (slice_index word i) ≡ true = ap is_ascii_whitespace e in
      let none : true ≡ false = sym white ∙ is.1 i below in cc

  spaced_unfed : (words : List (List ℕ)) → AreWords words → Lacks 10 (spaced words)
  spaced_unfed [] are = λ i below. absurd (omega (arith, below))
  spaced_unfed (word ∷ words) are =
      Lacks-cons 10 32 (word ++ spaced words) (omega arith) (Lacks-append 10 word (spaced words) (word_unfed word are.0) (spaced_unfed words are.1))

  pub line_unfed : Lacks 10 (joined (row_words family name row))
  line_unfed =
      let rest = codes "prefix-list" ∷ name ∷ action_text row.action ∷ forced_text family row.network ∷ lengths in
      Lacks-append 10 (family_word family) (spaced rest) (word_unfed (family_word family) are_words.0) (spaced_unfed rest are_words.1)

  pub line_says : RowLineSays (joined (row_words family name row)) (Some name, Some (AddRow (list_row family row)))
  line_says = (line_short, words_say)

-- ---- a text
module _ (family : Family) (name : List ℕ) (is_name : IsListName name) where
  abbrev AreRows : List (Row (List Bool)) → Type 0
  AreRows rows = (row : Row (List Bool)) → Contains rows row → IsRowOf family row

  abbrev text_of : List (Row (List Bool)) → List ℕ
  text_of rows = row_lines family (λ p. p) name rows

  abbrev said_of : List (Row (List Bool)) → List (Option (List ℕ) × Option ListChange)
  said_of [] = (None, None) ∷ []
  said_of (row ∷ rows) = (Some name, Some (AddRow (list_row family row))) ∷ said_of rows

  behind : (row : Row (List Bool)) (rows : List (Row (List Bool))) → AreRows (row ∷ rows) → AreRows rows
  behind row rows are other c = are other (contains_later row other rows c)

  blank_says : RowLineSays [] (None, None)
  blank_says = ((λ long. omega (arith, long)), ([], words_trimmed [] tt, refl))

  text_says : (rows : List (Row (List Bool))) → AreRows rows → RowLinesSay (text_of rows) (said_of rows)
  text_says [] are = (blank_says, tt)
  text_says (row ∷ rows) are =
      let ok = are row (contains_first row rows) in
      subst (λ (lines : List (List ℕ)). AllZip RowLineSays lines (said_of (row ∷ rows)))
      (sym (line_in_front (joined (row_words family name row)) (text_of rows) (line_unfed family name is_name row ok) (line_short family name is_name row ok)))
      (line_says family name is_name row ok, text_says rows (behind row rows are))

  same_name : bytes_eq name name ≡ true
  same_name = (bytes_eq-Decides name name).1 refl

  abbrev unnumbered : Row (List Bool) → NumberedRow (List Bool)
  unnumbered row = record { number = None; row = row }

  own_row : (f : Family) (row : Row (List Bool)) (before : Bool × List (NumberedRow (List Bool)))
      → after_line name f before (Some name, Some (AddRow (list_row f row))) ≡ (true, before.1 ++ unnumbered row ∷ [])
  own_row Ipv4 row before = rw same_name refl
  own_row Ipv6 row before = rw same_name refl

  other_row : (f other : Family) (row : Row (List Bool)) (before : Bool × List (NumberedRow (List Bool))) → other ≢ f
      → after_line name other before (Some name, Some (AddRow (list_row f row))) ≡ (true, before.1)
  other_row Ipv4 Ipv4 row before ne = absurd (ne refl)
  other_row Ipv4 Ipv6 row before ne = rw same_name (ap (λ (k : List (NumberedRow (List Bool))). (true, k)) (append-nil before.1))
  other_row Ipv6 Ipv4 row before ne = rw same_name (ap (λ (k : List (NumberedRow (List Bool))). (true, k)) (append-nil before.1))
  other_row Ipv6 Ipv6 row before ne = absurd (ne refl)

  own_rows : (rows : List (Row (List Bool))) (before : Bool × List (NumberedRow (List Bool)))
      → (fold (after_line name family) before (said_of rows)).1 ≡ before.1 ++ map unnumbered rows
  own_rows [] before = sym (append-nil before.1)
  own_rows (row ∷ rows) before =
      ap (λ (k : Bool × List (NumberedRow (List Bool))). (fold (after_line name family) k (said_of rows)).1) (own_row family row before)
      ∙ (own_rows rows (true, before.1 ++ unnumbered row ∷ []) ∙ append_assoc before.1 (unnumbered row ∷ []) (map unnumbered rows))

  other_rows : (other : Family) → other ≢ family → (rows : List (Row (List Bool))) (before : Bool × List (NumberedRow (List Bool)))
      → (fold (after_line name other) before (said_of rows)).1 ≡ before.1
  other_rows other ne [] before = refl
  other_rows other ne (row ∷ rows) before =
      ap (λ (k : Bool × List (NumberedRow (List Bool))). (fold (after_line name other) k (said_of rows)).1) (other_row family other row before ne)
      ∙ other_rows other ne rows (true, before.1)

  pub rows_are_read : (rows : List (Row (List Bool))) → AreRows rows → HasJustRows (text_of rows) name family rows
  rows_are_read rows are = (
    (said_of rows, text_says rows are),
    λ read (said, says, have).
        let same : said ≡ said_of rows = one_text (lines_of (text_of rows)) said (said_of rows) says (text_says rows are) in (
          have family ∙ (ap (numbered_rows name family) same ∙ own_rows rows (true, [])),
          λ other ne. have other ∙ (ap (numbered_rows name other) same ∙ other_rows other ne rows (true, [])),
        ),
  )
