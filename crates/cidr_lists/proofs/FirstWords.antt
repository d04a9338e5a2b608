-- What belongs to the first word of a line that something belongs to, and the address that a word is.
use Rattle.std.proofs.Common.{◌≡◌, refl, sym, subst, inl, inr, ℕ, ◌+◌, ◌<◌, ◌≤◌, Bool, List, [], ◌∷◌, ◌++◌, length, take, drop, arith, Option, Some, None}
use Rattle.std.specs.Prelude.{MatchOption}
use Rattle.std.specs.List.{position_or_len}
use Rattle.std.proofs.lemmas.Bool.{cases_eq}
use Rattle.cidr.specs.either.IpAddress.{IsIpText, address_family}
use Rattle.cidr.specs.texts.AddressText.{IsAddressText}
use Rattle.cidr.specs.texts.Ipv6Text.{colon}
use Rattle.cidr.specs.declared.addr.ip.IpAddr.{IpAddr}
use Rattle.cidr.specs.declared.addr.ip.IpAddr.TheVariants.{V4, V6}
use Rattle.cidr.specs.declared.family.Family.{Family}
use Rattle.cidr.specs.declared.family.Family.TheVariants.{Ipv4, Ipv6}
use Rattle.cidr_lists.specs.Words.{IsBare, IsOfFirst, WordIs, WordSays, ends_word, without_dots, words_of}
use Rattle.cidr_lists.proofs.Anywhere.{words_first, words_last}

-- ---- the first word
module _ {B : Type 0} (Has : List ℕ → B → Type 0) (family : Family) where
  abbrev pub First : List ℕ → Option B → Type 0
  First line found = IsOfFirst Has (words_of family line) found

  pub found_here : (line : List ℕ) (n : ℕ) (y : B) → n ≡ position_or_len (ends_word family) line → n ≤ length line → Has (take n line) y → First line (Some y)
  found_here line n y is within h = elim (cases_eq n (length line)) [
    | inl e ↦ subst (λ (k : List (List ℕ)). IsOfFirst Has k (Some y)) (sym (words_last family line n is e)) (inl (y, refl, h))
    | inr e ↦ subst (λ (k : List (List ℕ)). IsOfFirst Has k (Some y)) (sym (words_first family line n is (omega (arith, e, within)))) (inl (y, refl, h))
  ]

  pub found_behind : (line : List ℕ) (n : ℕ) (found : Option B) → n ≡ position_or_len (ends_word family) line → n < length line
      → ((y : B) → ¬ (Has (take n line) y)) → First (drop (n + 1) line) found → First line found
  found_behind line n found is within misses h =
      subst (λ (k : List (List ℕ)). IsOfFirst Has k found) (sym (words_first family line n is within)) (inr (misses, h))

  pub found_nowhere : (line : List ℕ) (n : ℕ) → n ≡ position_or_len (ends_word family) line → n ≡ length line
      → ((y : B) → ¬ (Has (take n line) y)) → First line None
  found_nowhere line n is all misses =
      subst (λ (k : List (List ℕ)). IsOfFirst Has k None) (sym (words_last family line n is all)) (inr (misses, refl))

-- ---- a string
pub ipv4_is : (text : List ℕ) → ((a : List Bool) → ¬ (IsAddressText Ipv4 text a)) → (address : IpAddr) → address_family address ≡ Ipv4 → ¬ (IsIpText text address)
ipv4_is text none (V4 a) is spells = none a spells
ipv4_is text none (V6 a) is spells = cc

pub ipv6_is : (text : List ℕ) → ((a : List Bool) → ¬ (IsAddressText Ipv6 text a)) → (address : IpAddr) → address_family address ≡ Ipv6 → ¬ (IsIpText text address)
ipv6_is text none (V4 a) is spells = cc
ipv6_is text none (V6 a) is spells = none a spells

spelled_by : (family : Family) (text : List ℕ) (address : IpAddr) → address_family address ≡ family → IsIpText text address → (a : List Bool) × IsAddressText family text a
spelled_by Ipv4 text (V4 a) is spells = (a, spells)
spelled_by Ipv4 text (V6 a) is spells = cc
spelled_by Ipv6 text (V4 a) is spells = cc
spelled_by Ipv6 text (V6 a) is spells = (a, spells)

-- ---- a word
-- too short for an address of IPv4, or without a colon
pub plain_is : (family : Family) (word : List ℕ) → ((text : List ℕ) (address : List Bool) → IsBare word text → ¬ (IsAddressText family text address))
    → (address : IpAddr) → ¬ (WordIs family word address)
plain_is family word none address (text, bare, spells, is) =
    let (a, spelled) = spelled_by family text address is spells in
    none text a bare spelled

-- neither without the dots behind it nor without a colon
pub word_is_none : (family : Family) (word : List ℕ) → ((address : IpAddr) → address_family address ≡ family → ¬ (IsIpText (without_dots word) address))
    → ((text : List ℕ) → word ≡ text ++ colon ∷ [] → (address : IpAddr) → address_family address ≡ family → ¬ (IsIpText text address))
    → (address : IpAddr) → ¬ (WordIs family word address)
word_is_none family word no_dots no_colon address (text, inl e, spells, is) = no_dots address is (subst (λ (k : List ℕ). IsIpText k address) e spells)
word_is_none family word no_dots no_colon address (text, inr e, spells, is) = no_colon text e address is spells

-- the one or the other
pub word_is : (family : Family) (word : List ℕ) (found : Option IpAddr) → ((address : IpAddr) → address_family address ≡ family → ¬ (IsIpText (without_dots word) address))
    → MatchOption found ((text : List ℕ) → word ≡ text ++ colon ∷ [] → (address : IpAddr) → address_family address ≡ family → ¬ (IsIpText text address))
    (λ address. (text : List ℕ) × (word ≡ text ++ colon ∷ []) × (address_family address ≡ family) × IsIpText text address)
    → MatchOption found ((address : IpAddr) → ¬ (WordIs family word address)) (WordIs family word)
word_is family word None no_dots h = word_is_none family word no_dots h
word_is family word (Some address) no_dots (text, is, of, spells) = (text, inr is, spells, of)

-- ---- what a word says
pub says_none : (word : List ℕ) → ((address : IpAddr) → ¬ (WordIs Ipv6 word address)) → IsOfFirst (WordIs Ipv4) (words_of Ipv4 word) None
    → (address : IpAddr) → ¬ (WordSays word address)
says_none word none nothing address (inl is) = none address is
says_none word none nothing address (inr (other, first)) = one_first (words_of Ipv4 word) address nothing first
  where
    one_first : (words : List (List ℕ)) (address : IpAddr) → IsOfFirst (WordIs Ipv4) words None → IsOfFirst (WordIs Ipv4) words (Some address) → ⊥
    one_first [] address h k = cc
    one_first (word ∷ words) address (inl (y, is, has)) k = cc
    one_first (word ∷ words) address (inr (misses, h)) (inl (y, is, has)) = misses y has
    one_first (word ∷ words) address (inr (misses, h)) (inr (others, k)) = one_first words address h k

pub says_by : (word : List ℕ) (found : Option IpAddr) → ((address : IpAddr) → ¬ (WordIs Ipv6 word address)) → IsOfFirst (WordIs Ipv4) (words_of Ipv4 word) found
    → MatchOption found ((address : IpAddr) → ¬ (WordSays word address)) (WordSays word)
says_by word None none h = says_none word none h
says_by word (Some address) none h = inr (none, h)
