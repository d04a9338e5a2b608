-- The words of a line in which addresses are looked for anywhere, as in a log.
use Rattle.std.specs.Prelude.{◌≡◌, ◌⊎◌, ℕ, ◌-◌, ◌==◌, Bool, false, not, List, [], ◌∷◌, ◌++◌, length, take, ◌||◌, Option, Some, None}
use Rattle.std.specs.Char.{is_ascii_alphanumeric}
use Rattle.std.specs.List.{slice_split, suffix_len}
use Rattle.cidr.specs.either.IpAddress.{IsIpText, address_family}
use Rattle.cidr.specs.texts.Ipv4Text.{dot}
use Rattle.cidr.specs.texts.Ipv6Text.{colon}
use Rattle.cidr.specs.declared.addr.ip.IpAddr.{IpAddr}
use Rattle.cidr.specs.declared.family.Family.{Family}
use Rattle.cidr.specs.declared.family.Family.TheVariants.{Ipv4, Ipv6}

-- a dot
abbrev pub is_dot : ℕ → Bool
is_dot byte = byte == dot

-- a colon, which stands in addresses of IPv6 alone
abbrev pub joins : Family → ℕ → Bool
joins Ipv4 byte = false
joins Ipv6 byte = byte == colon

-- neither an ASCII letter nor a digit nor a dot, and for IPv6 no colon
abbrev pub ends_word : Family → ℕ → Bool
ends_word family byte = not ((is_ascii_alphanumeric byte || is_dot byte) || joins family byte)

-- the words of a line that may be addresses of the family: what stands between such bytes
abbrev pub words_of : Family → List ℕ → List (List ℕ)
words_of family line = slice_split (ends_word family) line

-- the word without the dots at its end
abbrev pub without_dots : List ℕ → List ℕ
without_dots word = take (length word - suffix_len is_dot word) word

-- the word without punctuation behind it: without the dots at its end, or without one colon
abbrev pub IsBare : List ℕ → List ℕ → Type 0
IsBare word text = (text ≡ without_dots word) ⊎ (word ≡ text ++ colon ∷ [])

-- ---- the first address of a line
-- the word is this address of the family, with or without punctuation behind it
abbrev pub WordIs : Family → List ℕ → IpAddr → Type 0
WordIs family word address = (text : List ℕ) × IsBare word text × IsIpText text address × (address_family address ≡ family)

-- this belongs to the first of some that something belongs to, in their order; or there is none
abbrev pub IsOfFirst : {A B : Type 0} → (A → B → Type 0) → List A → Option B → Type 0
IsOfFirst Has [] found = found ≡ None
IsOfFirst {A} {B} Has (x ∷ xs) found = ((y : B) × (found ≡ Some y) × Has x y) ⊎ (((y : B) → ¬ (Has x y)) × IsOfFirst Has xs found)

-- the word, which may have colons, is this address of IPv6; or it is none, and this is the first of IPv4 among its words
abbrev pub WordSays : List ℕ → IpAddr → Type 0
WordSays word address = WordIs Ipv6 word address
    ⊎ (((other : IpAddr) → ¬ (WordIs Ipv6 word other)) × IsOfFirst (WordIs Ipv4) (words_of Ipv4 word) (Some address))

-- the first address anywhere in a line, if there is one
abbrev pub IsFirstAddress : List ℕ → Option IpAddr → Type 0
IsFirstAddress line said = IsOfFirst WordSays (words_of Ipv6 line) said
