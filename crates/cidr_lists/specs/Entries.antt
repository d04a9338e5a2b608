-- The lines of lists that have a network or a host, each with its file and its number.
use Rattle.std.specs.Prelude.{◌≡◌, ◌≢◌, ◌↔◌, ℕ, ◌+◌, List, [], ◌∷◌, ◌++◌, Option, Some, None, option_to_list, Result, Ok, Err, IsTrue, IsUtf8}
use Rattle.cidr.specs.either.IpText.{IsIpHostText, IsIpHostRefused, ip_host_text}
use Rattle.cidr.specs.texts.Printed.{plain_host_text}
use Rattle.cidr.specs.declared.inet.combined.IpInet.{IpInet}
use Rattle.cidr_io.specs.Shown.{byte_excerpt}
use Rattle.cidr_lists.specs.Lists.{Text, lines_of, IsBadLineBy, IsField, IsFirstBad, IsTooLong}
use Rattle.cidr_lists.specs.Messages.{Shows}
use Rattle.cidr_lists.specs.declared.entries.Entry.{Entry}
use Rattle.cidr_lists.specs.declared.errors.LineError.{LineError}
use Rattle.cidr_lists.specs.declared.errors.LineError.TheVariants.{NotUtf8, NoNetwork}

-- the field says nothing, or the line has this entry: its file and its number, and the host that the field is; a network
-- is the host at its first address
abbrev pub FieldHas : List ℕ → ℕ → List ℕ → Option Entry → Type 0
FieldHas file number line None = IsField line []
FieldHas file number line (Some entry) = (entry.place.file.now ≡ file) × (entry.place.number ≡ number)
    × (field : List ℕ) × IsField line field × IsIpHostText field entry.host
    × (IsTrue entry.is_canonical ↔ (field ≡ ip_host_text plain_host_text entry.host))

-- the same of a line that is not too long
abbrev pub LineHas : List ℕ → ℕ → List ℕ → Option Entry → Type 0
LineHas file number line one = ¬ (IsTooLong line) × FieldHas file number line one

-- the entries of lines of a file, of which the first has this number
abbrev pub AreEntries : List ℕ → ℕ → List (List ℕ) → List Entry → Type 0
AreEntries file number [] entries = entries ≡ []
AreEntries file number (line ∷ lines) entries = (one : Option Entry) × (rest : List Entry)
    × LineHas file number line one × AreEntries file (number + 1) lines rest × (entries ≡ option_to_list one ++ rest)

-- the entries of lists, of these names and these texts, one list after another
abbrev pub AreAllEntries : List (List ℕ) → List Text → List Entry → Type 0
AreAllEntries [] [] entries = entries ≡ []
AreAllEntries [] (text ∷ texts) entries = ⊥
AreAllEntries (file ∷ files) [] entries = ⊥
AreAllEntries (file ∷ files) (text ∷ texts) entries = (these : List Entry) × (those : List Entry)
    × AreEntries file 1 (lines_of text.bytes) these × AreAllEntries files texts those × (entries ≡ these ++ those)

-- the field is not UTF-8, or neither a network nor a host, and this is the first error, with the field
abbrev pub IsNoHostField : List ℕ → LineError → Type 0
IsNoHostField line (NotUtf8 text) = (field : List ℕ) × IsField line field × ¬ (IsUtf8 field) × (text.bytes ≡ byte_excerpt field)
IsNoHostField line (NoNetwork bad e) = (field : List ℕ) × IsField line field × (field ≢ []) × IsIpHostRefused field e
    × ((h : IpInet) → ¬ (IsIpHostText field h)) × Shows field bad
IsNoHostField line e = ⊥

-- the line is in error
abbrev pub HasNoHost : List ℕ → LineError → Type 0
HasNoHost line e = IsBadLineBy IsNoHostField line e

-- the first of these lines in error
abbrev pub IsFirstFaultyLine : List ℕ → List ℕ → ℕ → LineError → Type 0
IsFirstFaultyLine file text number e = IsFirstBad (AreEntries file 1) HasNoHost (lines_of text) number e

-- the entry that the field of a line has, if it has one, or its error
abbrev pub ReadsEntry : List ℕ → ℕ → List ℕ → Result (Option Entry) LineError → Type 0
ReadsEntry file number line (Ok one) = FieldHas file number line one
ReadsEntry file number line (Err e) = IsNoHostField line e
