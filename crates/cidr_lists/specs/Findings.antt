-- What is found in the entries of lists.
use Rattle.std.specs.Prelude.{◌≡◌, ◌≢◌, ◌↔◌, ℕ, ◌+◌, ◌*◌, ◌<◌, ◌≤◌, Bool, false, List, ◌++◌, length, map, Contains, slice_get, codes, decimal, Option, Some, None}
use Rattle.std.specs.List.Sorted.{IsStrictlyIncreasing}
use Rattle.cidr.specs.either.IpHost.{host_network, host_parts}
use Rattle.cidr.specs.either.IpNetwork.{network_bits, network_family, network_prefix}
use Rattle.cidr.specs.either.IpText.{ip_host_text, ip_network_text}
use Rattle.cidr.specs.model.Host.{host_part}
use Rattle.cidr.specs.model.Network.{BeginsWith}
use Rattle.cidr.specs.texts.Printed.{plain_host_text, plain_text}
use Rattle.cidr.specs.declared.cidr.combined.IpCidr.{IpCidr}
use Rattle.cidr.specs.declared.inet.combined.IpInet.{IpInet}
use Rattle.cidr_ext.specs.model.Tree.{AreSiblings}
use Rattle.cidr_io.specs.Shown.{shown}
use Rattle.cidr_lists.specs.Printing.{line}
use Rattle.cidr_lists.specs.declared.entries.Entry.{Entry}
use Rattle.cidr_lists.specs.declared.entries.Place.{Place}
use Rattle.cidr_lists.specs.declared.findings.Finding.{Finding}
use Rattle.cidr_lists.specs.declared.findings.Finding.TheVariants.{HostBits, NotCanonical, Repeats, Inside, Mergeable}
use Rattle.cidr_lists.specs.declared.findings.FindingKind.{FindingKind}
use Rattle.cidr_lists.specs.declared.findings.FindingKind.TheVariants as kind
use Rattle.cidr_lists.specs.declared.findings.Note.{Note}

-- the network of an entry
abbrev pub entry_network : Entry → IpCidr
entry_network entry = host_network entry.host

-- a bit after the prefix is set
abbrev pub HasHostBits : IpInet → Type 0
HasHostBits host = host_part (host_parts host) ≢ 0

-- bits begin with the outer ones, and are longer
abbrev pub AreBitsInside : List Bool → List Bool → Type 0
AreBitsInside bits outer = BeginsWith bits outer × (length outer < length bits)

-- a network is inside the outer one, and is not all of it
abbrev pub IsInside : IpCidr → IpCidr → Type 0
IsInside network outer = AreBitsInside (network_bits network) (network_bits outer)

-- both are the halves of one network, in either order
abbrev pub AreHalves : IpCidr → IpCidr → Type 0
AreHalves network other =
    (network_family other ≡ network_family network) × AreSiblings (network_prefix network) (network_prefix other)

-- the order of the findings of a line
abbrev pub rank : Finding → ℕ
rank HostBits = 0
rank (NotCanonical host) = 1
rank (Repeats place) = 2
rank (Inside outer place) = 3
rank (Mergeable place) = 4

-- the order of all findings: by line, and then by kind
abbrev pub order : Note → ℕ
order note = note.index * 5 + rank note.finding

module _ (entries : List Entry) where
  -- the first entry with this network has this index, and stands at this place
  pub record IsFirst (network : IpCidr) (i : ℕ) (place : Place) : Type 0 where
    pub entry : Entry
    pub here : slice_get entries i ≡ Some entry
    pub stands : entry.place ≡ place
    pub same : entry_network entry ≡ network
    pub first : (j : ℕ) (other : Entry) → slice_get entries j ≡ Some other → entry_network other ≡ network → i ≤ j

  -- the longest network of an entry that this network is inside
  pub record IsInnermost (network outer : IpCidr) : Type 0 where
    pub inside : IsInside network outer
    pub longest : (j : ℕ) (other : Entry) → slice_get entries j ≡ Some other → IsInside network (entry_network other)
        → length (network_bits (entry_network other)) ≤ length (network_bits outer)

  -- the finding holds of the entry at index i
  abbrev pub IsFinding : ℕ → Entry → Finding → Type 0
  IsFinding i entry HostBits = HasHostBits entry.host
  IsFinding i entry (NotCanonical host) = (host ≡ entry.host) × (entry.is_canonical ≡ false)
  IsFinding i entry (Repeats place) = (j : ℕ) × (j < i) × IsFirst (entry_network entry) j place
  IsFinding i entry (Inside outer place) = (j : ℕ) × IsInnermost (entry_network entry) outer × IsFirst outer j place
  IsFinding i entry (Mergeable place) =
      (other : IpCidr) × (j : ℕ) × AreHalves (entry_network entry) other × (j < i) × IsFirst other j place

  -- the note tells a finding of the entry at its index
  abbrev pub IsNote : Note → Type 0
  IsNote note = (entry : Entry) × (slice_get entries note.index ≡ Some entry) × (note.place ≡ entry.place)
      × IsFinding note.index entry note.finding

  -- all findings, each once, in their order
  pub record AreNotes (notes : List Note) : Type 0 where
    pub all : (note : Note) → Contains notes note ↔ IsNote note
    pub ordered : IsStrictlyIncreasing (map order notes)

-- FILE:LINE, the name of the file as it is shown in a message
abbrev pub place_text : Place → List ℕ
place_text place = shown place.file.now ++ (codes ":" ++ decimal place.number)

abbrev pub finding_text : Finding → List ℕ
finding_text HostBits = codes "host bits set"
finding_text (NotCanonical host) = codes "not in canonical form: " ++ ip_host_text plain_host_text host
finding_text (Repeats place) = codes "repeats " ++ place_text place
finding_text (Inside outer place) = codes "inside " ++ (ip_network_text plain_text outer ++ (codes " at " ++ place_text place))
finding_text (Mergeable place) = codes "mergeable with " ++ place_text place

-- a finding as a line
abbrev pub note_line : Note → List ℕ
note_line note = place_text note.place ++ (codes ": " ++ line (finding_text note.finding))

-- ---- what `find` and private functions promise
-- of the findings of this rank none holds, or only this one
abbrev pub IsOnly : (Finding → Type 0) → ℕ → Option Finding → Type 0
IsOnly Holds place None = (f : Finding) → rank f ≡ place → ¬ (Holds f)
IsOnly Holds place (Some g) = (rank g ≡ place) × ((f : Finding) → rank f ≡ place → (Holds f ↔ (f ≡ g)))

-- the same of the entry at an index, where the one that holds is a note
abbrev pub IsOnlyNote : List Entry → ℕ → Entry → ℕ → Option Note → Type 0
IsOnlyNote entries index entry place None = IsOnly (IsFinding entries index entry) place None
IsOnlyNote entries index entry place (Some note) =
    (note.index ≡ index) × (note.place ≡ entry.place) × IsOnly (IsFinding entries index entry) place (Some note.finding)

-- the rank of the findings of a kind
abbrev pub kind_rank : FindingKind → ℕ
kind_rank kind.HostBits = 0
kind_rank kind.Form = 1
kind_rank kind.Same = 2
kind_rank kind.Outer = 3
kind_rank kind.Half = 4
