-- The string of a network has no comment sign, no hyphen and no white space.
use Rattle.std.proofs.Common.{◌≡◌, ◌≢◌, refl, sym, ◌∙◌, ap, subst, arith, inl, inr, ◌⊎◌, ℕ, zero, suc, ◌-◌, ◌<◌, ◌≤◌, ◌&&◌, not, Bool, false, List, [], ◌∷◌, ◌++◌, drop, length, slice_index_or, Option, Some, None, IfSome}
use Rattle.std.specs.Char.{digit_value, is_ascii_whitespace}
use Rattle.std.specs.List.{before_first}
use Rattle.std.specs.Str.{IsTrimAscii, IsTrimAsciiStart}
use Rattle.std.proofs.lemmas.Grind.{common_steps}
use Rattle.std.proofs.lemmas.Bool.{cases_lt, true≢false}
use Rattle.std.proofs.lemmas.Str.Ascii.{trim_ascii_start_is}
use Rattle.std.proofs.lemmas.List.{drop_all, length-drop, length-take, nil_from_length, take_all}
use Rattle.cidr.specs.either.IpAddress.{IsIpText}
use Rattle.cidr.specs.either.IpText.{IsIpHostText, IsIpNetworkText}
use Rattle.cidr.specs.texts.AddressText.{IsAddressText}
use Rattle.cidr.specs.texts.HostText.{IsHostText}
use Rattle.cidr.specs.texts.Ipv4Text.{IsJoined, IsOctetText, dot}
use Rattle.cidr.specs.texts.Ipv6Text.{IsDottedPair, IsEightGroups, IsGroups, IsNothing, IsRun, colon}
use Rattle.cidr.specs.texts.NetworkText.{IsLengthText, IsNetworkText, plus, slash}
use Rattle.cidr.specs.texts.Refusal.{Lacks}
use Rattle.cidr.specs.model.Host.{Host}
use Rattle.cidr.specs.declared.addr.ip.IpAddr.{IpAddr}
use Rattle.cidr.specs.declared.addr.ip.IpAddr.TheVariants as address
use Rattle.cidr.specs.declared.cidr.combined.IpCidr.{IpCidr}
use Rattle.cidr.specs.declared.cidr.combined.IpCidr.TheVariants.{V4, V6}
use Rattle.cidr.specs.declared.family.Family.{Family}
use Rattle.cidr.specs.declared.family.Family.TheVariants.{Ipv4, Ipv6}
use Rattle.cidr.specs.declared.inet.combined.IpInet.{IpInet}
use Rattle.cidr.specs.declared.inet.combined.IpInet.TheVariants as host
use Rattle.cidr.proofs.Cuts.{Lacks-append, Lacks-cons, Lacks-digits, Lacks-length}
use Rattle.cidr.proofs.Ipv4Grammar.{Lacks-joined, Lacks-octet}
use Rattle.cidr_lists.specs.Fields.{FieldSays, HasFields, IsSplit, begins_comment, field_at}
use Rattle.cidr_lists.specs.Lists.{IsField, IsNetworkBy, hyphen, is_comment_sign}
use Rattle.cidr_lists.specs.Reading.{without_masks}
use Rattle.cidr_lists.specs.declared.columns.Column.{Column}
use Rattle.cidr_lists.specs.declared.columns.Separator.{Separator}
use Rattle.cidr_lists.specs.declared.columns.Separator.TheVariants.{WhiteSpace}
use Rattle.cidr_lists.specs.declared.lines.HostBits.{HostBits}
use Rattle.cidr_lists.specs.declared.lines.HostBits.TheVariants.{Refused, Cleared, RefusedWithMasks, ClearedWithMasks}
use Rattle.cidr_lists.proofs.LineFeeds.{uncut}

-- a byte that is no digit, dot, colon, slash or plus
module _ (c : ℕ) (far : 16 ≤ digit_value c) (no_dot : dot ≢ c) (no_colon : colon ≢ c) (no_slash : slash ≢ c) (no_plus : plus ≢ c) where
  lacks_octets : (text ns : List ℕ) → IsJoined IsOctetText text ns → Lacks c text
  lacks_octets = Lacks-joined IsOctetText c (λ text n. Lacks-octet c text n (omega (arith, far))) no_dot

  lacks_between : (text front back : List ℕ) → text ≡ front ++ colon ∷ back → Lacks c front → Lacks c back → Lacks c text
  lacks_between text front back e h k = rw e (Lacks-append c front (colon ∷ back) h (Lacks-cons c colon back no_colon k))

  lacks_nothing : (text groups : List ℕ) → IsNothing text groups → Lacks c text
  lacks_nothing text groups h = rw h.0 (λ i l. absurd (omega arith))

  lacks_groups : (text groups : List ℕ) → IsGroups text groups → Lacks c text
  lacks_groups text [] h = absurd h
  lacks_groups text (g ∷ []) h = Lacks-digits 16 c text far h.0.1
  lacks_groups text (g ∷ k ∷ groups) (front, back, split, h, more) =
      lacks_between text front back split (Lacks-digits 16 c front far h.0.1) (lacks_groups back (k ∷ groups) more)

  lacks_pair : (text : List ℕ) (g h : ℕ) → IsDottedPair text g h → Lacks c text
  lacks_pair text g h (i, j, k, l, joined, _, _) = lacks_octets text (i ∷ j ∷ k ∷ l ∷ []) joined

  lacks_run : (text groups : List ℕ) → IsRun text groups → Lacks c text
  lacks_run text groups (inl h) = lacks_groups text groups h
  lacks_run text groups (inr (before, g, h, e, inl (_, pair))) = lacks_pair text g h pair
  lacks_run text groups (inr (before, g, h, e, inr (front, back, split, more, pair))) =
      lacks_between text front back split (lacks_groups front before more) (lacks_pair back g h pair)

  lacks_front : (text groups : List ℕ) → IsNothing text groups ⊎ IsGroups text groups → Lacks c text
  lacks_front text groups (inl h) = lacks_nothing text groups h
  lacks_front text groups (inr h) = lacks_groups text groups h

  lacks_back : (text groups : List ℕ) → IsNothing text groups ⊎ IsRun text groups → Lacks c text
  lacks_back text groups (inl h) = lacks_nothing text groups h
  lacks_back text groups (inr h) = lacks_run text groups h

  lacks_eight : (text groups : List ℕ) → IsEightGroups text groups → Lacks c text
  lacks_eight text groups (inl h) = lacks_run text groups h.0
  lacks_eight text groups (inr h) =
      lacks_between text h.front (colon ∷ h.back) h.spelled (lacks_front h.front h.head h.front_text)
      (Lacks-cons c colon h.back no_colon (lacks_back h.back h.tail h.back_text))

  pub lacks_address : (family : Family) (text : List ℕ) (a : List Bool) → IsAddressText family text a → Lacks c text
  lacks_address Ipv4 text a h = lacks_octets text h.octets h.joined
  lacks_address Ipv6 text a h = lacks_eight text h.groups h.eight

  lacks_slashed : (family : Family) (text front back : List ℕ) (a : List Bool) (len : ℕ) → text ≡ front ++ slash ∷ back → IsAddressText family front a
      → IsLengthText back len → Lacks c text
  lacks_slashed family text front back a len e h k =
      rw e (Lacks-append c front (slash ∷ back) (lacks_address family front a h)
      (Lacks-cons c slash back no_slash (Lacks-length c back len (omega (arith, far)) no_plus k)))

  pub lacks_by_family : (family : Family) (text : List ℕ) (p : List Bool) → IsNetworkText family text p → Lacks c text
  lacks_by_family family text p (inl h) = lacks_address family text p h
  lacks_by_family family text p (inr s) = lacks_slashed family text s.front s.back s.address s.len s.spelled s.front_text s.back_text

  lacks_host_of : (family : Family) (text : List ℕ) (h : Host) → IsHostText family text h → Lacks c text
  lacks_host_of family text h (inl k) = lacks_address family text h.address k.0
  lacks_host_of family text h (inr s) = lacks_slashed family text s.front s.back h.address h.len s.spelled s.front_text s.back_text

  lacks_host : (text : List ℕ) (h : IpInet) → IsIpHostText text h → Lacks c text
  lacks_host text (host.V4 h) is = lacks_host_of Ipv4 text h is
  lacks_host text (host.V6 h) is = lacks_host_of Ipv6 text h is

  lacks_network : (bits : HostBits) (text : List ℕ) (network : IpCidr) → IsNetworkBy (without_masks bits) text network → Lacks c text
  lacks_network Refused text (V4 p) h = lacks_by_family Ipv4 text p h
  lacks_network Refused text (V6 p) h = lacks_by_family Ipv6 text p h
  lacks_network Cleared text network (h, is, same) = lacks_host text h is
  lacks_network RefusedWithMasks text (V4 p) h = lacks_by_family Ipv4 text p h
  lacks_network RefusedWithMasks text (V6 p) h = lacks_by_family Ipv6 text p h
  lacks_network ClearedWithMasks text network (h, is, same) = lacks_host text h is

-- bytes that begin no comment, and are no white space
no_sign : (b : ℕ) → b ≢ 35 → b ≢ 59 → is_comment_sign b ≡ false
no_sign b h k = grind (arith, common_steps)

pub no_space : (b : ℕ) → b ≢ 9 → b ≢ 10 → b ≢ 12 → b ≢ 13 → b ≢ 32 → is_ascii_whitespace b ≡ false
no_space b h k l m n = grind (arith, common_steps)

-- what is left of bytes without white space
pub one_trim : (bytes field : List ℕ) → ((i : ℕ) → i < length bytes → is_ascii_whitespace (slice_index_or bytes i 0) ≡ false)
    → IsTrimAscii bytes field → field ≡ bytes
one_trim bytes field plain (zero, whole, below, here, from, last) = elim (cases_lt (length field) (length bytes)) [
  | inl less ↦ absurd (true≢false (sym (from (length field) (omega arith) less) ∙ plain (length field) less))
  | inr past ↦ whole ∙ take_all (length field) bytes past
]
one_trim bytes field plain (suc m, whole, below, here, from, last) = elim (cases_lt 0 (length bytes)) [
  | inl some ↦ absurd (true≢false (sym (below 0 (omega arith)) ∙ plain 0 some))
  | inr none ↦
      let empty : length field ≡ 0 = omega (arith, none, ap length whole, length-take (length field) (drop (suc m) bytes), length-drop (suc m) bytes) in
      nil_from_length field empty ∙ sym (nil_from_length bytes (omega (arith, none)))
]

nothing_trimmed : IsTrimAscii [] []
nothing_trimmed = (
  0,
  refl,
  λ i below. absurd (omega (arith, below)),
  λ some. absurd (omega (arith, some)),
  λ i from within. absurd (omega (arith, from, within)),
  λ some. absurd (omega (arith, some)),
)

-- what is a network without masks is one with them
pub with_masks : (bits : HostBits) (text : List ℕ) (network : IpCidr) → IsNetworkBy (without_masks bits) text network → IsNetworkBy bits text network
with_masks Refused text network h = h
with_masks Cleared text network h = h
with_masks RefusedWithMasks text network h = inl h
with_masks ClearedWithMasks text network (host, is, same) = (host, inl is, same)

-- a network without a mask is its line's field
module _ (bits : HostBits) (line : List ℕ) (network : IpCidr) (is : IsNetworkBy (without_masks bits) line network) where
  lacks : (c : ℕ) → 16 ≤ digit_value c → dot ≢ c → colon ≢ c → slash ≢ c → plus ≢ c → Lacks c line
  lacks c far no_dot no_colon no_slash no_plus = lacks_network c far no_dot no_colon no_slash no_plus bits line network is

  pub unspaced : (i : ℕ) → i < length line → is_ascii_whitespace (slice_index_or line i 0) ≡ false
  unspaced i within =
      no_space (slice_index_or line i 0)
      (lacks 9 (omega arith) (omega arith) (omega arith) (omega arith) (omega arith) i within)
      (lacks 10 (omega arith) (omega arith) (omega arith) (omega arith) (omega arith) i within)
      (lacks 12 (omega arith) (omega arith) (omega arith) (omega arith) (omega arith) i within)
      (lacks 13 (omega arith) (omega arith) (omega arith) (omega arith) (omega arith) i within)
      (lacks 32 (omega arith) (omega arith) (omega arith) (omega arith) (omega arith) i within)

  uncommented : (i : ℕ) → i < length line → is_comment_sign (slice_index_or line i 0) ≡ false
  uncommented i within =
      no_sign (slice_index_or line i 0)
      (lacks 35 (omega arith) (omega arith) (omega arith) (omega arith) (omega arith) i within)
      (lacks 59 (omega arith) (omega arith) (omega arith) (omega arith) (omega arith) i within)

  trimmed : IsTrimAscii line line
  trimmed = (
    0,
    sym (take_all (length line) line (omega arith)),
    λ i below. absurd (omega (arith, below)),
    λ some. unspaced 0 some,
    λ i from within. absurd (omega (arith, from, within)),
    λ some. unspaced (length line - 1) (omega (arith, some)),
  )

  pub is_field : IsField line line
  is_field = subst (λ (k : List ℕ). IsTrimAscii k line) (uncut is_comment_sign line (length line) uncommented (omega arith)) trimmed

  pub no_feed : Lacks 10 line
  no_feed = lacks 10 (omega arith) (omega arith) (omega arith) (omega arith) (omega arith)

  pub no_hyphen : Lacks hyphen line
  no_hyphen = lacks hyphen (omega arith) (omega arith) (omega arith) (omega arith) (omega arith)

  starts : IsTrimAsciiStart line line
  starts = (0, refl, omega arith, λ i below. absurd (omega (arith, below)), λ some. unspaced 0 some)

  -- it has fields, of which it is the first
  unmarked : (i : ℕ) → i < length line → begins_comment WhiteSpace (slice_index_or line i 0) ≡ false
  unmarked i within = ap (λ (b : Bool). b && not (is_ascii_whitespace (slice_index_or line i 0))) (uncommented i within)

  pub has_fields : line ≢ [] → HasFields WhiteSpace line
  has_fields some = (line, trimmed, λ none. some (uncut (begins_comment WhiteSpace) line (length line) unmarked (omega arith) ∙ none))

  pub is_first : IsTrimAscii (field_at WhiteSpace 0 line) line
  is_first =
      subst (λ (k : List ℕ). IsTrimAscii k line)
      (uncut is_ascii_whitespace line (length line) unspaced (omega arith) ∙ ap (before_first is_ascii_whitespace) (trim_ascii_start_is line line starts)) trimmed

  -- its first field, and nothing behind that
  pub is_split : line ≢ [] → IsSplit line line []
  is_split some = (
    line,
    is_field,
    some,
    (
      (line, starts, uncut is_ascii_whitespace line (length line) unspaced (omega arith)),
      subst (λ (k : List ℕ). IsTrimAscii k []) (sym (drop_all (length line) line (omega arith))) nothing_trimmed,
    ),
  )

  -- and has no other field
  pub one_field : (field : List ℕ) → IsField line field → field ≡ line
  one_field field h =
      one_trim line field unspaced
      (subst (λ (k : List ℕ). IsTrimAscii k field) (sym (uncut is_comment_sign line (length line) uncommented (omega arith))) h)

-- and so is an address
pub address_split : (line : List ℕ) (address : IpAddr) → line ≢ [] → IsIpText line address → IsSplit line line []
address_split line (address.V4 a) some h = is_split Refused line (V4 a) (inl h) some
address_split line (address.V6 a) some h = is_split Refused line (V6 a) (inl h) some

-- a network is what the first field of its line says
abbrev FieldIs : List ℕ → IpCidr → Separator → ℕ → Type 0
FieldIs line network separator place =
    HasFields separator line × (field : List ℕ) × IsTrimAscii (field_at separator place line) field × IsIpNetworkText field network

pub whole_says : (column : Column) (line : List ℕ) (found : Option IpCidr) → column.place ≡ 0 → column.separator ≡ WhiteSpace → line ≢ []
    → IfSome found (IsNetworkBy Refused line) → IfSome found (λ network. FieldSays column line (Some network))
whole_says column line None place separator some h = tt
whole_says column line (Some network) place separator some h =
    subst (λ (s : Separator). FieldIs line network s column.place) (sym separator)
    (subst (λ (n : ℕ). FieldIs line network WhiteSpace n) (sym place) (has_fields Refused line network h some, line, is_first Refused line network h, h))
