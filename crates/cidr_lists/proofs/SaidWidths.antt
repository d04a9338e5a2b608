-- The networks that lists say have no more bits than addresses, and nor have those of their set.
use Rattle.std.proofs.Common.{◌≡◌, ◌≢◌, refl, sym, ◌∙◌, ap, subst, inl, inr, ℕ, zero, suc, ◌-◌, ◌<◌, ◌≤◌, Bool, true, false, List, [], ◌∷◌, ◌++◌, length, get_or, drop, take, replicate, arith, length-append}
use Rattle.std.specs.List.{AllZip}
use Rattle.std.proofs.lemmas.Bool.{cases_lt, false≢true, true≢false}
use Rattle.std.proofs.lemmas.List.{length-replicate, length-take, take-take, take_at}
use Rattle.std.proofs.lemmas.List.Elements.{Contains-append_cases, Contains-append_left, Contains-append_right}
use Rattle.std.specs.declared.cmp.Ordering.TheVariants.{Greater}
use Rattle.cidr.specs.either.IpText.{IsIpHostText}
use Rattle.cidr.specs.either.IpHost.{host_at, host_network}
use Rattle.cidr.specs.laws.BitLaws.{length-bits}
use Rattle.cidr.specs.model.Bits.{bit_cmp}
use Rattle.cidr.specs.model.Host.{Host, first_host, network_of}
use Rattle.cidr.specs.model.Network.{BeginsWith, width_of}
use Rattle.cidr.specs.texts.HostText.{IsHostText}
use Rattle.cidr.specs.texts.NetworkText.{IsNetworkText}
use Rattle.cidr.specs.declared.addr.ip.IpAddr.TheVariants as address
use Rattle.cidr.specs.declared.cidr.combined.IpCidr.{IpCidr}
use Rattle.cidr.specs.declared.cidr.combined.IpCidr.TheVariants.{V4, V6}
use Rattle.cidr.specs.declared.family.Family.{Family}
use Rattle.cidr.specs.declared.family.Family.TheVariants.{Ipv4, Ipv6}
use Rattle.cidr.specs.declared.inet.combined.IpInet.{IpInet}
use Rattle.cidr.specs.declared.inet.combined.IpInet.TheVariants as host
use Rattle.cidr_table.specs.model.Cover.{AreNetworks, Covers, parent}
use Rattle.cidr_table.proofs.Halves.{length_parent}
use Rattle.cidr_table.proofs.MapLaws.{contains_nothing}
use Rattle.cidr_sets.specs.model.Ranges.{IsBetween}
use Rattle.cidr_sets.specs.model.Sets.{IsSetOf}
use Rattle.cidr_lists.specs.Combining.{SomeHas}
use Rattle.cidr_lists.specs.Forms.{with_length}
use Rattle.cidr_lists.specs.Masks.{IsMaskedHost}
use Rattle.cidr_lists.specs.Records.{IsRecordContent}
use Rattle.cidr_lists.specs.Lists.{IsContent, IsNetworkBy, SaysBy, ListSays, AreContentNetworks as AreOfContent, Text, lines_of, line_networks, networks_in}
use Rattle.cidr_lists.specs.ReadBack.{AreOfFamilies, AreUnions}
use Rattle.cidr_lists.specs.Texts.{SaysAddress}
use Rattle.cidr_lists.specs.declared.lines.Content.{Content}
use Rattle.cidr_lists.specs.declared.lines.Content.TheVariants.{Blank, Network, Ipv4Range, Ipv6Range}
use Rattle.cidr_lists.specs.declared.lines.HostBits.{HostBits}
use Rattle.cidr_lists.specs.declared.lines.HostBits.TheVariants.{Refused, Cleared, RefusedWithMasks, ClearedWithMasks}
use Rattle.cidr_lists.specs.declared.records.ListForm.{ListForm}
use Rattle.cidr_lists.specs.declared.records.ListForm.TheVariants.{Networks, Rir}
use Rattle.cidr_lists.proofs.Anywhere.{address_width}
use Rattle.cidr_lists.proofs.MaskedTexts.{mask_fits, network_again}
use Rattle.cidr_lists.proofs.Contents.{in_v4, in_v6, not_in_v4, not_in_v6}

-- the first w bits of a long list tell whether it is in the set
abbrev pub TellFirst : ℕ → (List Bool → Type 0) → Type 0
TellFirst w IsIn = (a b : List Bool) → length a ≡ 129 → length b ≡ 129 → take w a ≡ take w b → IsIn a → IsIn b

-- ---- a set that the first bits tell has no longer networks
module _ (w : ℕ) (IsIn : List Bool → Type 0) (networks : List (List Bool)) (tell : TellFirst w IsIn) (set : IsSetOf 129 IsIn networks) where
  -- a list of 129 bits in place of one that begins with the parent of a longer network
  module _ (p : List Bool) (longer : w < length p) (within : length p ≤ 129)
      (full : (a : List Bool) → length a ≡ 129 → BeginsWith a p → Covers networks a) where
    abbrev long : List Bool
    long = p ++ replicate (129 - length p) false

    length-long : length long ≡ 129
    length-long = omega (arith, within, length-append p (replicate (129 - length p) false), length-replicate (129 - length p) false)

    long_begins : BeginsWith long p
    long_begins = take_at p (replicate (129 - length p) false) (length p) refl

    parent_full : (a : List Bool) → length a ≡ 129 → BeginsWith a (parent p) → Covers networks a
    parent_full a la begins =
        let low : w ≤ length (parent p) = omega (arith, longer, length_parent p) in
        let below : w ≤ length p - 1 = omega (arith, longer) in
        let first : take w long ≡ take w p = sym (take-take w (length p) long (omega (arith, longer))) ∙ ap (take w) long_begins in
        let second : take w a ≡ take w p = sym (take-take w (length (parent p)) a low) ∙ (ap (take w) begins ∙ take-take w (length p - 1) p below) in
        (set.exact a la).1 (tell long a length-long la (first ∙ sym second) ((set.exact long length-long).0 (full long length-long long_begins)))

  pub set_fits : AreNetworks w networks
  set_fits p c =
      let m = (set.reduced.members p).0 c in
      elim (cases_lt w (length p)) [
        | inr fits ↦ fits
        | inl longer ↦ elim m.widest [
          | inl none ↦ omega (arith, ap length none, longer)
          | inr part ↦ absurd (part (parent_full p longer m.within m.full))
        ]
      ]

-- ---- networks that have no more bits
pub covers_tell : (w : ℕ) (networks : List (List Bool)) → AreNetworks w networks → TellFirst w (Covers networks)
covers_tell w networks fit a b la lb same (p, c, begins) = (
  p,
  c,
  sym (take-take (length p) w b (fit p c)) ∙ (ap (take (length p)) (sym same) ∙ (take-take (length p) w a (fit p c) ∙ begins)),
)

append_tells : (w : ℕ) (these those : List (List Bool)) → TellFirst w (Covers these) → TellFirst w (Covers those) → TellFirst w (Covers (these ++ those))
append_tells w these those first second a b la lb same (p, c, begins) = elim (Contains-append_cases these those p c) [
  | inl here ↦ let (q, d, k) = first a b la lb same (p, here, begins) in (q, Contains-append_left these those q d, k)
  | inr there ↦ let (q, d, k) = second a b la lb same (p, there, begins) in (q, Contains-append_right these those q d, k)
]

-- ---- ranges
order_by_front : (f a b : List Bool) → length f ≤ length a → length f ≤ length b → take (length f) a ≡ take (length f) b → bit_cmp f a ≢ Greater
    → bit_cmp f b ≢ Greater
order_by_front [] a [] la lb same h = λ g. cc
order_by_front [] a (z ∷ b) la lb same h = λ g. cc
order_by_front (x ∷ f) [] b la lb same h = absurd (omega (arith, la))
order_by_front (x ∷ f) (y ∷ a) [] la lb same h = absurd (omega (arith, lb))
order_by_front (x ∷ f) (true ∷ a) (false ∷ b) la lb same h = absurd (true≢false (ap (λ (t : List Bool). get_or t 0 true) same))
order_by_front (x ∷ f) (false ∷ a) (true ∷ b) la lb same h = absurd (false≢true (ap (λ (t : List Bool). get_or t 0 true) same))
order_by_front (true ∷ f) (true ∷ a) (true ∷ b) la lb same h = order_by_front f a b (omega (arith, la)) (omega (arith, lb)) (ap (drop 1) same) h
order_by_front (false ∷ f) (false ∷ a) (false ∷ b) la lb same h = order_by_front f a b (omega (arith, la)) (omega (arith, lb)) (ap (drop 1) same) h
order_by_front (false ∷ f) (true ∷ a) (true ∷ b) la lb same h = λ g. cc
order_by_front (true ∷ f) (false ∷ a) (false ∷ b) la lb same h = h

between_tells : (w : ℕ) (first last : List Bool) → w ≤ 129 → length first ≡ w → length last ≡ w → TellFirst w (IsBetween first last)
between_tells w first last within lf ll a b la lb same h = (
  order_by_front first a b (omega (arith, within, lf, la)) (omega (arith, within, lf, lb)) (rw lf same) h.0,
  let front : take (length last) a ≡ take (length last) b = rw ll same in subst (λ (k : List Bool). bit_cmp k last ≢ Greater) front h.1,
)

range_tells : (w : ℕ) (first last : List Bool) (networks : List (List Bool)) → w ≤ 129 → length first ≡ w → length last ≡ w
    → IsSetOf 129 (IsBetween first last) networks → TellFirst w (Covers networks)
range_tells w first last networks within lf ll set a b la lb same c =
    (set.exact b lb).1 (between_tells w first last within lf ll a b la lb same ((set.exact a la).0 c))

-- ---- what a line says
network_width : (family : Family) (text : List ℕ) (p : List Bool) → IsNetworkText family text p → length p ≤ width_of family
network_width family text p (inl h) = omega (arith, address_width family text p h)
network_width family text p (inr s) = omega (arith, ap length s.value, length-take s.len s.address, s.fits)

host_width : (family : Family) (text : List ℕ) (h : Host) → IsHostText family text h → length (network_of h) ≤ width_of family
host_width family text h (inl k) = omega (arith, length-take h.len h.address, k.1)
host_width family text h (inr s) = omega (arith, length-take h.len h.address, s.fits)

-- of one network
abbrev IsNarrow : IpCidr → Type 0
IsNarrow (V4 p) = length p ≤ 32
IsNarrow (V6 p) = length p ≤ 128

host_narrow : (text : List ℕ) (h : IpInet) → IsIpHostText text h → IsNarrow (host_network h)
host_narrow text (host.V4 h) is = host_width Ipv4 text h is
host_narrow text (host.V6 h) is = host_width Ipv6 text h is

masked_narrow : (text : List ℕ) (h : IpInet) → IsMaskedHost text h → IsNarrow (host_network h)
masked_narrow text (host.V4 h) (_, _, _, (_, mask, _, len)) = omega (arith, length-take h.len h.address, mask_fits 32 h.len mask len)
masked_narrow text (host.V6 h) (_, _, _, (_, mask, _, len)) = omega (arith, length-take h.len h.address, mask_fits 128 h.len mask len)

network_narrow : (bits : HostBits) (text : List ℕ) (network : IpCidr) → IsNetworkBy bits text network → IsNarrow network
network_narrow Refused text (V4 p) h = network_width Ipv4 text p h
network_narrow Refused text (V6 p) h = network_width Ipv6 text p h
network_narrow Cleared text network (h, is, same) = subst IsNarrow (sym same) (host_narrow text h is)
network_narrow RefusedWithMasks text (V4 p) (inl h) = network_width Ipv4 text p h
network_narrow RefusedWithMasks text (V6 p) (inl h) = network_width Ipv6 text p h
network_narrow RefusedWithMasks text network (inr h) =
    subst IsNarrow (network_again network) (masked_narrow text (host_at first_host network) h)
network_narrow ClearedWithMasks text network (h, inl is, same) = subst IsNarrow (sym same) (host_narrow text h is)
network_narrow ClearedWithMasks text network (h, inr is, same) = subst IsNarrow (sym same) (masked_narrow text h is.0)

nothing_tells : (w : ℕ) → TellFirst w (Covers [])
nothing_tells w a b la lb same (p, c, begins) = absurd (contains_nothing p c)

one_fits : (w : ℕ) (p : List Bool) → length p ≤ w → AreNetworks w (p ∷ [])
one_fits w p fits q (zero, within, is) = subst (λ (k : List Bool). length k ≤ w) is fits
one_fits w p fits q (suc k, within, is) = absurd (omega (arith, within))

narrow_tells : (family : Family) (network : IpCidr) → IsNarrow network → TellFirst (width_of family) (Covers (line_networks family (network ∷ [])))
narrow_tells Ipv4 (V4 p) fits = covers_tell 32 (p ∷ []) (one_fits 32 p fits)
narrow_tells Ipv4 (V6 p) fits = nothing_tells 32
narrow_tells Ipv6 (V4 p) fits = nothing_tells 128
narrow_tells Ipv6 (V6 p) fits = covers_tell 128 (p ∷ []) (one_fits 128 p fits)

-- by the networks of a line
at_networks : (w : ℕ) (networks others : List (List Bool)) → networks ≡ others → TellFirst w (Covers others) → TellFirst w (Covers networks)
at_networks w networks others same = subst (λ (k : List (List Bool)). TellFirst w (Covers k)) (sym same)

none_in : (family : Family) → line_networks family [] ≡ []
none_in Ipv4 = refl
none_in Ipv6 = refl

content_tells : (bits : HostBits) (field : List ℕ) (content : Content) (said : List IpCidr) (family : Family) → IsContent bits field content
    → AreOfContent content said → TellFirst (width_of family) (Covers (line_networks family said))
content_tells bits field Blank said family is are =
    at_networks (width_of family) (line_networks family said) [] (ap (line_networks family) are ∙ none_in family) (nothing_tells (width_of family))
content_tells bits field (Network network) said family is are =
    at_networks (width_of family) (line_networks family said) (line_networks family (network ∷ [])) (ap (line_networks family) are)
    (narrow_tells family network (network_narrow bits field network is))
content_tells bits field (Ipv4Range first last) said Ipv4 ((front, back, split, (head, _, low), (tail, _, high)), up) (networks, set, are) =
    at_networks 32 (line_networks Ipv4 said) networks (ap (line_networks Ipv4) are ∙ in_v4 networks)
    (range_tells 32 first last networks (omega arith) (address_width Ipv4 head first low) (address_width Ipv4 tail last high) set)
content_tells bits field (Ipv4Range first last) said Ipv6 is (networks, set, are) =
    at_networks 128 (line_networks Ipv6 said) [] (ap (line_networks Ipv6) are ∙ not_in_v6 networks) (nothing_tells 128)
content_tells bits field (Ipv6Range first last) said Ipv4 is (networks, set, are) =
    at_networks 32 (line_networks Ipv4 said) [] (ap (line_networks Ipv4) are ∙ not_in_v4 networks) (nothing_tells 32)
content_tells bits field (Ipv6Range first last) said Ipv6 ((front, back, split, (head, _, low), (tail, _, high)), up) (networks, set, are) =
    at_networks 128 (line_networks Ipv6 said) networks (ap (line_networks Ipv6) are ∙ in_v6 networks)
    (range_tells 128 first last networks (omega arith) (address_width Ipv6 head first low) (address_width Ipv6 tail last high) set)

-- what a record says
record_tells : (line : List ℕ) (content : Content) (said : List IpCidr) (family : Family) → IsRecordContent line content
    → AreOfContent content said → TellFirst (width_of family) (Covers (line_networks family said))
record_tells line Blank said family is are =
    at_networks (width_of family) (line_networks family said) [] (ap (line_networks family) are ∙ none_in family) (nothing_tells (width_of family))
record_tells line (Network network) said family (Ipv4, start, value, _, is) are = absurd is
record_tells line (Network network) said family (Ipv6, start, value, _, (a, _, is)) are =
    at_networks (width_of family) (line_networks family said) (line_networks family (network ∷ [])) (ap (line_networks family) are)
    (narrow_tells family network (network_narrow Refused (with_length (address.V6 a) value) network is))
record_tells line (Ipv4Range first last) said Ipv4 (Ipv6, start, value, _, is) are = absurd is
record_tells line (Ipv4Range first last) said Ipv4 (Ipv4, start, value, _, (count, at, _, (end, _, _, _, same))) (networks, set, are) =
    at_networks 32 (line_networks Ipv4 said) networks (ap (line_networks Ipv4) are ∙ in_v4 networks)
    (range_tells 32 first last networks (omega arith) (address_width Ipv4 start first at) (ap length same ∙ length-bits 32 end) set)
record_tells line (Ipv4Range first last) said Ipv6 is (networks, set, are) =
    at_networks 128 (line_networks Ipv6 said) [] (ap (line_networks Ipv6) are ∙ not_in_v6 networks) (nothing_tells 128)
record_tells line (Ipv6Range first last) said family (Ipv4, start, value, _, is) are = absurd is
record_tells line (Ipv6Range first last) said family (Ipv6, start, value, _, is) are = absurd is

-- ---- what lists say
line_tells : (form : ListForm) (family : Family) (line : List ℕ) (said : List IpCidr) → SaysBy form line said
    → TellFirst (width_of family) (Covers (line_networks family said))
line_tells (Networks bits) family line said (short, field, content, is_field, is, are) = content_tells bits field content said family is are
line_tells Rir family line said (short, content, is, are) = record_tells line content said family is are

lines_tell : (form : ListForm) (family : Family) (lines : List (List ℕ)) (said : List (List IpCidr)) → AllZip (SaysBy form) lines said
    → TellFirst (width_of family) (Covers (networks_in family said))
lines_tell form family [] [] h = nothing_tells (width_of family)
lines_tell form family [] (s ∷ said) h = absurd h
lines_tell form family (line ∷ lines) [] h = absurd h
lines_tell form family (line ∷ lines) (s ∷ said) (says, h) =
    append_tells (width_of family) (line_networks family s) (networks_in family said) (line_tells form family line s says)
    (lines_tell form family lines said h)

lists_tell : (family : Family) (texts : List Text) (lists : List (List (List IpCidr))) → AllZip ListSays texts lists
    → TellFirst (width_of family) (SomeHas SaysAddress lists family)
lists_tell family [] [] h a b la lb same none = none
lists_tell family [] (said ∷ lists) h a b la lb same here = absurd h
lists_tell family (text ∷ texts) [] h a b la lb same here = absurd h
lists_tell family (text ∷ texts) (said ∷ lists) h a b la lb same (inl here) = inl (lines_tell text.form family (lines_of text.bytes) said h.0 a b la lb same here)
lists_tell family (text ∷ texts) (said ∷ lists) h a b la lb same (inr there) = inr (lists_tell family texts lists h.1 a b la lb same there)

pub unions_fit : (texts : List Text) (lists : List (List (List IpCidr))) (networks : Family → List (List Bool)) → AllZip ListSays texts lists
    → AreUnions lists networks → AreOfFamilies networks
unions_fit texts lists networks says are family =
    set_fits (width_of family) (SomeHas SaysAddress lists family) (networks family) (lists_tell family texts lists says) (are family)
