-- What is found in a line, of each kind.
use Rattle.std.proofs.Common.{◌≡◌, ◌≢◌, refl, sym, ◌∙◌, ap, ap₂, subst, arith, inl, inr, ℕ, ◌<◌, ◌≤◌, Bool, true, false, List, length, take, drop, get_or, map, Option, Some, None, slice_get}
use Rattle.std.specs.Option.{option_map}
use Rattle.std.proofs.lemmas.Bool.{cases_lt, true≢false}
use Rattle.std.proofs.lemmas.List.{length-map}
use Rattle.std.proofs.lemmas.Option.{slice_get-get_or, slice_get-map, slice_get_within, same_Some}
use Rattle.cidr.specs.either.IpHost.{host_parts}
use Rattle.cidr.specs.either.IpNetwork.{network_bits, network_family, network_prefix}
use Rattle.cidr.specs.model.Host.{host_part}
use Rattle.cidr.specs.declared.cidr.combined.IpCidr.{IpCidr}
use Rattle.cidr.specs.declared.cidr.combined.IpCidr.TheVariants.{V4, V6}
use Rattle.cidr.specs.declared.inet.combined.IpInet.{IpInet}
use Rattle.cidr_lists.specs.Findings.{AreHalves, IsFinding, IsFirst, IsInnermost, IsInside, IsOnly, IsOnlyNote, entry_network, kind_rank, rank}
use Rattle.cidr_lists.specs.Nearness.{IsAroundAt, IsFirstIndex, IsHalfAt, IsNear}
use Rattle.cidr_lists.specs.declared.entries.Entry.{Entry}
use Rattle.cidr_lists.specs.declared.entries.Place.{Place}
use Rattle.cidr_lists.specs.declared.findings.Finding.{Finding}
use Rattle.cidr_lists.specs.declared.findings.Finding.TheVariants.{HostBits, NotCanonical, Repeats, Inside, Mergeable}
use Rattle.cidr_lists.specs.declared.findings.FindingKind.{FindingKind}
use Rattle.cidr_lists.specs.declared.findings.FindingKind.TheVariants as looked
use Rattle.cidr_lists.specs.declared.findings.Note.{Note}
use Rattle.cidr_lists.specs.declared.near.Near.{Near}
use Rattle.cidr_lists.proofs.Nested.{sibling_same}

-- ---- networks by their bits
bits_same : (a b : IpCidr) → network_bits a ≡ network_bits b → a ≡ b
bits_same (V4 p) (V4 q) e = ap V4 (ap (drop 1) e)
bits_same (V4 p) (V6 q) e = cc
bits_same (V6 p) (V4 q) e = cc
bits_same (V6 p) (V6 q) e = ap V6 (ap (drop 1) e)

prefix_same : (a b : IpCidr) → network_family a ≡ network_family b → network_prefix a ≡ network_prefix b → a ≡ b
prefix_same (V4 p) (V4 q) f e = ap V4 e
prefix_same (V4 p) (V6 q) f e = cc
prefix_same (V6 p) (V4 q) f e = cc
prefix_same (V6 p) (V6 q) f e = ap V6 e

-- ---- the other half
half_same : (network a b : IpCidr) → AreHalves network a → AreHalves network b → a ≡ b
half_same network a b (f, one) (g, other) =
    prefix_same a b (f ∙ sym g) (sibling_same (network_prefix network) (network_prefix a) (network_prefix b) one other)

-- ---- findings by their rank
is_host_bits : (f : Finding) → rank f ≡ 0 → f ≡ HostBits
is_host_bits HostBits e = refl
is_host_bits (NotCanonical host) e = absurd (omega (arith, e))
is_host_bits (Repeats place) e = absurd (omega (arith, e))
is_host_bits (Inside outer place) e = absurd (omega (arith, e))
is_host_bits (Mergeable place) e = absurd (omega (arith, e))

is_canonical : (f : Finding) → rank f ≡ 1 → (host : IpInet) × (f ≡ NotCanonical host)
is_canonical HostBits e = absurd (omega (arith, e))
is_canonical (NotCanonical host) e = (host, refl)
is_canonical (Repeats place) e = absurd (omega (arith, e))
is_canonical (Inside outer place) e = absurd (omega (arith, e))
is_canonical (Mergeable place) e = absurd (omega (arith, e))

is_repeats : (f : Finding) → rank f ≡ 2 → (place : Place) × (f ≡ Repeats place)
is_repeats HostBits e = absurd (omega (arith, e))
is_repeats (NotCanonical host) e = absurd (omega (arith, e))
is_repeats (Repeats place) e = (place, refl)
is_repeats (Inside outer place) e = absurd (omega (arith, e))
is_repeats (Mergeable place) e = absurd (omega (arith, e))

is_inside : (f : Finding) → rank f ≡ 3 → (outer : IpCidr) × (place : Place) × (f ≡ Inside outer place)
is_inside HostBits e = absurd (omega (arith, e))
is_inside (NotCanonical host) e = absurd (omega (arith, e))
is_inside (Repeats place) e = absurd (omega (arith, e))
is_inside (Inside outer place) e = (outer, place, refl)
is_inside (Mergeable place) e = absurd (omega (arith, e))

is_mergeable : (f : Finding) → rank f ≡ 4 → (place : Place) × (f ≡ Mergeable place)
is_mergeable HostBits e = absurd (omega (arith, e))
is_mergeable (NotCanonical host) e = absurd (omega (arith, e))
is_mergeable (Repeats place) e = absurd (omega (arith, e))
is_mergeable (Inside outer place) e = absurd (omega (arith, e))
is_mergeable (Mergeable place) e = (place, refl)

module _ (entries : List Entry) (i : ℕ) (entry : Entry) where
  -- ---- the line by itself
  pub no_host_bits : host_part (host_parts entry.host) < 1 → IsOnly (IsFinding entries i entry) 0 None
  no_host_bits none f kind holds =
      let found : host_part (host_parts entry.host) ≢ 0 = subst (IsFinding entries i entry) (is_host_bits f kind) holds in found (omega (arith, none))

  pub some_host_bits : ¬ (host_part (host_parts entry.host) < 1) → IsOnly (IsFinding entries i entry) 0 (Some HostBits)
  some_host_bits some = (
    refl,
    λ f kind. (λ holds. is_host_bits f kind, λ same. subst (IsFinding entries i entry) (sym same) (λ none. some (omega (arith, none)))),
  )

  canonical : entry.is_canonical ≡ true → IsOnly (IsFinding entries i entry) 1 None
  canonical is f kind holds =
      let (host, same) = is_canonical f kind in
      let found = subst (IsFinding entries i entry) same holds in
      true≢false (sym is ∙ found.1)

  not_canonical : entry.is_canonical ≡ false → IsOnly (IsFinding entries i entry) 1 (Some (NotCanonical entry.host))
  not_canonical is = (
    refl,
    λ f kind.
        let (host, same) = is_canonical f kind in (
          λ holds.
              let found = subst (IsFinding entries i entry) same holds in
              same ∙ ap NotCanonical found.0,
          λ there. subst (IsFinding entries i entry) (sym there) (refl, is),
        ),
  )

-- ---- the first line of a network
module _ (entries : List Entry) where
  -- the networks of the lines
  abbrev networks : List IpCidr
  networks = map entry_network entries

  network_there : (network : IpCidr) (j : ℕ) (place : Place) → IsFirst entries network j place → slice_get networks j ≡ Some network
  network_there network j place h = slice_get-map entry_network entries j ∙ (ap (option_map entry_network) h.here ∙ ap Some h.same)

  pub network_of : (j : ℕ) (other : Entry) → slice_get entries j ≡ Some other → slice_get networks j ≡ Some (entry_network other)
  network_of j other here = slice_get-map entry_network entries j ∙ ap (option_map entry_network) here

  network_at : (network : IpCidr) (j : ℕ) (other : Entry) → slice_get entries j ≡ Some other → slice_get networks j ≡ Some network
      → entry_network other ≡ network
  network_at network j other here there = same_Some (entry_network other) network (sym (network_of j other here) ∙ there)

  first_of_index : (network : IpCidr) (j : ℕ) (other : Entry) → IsFirstIndex networks network j → slice_get entries j ≡ Some other
      → IsFirst entries network j other.place
  first_of_index network j other h here = record {
    entry = other;
    here = here;
    stands = refl;
    same = network_at network j other here h.0;
    first = λ k one there is. h.1 k (network_of k one there ∙ ap Some is);
  }

  first_same : (network : IpCidr) (j k : ℕ) (p q : Place) → IsFirst entries network j p → IsFirst entries network k q → p ≡ q
  first_same network j k p q h g =
      let one = h.first k g.entry g.here g.same in
      let other = g.first j h.entry h.here h.same in
      let index : j ≡ k = omega (arith, one, other) in
      let same : h.entry ≡ g.entry = same_Some h.entry g.entry (sym h.here ∙ (ap (slice_get entries) index ∙ g.here)) in
      sym h.stands ∙ (ap (λ (e : Entry). e.place) same ∙ g.stands)

  -- a line at or behind the first one is no earlier one
  not_earlier : (network : IpCidr) (i j : ℕ) → IsFirstIndex networks network j → i ≤ j → (k : ℕ) (place : Place) → k < i → ¬ (IsFirst entries network k place)
  not_earlier network i j here past k place below h =
      let least = here.1 k (network_there network k place h) in
      absurd (omega (arith, least, past, below))

  -- the index that was found is inside the list
  pub index_within : (network : IpCidr) (j : ℕ) → IsFirstIndex networks network j → j < length entries
  index_within network j h = omega (arith, slice_get_within networks j network h.0, length-map entries entry_network)

  module _ (i : ℕ) (entry : Entry) where
    -- ---- an earlier line of the same network
    no_repeat : ((k : ℕ) (place : Place) → k < i → ¬ (IsFirst entries (entry_network entry) k place)) → IsOnly (IsFinding entries i entry) 2 None
    no_repeat none f kind holds =
        let (place, is) = is_repeats f kind in
        let (k, below, first) = subst (IsFinding entries i entry) is holds in
        none k place below first

    pub first_repeats : (j : ℕ) → IsFirstIndex networks (entry_network entry) j → i ≤ j → IsOnly (IsFinding entries i entry) 2 None
    first_repeats j here past = no_repeat (not_earlier (entry_network entry) i j here past)

    pub repeats_first : (j : ℕ) (other : Entry) → IsFirstIndex networks (entry_network entry) j → j < i → slice_get entries j ≡ Some other
        → IsOnly (IsFinding entries i entry) 2 (Some (Repeats other.place))
    repeats_first j other here below there =
        let first = first_of_index (entry_network entry) j other here there in (
          refl,
          λ f kind.
              let (place, is) = is_repeats f kind in (
                λ holds.
                    let (k, lt, h) = subst (IsFinding entries i entry) is holds in
                    is ∙ ap Repeats (first_same (entry_network entry) k j place other.place h first),
                λ same. subst (IsFinding entries i entry) (sym same) (j, below, first),
              ),
        )

    -- ---- an earlier line of the other half
    pub nothing_merges : IsHalfAt networks (entry_network entry) None → IsOnly (IsFinding entries i entry) 4 None
    nothing_merges none f kind holds =
        let (place, is) = is_mergeable f kind in
        let (other, k, halves, below, first) = subst (IsFinding entries i entry) is holds in
        none k other (network_there other k place first) halves

    pub later_merges : (j : ℕ) → IsHalfAt networks (entry_network entry) (Some j) → i ≤ j → IsOnly (IsFinding entries i entry) 4 None
    later_merges j (other, half, here) past f kind holds =
        let (place, is) = is_mergeable f kind in
        let (one, k, halves, below, first) = subst (IsFinding entries i entry) is holds in
        not_earlier other i j here past k place below
        (subst (λ (n : IpCidr). IsFirst entries n k place) (half_same (entry_network entry) one other halves half) first)

    pub earlier_merges : (j : ℕ) (one : Entry) → IsHalfAt networks (entry_network entry) (Some j) → j < i → slice_get entries j ≡ Some one
        → IsOnly (IsFinding entries i entry) 4 (Some (Mergeable one.place))
    earlier_merges j one (other, half, here) below there =
        let first = first_of_index other j one here there in (
          refl,
          λ f kind.
              let (place, is) = is_mergeable f kind in (
                λ holds.
                    let (two, k, halves, lt, h) = subst (IsFinding entries i entry) is holds in
                    let same : IsFirst entries other k place = subst (λ (n : IpCidr). IsFirst entries n k place) (half_same (entry_network entry) two other halves half) h in
                    is ∙ ap Mergeable (first_same other k j place one.place same first),
                λ same. subst (IsFinding entries i entry) (sym same) (other, j, half, below, first),
              ),
        )

    -- ---- the longest network around
    pub none_around : IsAroundAt networks (entry_network entry) None → IsOnly (IsFinding entries i entry) 3 None
    none_around none f kind holds =
        let (outer, place, is) = is_inside f kind in
        let (j, most, first) = subst (IsFinding entries i entry) is holds in
        none j outer (network_there outer j place first) most.inside

    around : (j : ℕ) (other : Entry) → slice_get entries j ≡ Some other → IsAroundAt networks (entry_network entry) (Some j)
        → IsInnermost entries (entry_network entry) (entry_network other) × IsFirst entries (entry_network other) j other.place
    around j other here (outer, index, within, longest) =
        let is : outer ≡ entry_network other = sym (network_at outer j other here index.0) in (
          record {
            inside = subst (IsInside (entry_network entry)) is within;
            longest = λ k one at inside.
                subst (λ (n : IpCidr). length (network_bits (entry_network one)) ≤ length (network_bits n)) is
                (longest k (entry_network one) (network_of k one at) inside);
          },
          first_of_index (entry_network other) j other (subst (λ (n : IpCidr). IsFirstIndex networks n j) is index) here,
        )

    innermost_same : (a b : IpCidr) (j k : ℕ) (p q : Place) → IsInnermost entries (entry_network entry) a → IsInnermost entries (entry_network entry) b
        → IsFirst entries a j p → IsFirst entries b k q → a ≡ b
    innermost_same a b j k p q h g first second =
        let one = h.longest k second.entry second.here (subst (IsInside (entry_network entry)) (sym second.same) g.inside) in
        let other = g.longest j first.entry first.here (subst (IsInside (entry_network entry)) (sym first.same) h.inside) in
        let size : length (network_bits a) ≡ length (network_bits b) =
        omega (arith, one, other, ap (λ (n : IpCidr). length (network_bits n)) second.same, ap (λ (n : IpCidr). length (network_bits n)) first.same) in
        bits_same a b (sym h.inside.0 ∙ (ap (λ (n : ℕ). take n (network_bits (entry_network entry))) size ∙ g.inside.0))

    pub some_around : (j : ℕ) (other : Entry) → slice_get entries j ≡ Some other → IsAroundAt networks (entry_network entry) (Some j)
        → IsOnly (IsFinding entries i entry) 3 (Some (Inside (entry_network other) other.place))
    some_around j other here found =
        let (most, first) = around j other here found in (
          refl,
          λ f kind.
              let (outer, place, is) = is_inside f kind in (
                λ holds.
                    let (k, inner, h) = subst (IsFinding entries i entry) is holds in
                    let same : outer ≡ entry_network other = innermost_same outer (entry_network other) k j place other.place inner most h first in
                    is ∙ ap₂ Inside same (first_same (entry_network other) k j place other.place (subst (λ (n : IpCidr). IsFirst entries n k place) same h) first),
                λ same. subst (IsFinding entries i entry) (sym same) (j, most, first),
              ),
        )

-- ---- one finding of each kind, or none
module _ (entries : List Entry) (i : ℕ) (entry : Entry) where
  -- the first line has a place
  entry_of : (network : IpCidr) (j : ℕ) → IsFirstIndex (map entry_network entries) network j → (other : Entry) × (slice_get entries j ≡ Some other)
  entry_of network j first = (get_or entries j entry, slice_get-get_or entries j entry (index_within entries network j first))

  abbrev noted : Finding → Note
  noted found = record { index = i; place = entry.place; finding = found }

  same_found : (j : ℕ) → IsFirstIndex (map entry_network entries) (entry_network entry) j → (note : Option Note) × IsOnlyNote entries i entry 2 note
  same_found j first = elim (cases_lt j i) [
    | inr ge ↦ (None, first_repeats entries i entry j first ge)
    | inl lt ↦
        let (other, there) = entry_of (entry_network entry) j first in
        (Some (noted (Repeats other.place)), (refl, refl, repeats_first entries i entry j other first lt there))
  ]

  outer_found : (r : Option ℕ) → IsAroundAt (map entry_network entries) (entry_network entry) r → (note : Option Note) × IsOnlyNote entries i entry 3 note
  outer_found None none = (None, none_around entries i entry none)
  outer_found (Some j) around =
      let (other, there) = entry_of around.0 j around.1 in
      (Some (noted (Inside (entry_network other) other.place)), (refl, refl, some_around entries i entry j other there around))

  half_found : (r : Option ℕ) → IsHalfAt (map entry_network entries) (entry_network entry) r → (note : Option Note) × IsOnlyNote entries i entry 4 note
  half_found None none = (None, nothing_merges entries i entry none)
  half_found (Some j) half = elim (cases_lt j i) [
    | inr ge ↦ (None, later_merges entries i entry j half ge)
    | inl lt ↦
        let (other, there) = entry_of half.0 j half.2 in
        (Some (noted (Mergeable other.place)), (refl, refl, earlier_merges entries i entry j other half lt there))
  ]

  form_found : (b : Bool) → entry.is_canonical ≡ b → (note : Option Note) × IsOnlyNote entries i entry 1 note
  form_found true is = (None, canonical entries i entry is)
  form_found false is = (Some (noted (NotCanonical entry.host)), (refl, refl, not_canonical entries i entry is))

  pub some_found : (near : Near) → IsNear (map entry_network entries) (entry_network entry) near → (k : FindingKind)
      → (note : Option Note) × IsOnlyNote entries i entry (kind_rank k) note
  some_found near h looked.HostBits = elim (cases_lt (host_part (host_parts entry.host)) 1) [
    | inl none ↦ (None, no_host_bits entries i entry none)
    | inr some ↦ (Some (noted HostBits), (refl, refl, some_host_bits entries i entry (λ lt. omega (arith, some, lt))))
  ]
  some_found near h looked.Form = form_found entry.is_canonical refl
  some_found near h looked.Same = same_found near.first h.0
  some_found near h looked.Outer = outer_found near.outer h.1
  some_found near h looked.Half = half_found near.half h.2
