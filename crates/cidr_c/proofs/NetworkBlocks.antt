-- The entry of a network.
use Rattle.std.proofs.Common.{◌≡◌, ℕ, ◌+◌, ◌-◌, ◌/◌, ◌^◌, ◌<◌, ◌≤◌, ◌&&◌, inl, inr, Bool, true, false, List, length, length-take, sym, ap, ap₂, ◌∙◌, subst, arith, refl, Option, Some, None, MatchOption, Bor, eq-eqb, le-leb, nat_le}
use Rattle.std.proofs.lemmas.Bool.{cases_eq, eqb-true, leb-true}
use Rattle.std.proofs.lemmas.List.{take-append-le}
use Rattle.std.proofs.lemmas.Nat.{shr_below}
use Rattle.std.specs.List.{Contains}
use Rattle.cidr.specs.either.IpAddress.{address_family, plain_bits}
use Rattle.cidr.specs.either.IpNetwork.{lone_network, network_family, network_prefix}
use Rattle.cidr.specs.model.Bits.{bits, number}
use Rattle.cidr.specs.model.Network.{BeginsWith, first_of, width_of, zeros}
use Rattle.cidr.specs.laws.BitLaws.{length-bits, number-bits}
use Rattle.cidr.specs.laws.NetworkLaws.{length-first_of}
use Rattle.cidr.specs.declared.addr.ip.IpAddr.{IpAddr}
use Rattle.cidr.specs.declared.addr.ip.IpAddr.TheVariants as address
use Rattle.cidr.specs.declared.family.Family.{Family}
use Rattle.cidr_ext.specs.declared.registry.SpecialEntry.{SpecialEntry}
use Rattle.cidr_ext.specs.internal.Entries.{IsOneLongest, are_entries, has_block}
use Rattle.cidr_ext.specs.model.Special.{HasNoEntry, IsEntryOf, block_of, entries_of}
use Rattle.cidr_ext.proofs.Distinct.{alike, fits}
use Rattle.cidr_ext.proofs.Found.{begins, begun}
use Rattle.cidr_ext.proofs.InsideIpv6.{front_bits}
use Rattle.cidr_c.specs.model.Special.{has_network}

both : (a b : Bool) → (a && b) ≡ true → (a ≡ true) × (b ≡ true)
both true b h = (refl, h)
both false b h = cc

-- ---- a network lies in a block where its first address does, and the block is no longer
module _ (w : ℕ) (p block : List Bool) where
  pub from_first : length block ≤ length p → BeginsWith (first_of w p) block → BeginsWith p block
  from_first short h = sym (take-append-le (length block) p (zeros (w - length p)) short) ∙ h

  pub shorter : BeginsWith p block → length block ≤ length p
  shorter h = omega (arith, length-take (length block) p, ap length h)

  pub to_first : BeginsWith p block → BeginsWith (first_of w p) block
  to_first h = take-append-le (length block) p (zeros (w - length p)) (shorter h) ∙ h

-- ---- the entries that a network lies in
module _ (family : Family) (p : List Bool) (n : ℕ) (short : length p ≤ width_of family) (value : n ≡ number (first_of (width_of family) p))
    (distinct : are_entries (width_of family) (entries_of family) ≡ true) where
  top_of : SpecialEntry → ℕ
  top_of entry = entry.first / 2 ^ (width_of family - entry.len)

  block_bits : (entry : SpecialEntry) → entry.first < 2 ^ width_of family → entry.len ≤ width_of family
      → block_of family entry ≡ bits entry.len (entry.first / 2 ^ (width_of family - entry.len))
  block_bits entry first len =
      front_bits entry.len (width_of family - entry.len) (bits (width_of family) entry.first) (length-bits (width_of family) entry.first ∙ omega arith)
      ∙ ap (λ m. bits entry.len (m / 2 ^ (width_of family - entry.len))) (number-bits (width_of family) entry.first first)

  same_top : (entry : SpecialEntry) → has_network (width_of family) n (length p) entry ≡ true
      → n / 2 ^ (width_of family - entry.len) ≡ entry.first / 2 ^ (width_of family - entry.len)
  unfolding has_network has_block
  same_top entry h = eqb-true _ _ (both (has_block (width_of family) n entry) (nat_le entry.len (length p)) h).0

  no_longer : (entry : SpecialEntry) → has_network (width_of family) n (length p) entry ≡ true → entry.len ≤ length p
  unfolding has_network
  no_longer entry h = leb-true _ _ (both (has_block (width_of family) n entry) (nat_le entry.len (length p)) h).1

  has_both : (entry : SpecialEntry) → n / 2 ^ (width_of family - entry.len) ≡ entry.first / 2 ^ (width_of family - entry.len) → entry.len ≤ length p
      → has_network (width_of family) n (length p) entry ≡ true
  unfolding has_network has_block
  has_both entry top len = ap₂ (λ a b. a && b) (eq-eqb _ _ top) (le-leb _ _ len)

  is_within : (entry : SpecialEntry) → Contains (entries_of family) entry → has_network (width_of family) n (length p) entry ≡ true
      → BeginsWith p (block_of family entry)
  is_within entry listed h =
      let fit = fits (width_of family) (entries_of family) distinct entry listed in
      let block = block_bits entry fit.0 fit.1 in
      let size : length (block_of family entry) ≡ entry.len = ap length block ∙ length-bits entry.len _ in
      from_first (width_of family) p (block_of family entry) (omega (arith, size, no_longer entry h))
      (subst (BeginsWith (first_of (width_of family) p)) (sym block)
      (begins (width_of family) entry.len n (entry.first / 2 ^ (width_of family - entry.len)) (first_of (width_of family) p)
      (length-first_of (width_of family) p short) value fit.1 (same_top entry h)))

  is_found : (entry : SpecialEntry) → Contains (entries_of family) entry → BeginsWith p (block_of family entry)
      → has_network (width_of family) n (length p) entry ≡ true
  is_found entry listed h =
      let fit = fits (width_of family) (entries_of family) distinct entry listed in
      let block = block_bits entry fit.0 fit.1 in
      let size : length (block_of family entry) ≡ entry.len = ap length block ∙ length-bits entry.len _ in
      let width : entry.len + (width_of family - entry.len) ≡ width_of family = omega (arith, fit.1) in
      let small : entry.first / 2 ^ (width_of family - entry.len) < 2 ^ entry.len = shr_below entry.first entry.len (width_of family - entry.len) (rw width fit.0) in
      has_both entry
      (begun (width_of family) entry.len n (entry.first / 2 ^ (width_of family - entry.len)) (first_of (width_of family) p)
      (length-first_of (width_of family) p short) value fit.1 small
      (subst (BeginsWith (first_of (width_of family) p)) block (to_first (width_of family) p (block_of family entry) h)))
      (omega (arith, size, shorter (width_of family) p (block_of family entry) h))

  found : (r : Option (Bor SpecialEntry)) → IsOneLongest (has_network (width_of family) n (length p)) (entries_of family) r
      → MatchOption r (HasNoEntry family p) (λ e. IsEntryOf family p e.now)
  found None h = λ entry listed within. h entry listed (is_found entry listed within)
  found (Some best) h = record {
    listed = h.0;
    within = is_within best.now h.0 h.1;
    longest = λ other listed within. (let test : has_network (width_of family) n (length p) other ≡ true = is_found other listed within in
        let le : other.len ≤ best.now.len = h.2 other listed test in
        elim (cases_eq other.len best.now.len) [
          | inl same ↦ inl (alike (width_of family) (entries_of family) distinct other best.now listed h.0 same
              (sym (same_top other test) ∙ ap (λ k. n / 2 ^ (width_of family - k)) same ∙ same_top best.now h.1))
          | inr differ ↦ inr (omega (arith, differ, le))
        ]);
  }

pub found_by : (family : Family) (p : List Bool) (len n : ℕ) (xs : List SpecialEntry) (r : Option (Bor SpecialEntry)) → xs ≡ entries_of family
    → are_entries (width_of family) xs ≡ true → len ≤ width_of family → len ≡ length p → n ≡ number (first_of (width_of family) p)
    → IsOneLongest (has_network (width_of family) n len) xs r → MatchOption r (HasNoEntry family p) (λ e. IsEntryOf family p e.now)
found_by family p len n xs r all distinct short size value h =
    found family p n (subst (λ k. k ≤ width_of family) size short) value (subst (λ l. are_entries (width_of family) l ≡ true) all distinct) r
    (subst (λ k. IsOneLongest (has_network (width_of family) n k) (entries_of family) r) size
    (subst (λ l. IsOneLongest (has_network (width_of family) n len) l r) all h))

-- ---- the network of an address alone
pub of_address : (P : Family → List Bool → Type 0) (a : IpAddr) → P (network_family (lone_network a)) (network_prefix (lone_network a))
    → P (address_family a) (plain_bits a)
of_address P (address.V4 a) h = h
of_address P (address.V6 a) h = h
