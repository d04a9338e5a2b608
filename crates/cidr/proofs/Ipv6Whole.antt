-- A whole text is an IPv6 text, or it is not, by the groups at its front.
use Rattle.std.proofs.Common.{◌≡◌, ◌≢◌, ℕ, ◌+◌, ◌-◌, ◌*◌, ◌%◌, ◌^◌, ◌<◌, Bool, true, false, List, [], ◌∷◌, ◌++◌, length, replicate, Some, None, refl, sym, ap, ◌∙◌, subst, arith, inl, inr, append-nil, eq-eqb, ne_eqb, true≢false}
use Rattle.std.proofs.lemmas.Option.{none-some}
use Rattle.std.proofs.lemmas.Bool.{cases_eq}
use Rattle.std.specs.Net.Reader.{read_segments, read_tail, read_ipv6, Segments}
use Rattle.std.proofs.NetLemmas.Options.{cond_none, same_parts}
use Rattle.std.proofs.NetLemmas.Ipv4.{read_byte_other}
use Rattle.std.proofs.NetLemmas.Ipv6.{read_ipv6_sound, read_ipv6_complete, EndsGroups-nil}
use Rattle.cidr.specs.model.Bits.{bits}
use Rattle.cidr.specs.model.Address.{group_bits}
use Rattle.cidr.specs.texts.Ipv6Text.{colon, IsIpv6Text}
use Rattle.cidr.specs.internal.Reading.{IsFound, IsStuck}
use Rattle.cidr.proofs.Ipv6Grammar.{IsIpv6Text-from_colon_hex, colon_hex-from_IsIpv6Text}
use Rattle.cidr.proofs.GroupNumbers.{elided_number, elided_fits, eight_number}

-- std's reader takes all of an IPv6 text, and what it takes all of is one
spelled_read : (text : List ℕ) (a : List Bool) → IsIpv6Text text a → (groups : List ℕ) × (read_ipv6 text ≡ Some (groups, []))
spelled_read text a h =
    let (groups, spelled, _) = colon_hex-from_IsIpv6Text text a h in
    (groups, rw append-nil at (read_ipv6_complete text groups [] spelled EndsGroups-nil))

read_spelled : (text groups : List ℕ) (n : ℕ) → read_ipv6 text ≡ Some (groups, []) → bits 128 n ≡ group_bits groups → IsIpv6Text text (bits 128 n)
read_spelled text groups n read value =
    let (front, split, spelled) = read_ipv6_sound text groups [] read in
    let whole : front ≡ text = sym (append-nil front) ∙ sym split in
    subst (λ t. IsIpv6Text t (bits 128 n)) whole (subst (IsIpv6Text front) (sym value) (IsIpv6Text-from_colon_hex front groups spelled))

unread : (text : List ℕ) → ((groups : List ℕ) → read_ipv6 text ≢ Some (groups, [])) → (a : List Bool) → ¬ (IsIpv6Text text a)
unread text none a h = let (groups, read) = spelled_read text a h in none groups read

-- with no two colons there is no tail
no_tail : (head text : List ℕ) → ((rest : List ℕ) → text ≢ colon ∷ colon ∷ rest) → read_tail head text ≡ None
no_tail head [] none = refl
no_tail head (c ∷ text) none = elim (cases_eq c colon) [
  | inl is ↦ rw is (no_second text (λ rest e. none rest (rw is (ap (λ t. colon ∷ t) e))))
  | inr other ↦ rw (read_byte_other 58 (c ∷ text) other)
]
  where
    no_second : (text : List ℕ) → ((rest : List ℕ) → text ≢ colon ∷ rest) → read_tail head (colon ∷ text) ≡ None
    no_second [] none = refl
    no_second (c ∷ text) none = rw (read_byte_other 58 (c ∷ text) (λ e. none text (ap (λ x. x ∷ text) e)))

-- the reading of a head that stops short
stuck_read : (text groups : List ℕ) → IsStuck 8 text → read_ipv6 text ≢ Some (groups, [])
unfolding read_ipv6
stuck_read text groups h read =
    let s = read_segments 8 true text in
    elim (cases_eq (length s.0) 8) [
      | inl eight ↦ h.left (same_parts s.0 groups s.2 [] (rw (eq-eqb _ _ eight) at read)).1
      | inr fewer ↦
          let (plain, tail) = cond_none _ _ _ (rw (ne_eqb _ _ fewer) at read) in
          elim h.other [
            | inl ends ↦ true≢false (sym ends ∙ plain)
            | inr (inl full) ↦ fewer full
            | inr (inr other) ↦ none-some _ (sym (no_tail s.0 s.2 other) ∙ tail)
          ]
    ]

pub at_stuck : (text : List ℕ) → IsStuck 8 text → (a : List Bool) → ¬ (IsIpv6Text text a)
at_stuck text h = unread text (λ groups. stuck_read text groups h)

module _ {text : List ℕ} {n count : ℕ} {rest : List ℕ} (h : IsFound 8 text n count rest) where
  full_read : count ≡ 8 → read_ipv6 text ≡ Some (h.groups, rest)
  unfolding read_ipv6
  full_read eight = rw (h.found, eq-eqb (length h.groups) 8 (h.many ∙ eight))

  dotted_read : count ≢ 8 → h.dotted ≡ true → read_ipv6 text ≡ None
  unfolding read_ipv6
  dotted_read fewer ends = rw (h.found, ne_eqb (length h.groups) 8 (λ e. fewer (sym h.many ∙ e)), ends)

  tail_read : count ≢ 8 → h.dotted ≡ false → read_ipv6 text ≡ read_tail h.groups rest
  unfolding read_ipv6
  tail_read fewer plain = rw (h.found, ne_eqb (length h.groups) 8 (λ e. fewer (sym h.many ∙ e)), plain)

  pub at_eight : count ≡ 8 → rest ≡ [] → IsIpv6Text text (bits 128 n)
  at_eight eight none =
      read_spelled text h.groups n (rw none at (full_read eight)) (eight_number h.groups n h.number (h.many ∙ eight))

  module _ (fewer : count ≢ 8) where
    pub at_no_colons : ((more : List ℕ) → rest ≢ colon ∷ colon ∷ more) → (a : List Bool) → ¬ (IsIpv6Text text a)
    at_no_colons none = unread text (λ groups read. go groups read h.dotted refl)
      where
        go : (groups : List ℕ) → read_ipv6 text ≡ Some (groups, []) → (b : Bool) → h.dotted ≡ b → ⊥
        go groups read true is = none-some _ (sym (dotted_read fewer is) ∙ read)
        go groups read false is = none-some _ (sym (tail_read fewer is ∙ no_tail h.groups rest none) ∙ read)

    module _ {two : List ℕ} (both : rest ≡ colon ∷ colon ∷ two) where
      plain : h.dotted ≡ false
      plain = go h.dotted refl
        where
          go : (b : Bool) → h.dotted ≡ b → h.dotted ≡ false
          go true is = let none = sym both ∙ h.ends is in cc
          go false is = is

      both_read : (tail : Segments) → read_segments (7 - count) true two ≡ tail
          → read_ipv6 text ≡ Some (h.groups ++ replicate (8 - length h.groups - length tail.0) 0 ++ tail.0, tail.2)
      both_read tail is = tail_read fewer plain ∙ rw (both, h.many, is)

      pub at_stuck_tail : IsStuck (7 - count) two → (a : List Bool) → ¬ (IsIpv6Text text a)
      at_stuck_tail stuck = unread text
          (λ groups read. stuck.left (same_parts _ groups _ [] (sym (both_read _ refl) ∙ read)).1)

      module _ {m more : ℕ} {left : List ℕ} (t : IsFound (7 - count) two m more left) where
        pub at_left_over : left ≢ [] → (a : List Bool) → ¬ (IsIpv6Text text a)
        at_left_over some = unread text
            (λ groups read. some (same_parts _ groups left [] (sym (both_read _ t.found) ∙ read)).1)

        pub whole_fits : n * 2 ^ (16 * (7 - count)) % 2 ^ 128 * 2 ^ 16 % 2 ^ 128 + m < 2 ^ 128
        whole_fits =
            elided_fits h.groups t.groups n m count h.number t.number h.many (omega (arith, t.many, t.fits))

        pub at_end : left ≡ []
            → IsIpv6Text text (bits 128 (n * 2 ^ (16 * (7 - count)) % 2 ^ 128 * 2 ^ 16 % 2 ^ 128 + m))
        at_end none =
            let number =
            elided_number h.groups t.groups n m count h.number t.number h.many (omega (arith, t.many, t.fits)) in
            read_spelled text _ _ (rw none at (both_read _ t.found)) number
