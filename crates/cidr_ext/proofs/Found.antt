-- The entry of an address.
use Rattle.std.proofs.Common.{◌≡◌, ℕ, ◌+◌, ◌-◌, ◌/◌, ◌^◌, ◌<◌, ◌≤◌, ◌↔◌, ◌==◌, inl, inr, Bool, true, IsTrue, List, length, take, sym, ap, ◌∙◌, subst, arith, refl, Option, Some, None, MatchOption, Bor, eq-eqb, lit≤, lit<}
use Rattle.std.proofs.lemmas.Bool.{cases_eq, eqb-true}
use Rattle.std.proofs.lemmas.Nat.{shr_below}
use Rattle.std.specs.List.{Contains}
use Rattle.cidr.specs.model.Bits.{bits, number}
use Rattle.cidr.specs.model.Network.{width_of, BeginsWith}
use Rattle.cidr.specs.laws.BitLaws.{length-bits, number-bits, number-lt}
use Rattle.cidr.specs.declared.family.Family.{Family}
use Rattle.cidr.specs.declared.family.Family.TheVariants.{Ipv4, Ipv6}
use Rattle.cidr_ext.specs.declared.registry.Purpose.{Purpose}
use Rattle.cidr_ext.specs.declared.registry.SpecialEntry.{SpecialEntry}
use Rattle.cidr_ext.specs.declared.registry.TheConstants.{IPV4_ENTRIES, IPV6_ENTRIES}
use Rattle.cidr_ext.specs.model.Special.{entries_of, block_of, HasNoEntry, IsEntryOf, HasPurpose, multicast_of}
use Rattle.cidr_ext.specs.internal.Entries.{has_block, same_block, none_same, are_entries, IsOneLongest}
use Rattle.cidr_ext.proofs.InsideIpv6.{front_bits}
use Rattle.cidr_ext.proofs.Distinct.{fits, alike}

-- ---- the registries
pub ipv4_entries : are_entries (width_of Ipv4) IPV4_ENTRIES ≡ true
unfolding are_entries none_same same_block has_block
ipv4_entries = refl

pub ipv6_entries : are_entries (width_of Ipv6) IPV6_ENTRIES ≡ true
unfolding are_entries none_same same_block has_block
ipv6_entries = refl

pub ipv4_all : IPV4_ENTRIES ≡ entries_of Ipv4
unfolding entries_of
ipv4_all = refl

pub ipv6_all : IPV6_ENTRIES ≡ entries_of Ipv6
unfolding entries_of
ipv6_all = refl

-- ---- an address of w bits, and a network of its first bits
module _ (w len n x : ℕ) (a : List Bool) (size : length a ≡ w) (value : n ≡ number a) (within : len ≤ w) where
  front : take len a ≡ bits len (n / 2 ^ (w - len))
  front = front_bits len (w - len) a (omega arith) ∙ ap (λ m. bits len (m / 2 ^ (w - len))) (sym value)

  pub begins : n / 2 ^ (w - len) ≡ x → BeginsWith a (bits len x)
  begins same = ap (λ k. take k a) (length-bits len x) ∙ front ∙ ap (bits len) same

  pub begun : x < 2 ^ len → BeginsWith a (bits len x) → n / 2 ^ (w - len) ≡ x
  begun small h =
      let same : bits len (n / 2 ^ (w - len)) ≡ bits len x = sym front ∙ ap (λ k. take k a) (sym (length-bits len x)) ∙ h in
      let below : number a < 2 ^ w = (let l = number-lt a in rw size at l) in
      let width : len + (w - len) ≡ w = omega arith in
      let top : n / 2 ^ (w - len) < 2 ^ len = shr_below n len (w - len) (rw width (omega arith)) in
      sym (number-bits len (n / 2 ^ (w - len)) top) ∙ ap number same ∙ number-bits len x small

-- ---- an entry
block_bits : (w : ℕ) (entry : SpecialEntry) → entry.first < 2 ^ w → entry.len ≤ w → take entry.len (bits w entry.first) ≡ bits entry.len (entry.first / 2 ^ (w - entry.len))
block_bits w entry first len =
    front_bits entry.len (w - entry.len) (bits w entry.first) (length-bits w entry.first ∙ omega arith)
    ∙ ap (λ m. bits entry.len (m / 2 ^ (w - entry.len))) (number-bits w entry.first first)

module _ (family : Family) (a : List Bool) (n : ℕ) (size : length a ≡ width_of family) (value : n ≡ number a)
    (distinct : are_entries (width_of family) (entries_of family) ≡ true) where
  same_top : (entry : SpecialEntry) → has_block (width_of family) n entry ≡ true → n / 2 ^ (width_of family - entry.len) ≡ entry.first / 2 ^ (width_of family - entry.len)
  unfolding has_block
  same_top entry h = eqb-true _ _ h

  has_top : (entry : SpecialEntry) → n / 2 ^ (width_of family - entry.len) ≡ entry.first / 2 ^ (width_of family - entry.len) → has_block (width_of family) n entry ≡ true
  unfolding has_block
  has_top entry h = eq-eqb _ _ h

  is_within : (entry : SpecialEntry) → Contains (entries_of family) entry → has_block (width_of family) n entry ≡ true → BeginsWith a (block_of family entry)
  is_within entry listed h =
      let fit = fits (width_of family) (entries_of family) distinct entry listed in
      subst (BeginsWith a) (sym (block_bits (width_of family) entry fit.0 fit.1))
      (begins (width_of family) entry.len n (entry.first / 2 ^ (width_of family - entry.len)) a size value fit.1 (same_top entry h))

  is_found : (entry : SpecialEntry) → Contains (entries_of family) entry → BeginsWith a (block_of family entry) → has_block (width_of family) n entry ≡ true
  is_found entry listed h =
      let fit = fits (width_of family) (entries_of family) distinct entry listed in
      let width : entry.len + (width_of family - entry.len) ≡ width_of family = omega (arith, fit.1) in
      let small : entry.first / 2 ^ (width_of family - entry.len) < 2 ^ entry.len = shr_below entry.first entry.len (width_of family - entry.len) (rw width fit.0) in
      has_top entry (begun (width_of family) entry.len n (entry.first / 2 ^ (width_of family - entry.len)) a size value fit.1 small
      (subst (BeginsWith a) (block_bits (width_of family) entry fit.0 fit.1) h))

  pub found : (r : Option (Bor SpecialEntry)) → IsOneLongest (has_block (width_of family) n) (entries_of family) r
      → MatchOption r (HasNoEntry family a) (λ e. IsEntryOf family a e.now)
  found None h = λ entry listed within. h entry listed (is_found entry listed within)
  found (Some best) h = record {
    listed = h.0;
    within = is_within best.now h.0 h.1;
    longest = λ other listed within. (let test : has_block (width_of family) n other ≡ true = is_found other listed within in
        let le : other.len ≤ best.now.len = h.2 other listed test in
        elim (cases_eq other.len best.now.len) [
          | inl same ↦ inl (alike (width_of family) (entries_of family) distinct other best.now listed h.0 same
              (sym (same_top other test) ∙ ap (λ k. n / 2 ^ (width_of family - k)) same ∙ same_top best.now h.1))
          | inr differ ↦ inr (omega (arith, differ, le))
        ]);
  }

pub found_by : (f family : Family) (a : List Bool) (w n : ℕ) (xs : List SpecialEntry) (r : Option (Bor SpecialEntry)) → f ≡ family → w ≡ width_of f → xs ≡ entries_of f
    → are_entries (width_of f) xs ≡ true → length a ≡ width_of family → n ≡ number a → IsOneLongest (has_block w n) xs r → MatchOption r (HasNoEntry family a) (λ e. IsEntryOf family a e.now)
found_by f family a w n xs r same wide all distinct size value h =
    let at_width : IsOneLongest (has_block (width_of f) n) xs r = subst (λ k. IsOneLongest (has_block k n) xs r) wide h in
    let at_entries : IsOneLongest (has_block (width_of f) n) (entries_of f) r = subst (λ l. IsOneLongest (has_block (width_of f) n) l r) all at_width in
    let all_distinct : are_entries (width_of f) (entries_of f) ≡ true = subst (λ l. are_entries (width_of f) l ≡ true) all distinct in
    found family a n size value (subst (λ (g : Family). are_entries (width_of g) (entries_of g) ≡ true) same all_distinct) r
    (subst (λ (g : Family). IsOneLongest (has_block (width_of g) n) (entries_of g) r) same at_entries)

-- ---- what the entry says
one_entry : (family : Family) (a : List Bool) (x y : SpecialEntry) → IsEntryOf family a x → IsEntryOf family a y → x ≡ y
one_entry family a x y hx hy = elim (hx.longest y hy.listed hy.within) [
  | inl same ↦ sym same
  | inr less ↦ (elim (hy.longest x hx.listed hx.within) [ inl same ↦ same | inr more ↦ absurd (omega (arith, less, more)) ])
]

pub purpose_found : (family : Family) (a : List Bool) (purpose : Purpose) (e : SpecialEntry) (r : Bool) → IsEntryOf family a e → IsTrue r ↔ (e.purpose ≡ purpose) → IsTrue r ↔ HasPurpose purpose family a
purpose_found family a purpose e r h tells =
    (λ t. (e, h, tells.0 t), λ (k : HasPurpose purpose family a). tells.1 (ap (λ (x : SpecialEntry). x.purpose) (one_entry family a e k.0 h k.1) ∙ k.2))

-- ---- multicast
multicast_bits4 : bits 4 14 ≡ multicast_of Ipv4
unfolding bits
multicast_bits4 = refl

multicast_bits6 : bits 8 255 ≡ multicast_of Ipv6
unfolding bits
multicast_bits6 = refl

told : (w len n x : ℕ) (a network : List Bool) (r : Bool) → length a ≡ w → n ≡ number a → len ≤ w → x < 2 ^ len → bits len x ≡ network → r ≡ (n / 2 ^ (w - len) == x)
    → IsTrue r ↔ BeginsWith a network
told w len n x a network r size value within small is test = (
  λ t. subst (BeginsWith a) is (begins w len n x a size value within (eqb-true _ _ (sym test ∙ t))),
  λ h. test ∙ eq-eqb _ _ (begun w len n x a size value within small (subst (BeginsWith a) (sym is) h)),
)

pub multicast4 : (f family : Family) (a : List Bool) (n : ℕ) (r : Bool) → f ≡ Ipv4 → f ≡ family → length a ≡ width_of family → n ≡ number a → r ≡ (n / 2 ^ 28 == 14)
    → IsTrue r ↔ BeginsWith a (multicast_of family)
multicast4 f family a n r is same size value test =
    let four : Ipv4 ≡ family = sym is ∙ same in
    subst (λ (g : Family). IsTrue r ↔ BeginsWith a (multicast_of g)) four (told 32 4 n 14 a (multicast_of Ipv4) r (size ∙ ap width_of (sym four)) value (lit≤ tt) (lit< tt) multicast_bits4 test)

pub multicast6 : (f family : Family) (a : List Bool) (n : ℕ) (r : Bool) → f ≡ Ipv6 → f ≡ family → length a ≡ width_of family → n ≡ number a → r ≡ (n / 2 ^ 120 == 255)
    → IsTrue r ↔ BeginsWith a (multicast_of family)
multicast6 f family a n r is same size value test =
    let six : Ipv6 ≡ family = sym is ∙ same in
    subst (λ (g : Family). IsTrue r ↔ BeginsWith a (multicast_of g)) six (told 128 8 n 255 a (multicast_of Ipv6) r (size ∙ ap width_of (sym six)) value (lit≤ tt) (lit< tt) multicast_bits6 test)
