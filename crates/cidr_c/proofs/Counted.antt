-- The addresses of a family that some networks have.
use Rattle.std.proofs.Common.{◌≡◌, ◌⊎◌, ℕ, ◌≤◌, Bool, List, [], ◌∷◌, ◌++◌, Option, Some, None, length, inl, inr, refl, sym, subst, arith}
use Rattle.std.specs.Option.{option_map}
use Rattle.std.specs.Prelude.{IfSome, MatchOption}
use Rattle.std.proofs.lemmas.List.Elements.{Contains-push_cases}
use Rattle.cidr.specs.either.IpAddress.{address_family, plain_bits}
use Rattle.cidr.specs.declared.addr.ip.IpAddr.{IpAddr}
use Rattle.cidr.specs.model.Network.{width_of}
use Rattle.cidr.specs.declared.family.Family.{Family}
use Rattle.cidr.specs.declared.family.Family.TheVariants.{Ipv4, Ipv6}
use Rattle.cidr_table.specs.model.Cover.{AreNetworks, Covers, CoverSame, IsLeastCover}
use Rattle.cidr_table.proofs.AddressSets.{covers_by_width}
use Rattle.cidr_table.proofs.MapLaws.{contains_nothing}
use Rattle.cidr_table.proofs.Reduced.{covers_more, least_alike}
use Rattle.cidr_table.proofs.Refinements.{cover_width}
use Rattle.cidr_sets.specs.model.Counts.{AreAddresses, HaveCount, IsAtIndex}
use Rattle.cidr_sets.specs.model.Sets.{IsSetOf}
use Rattle.cidr_c.specs.calls.Calls.{IsFoundOrNone, IsSought, IsSoughtInMemory}
use Rattle.cidr_c.specs.model.Addresses.{AreAddressesIn, AreFamilyPart, HaveCountIn, IsApartFrom, IsAtIndexIn, IsFamilyPart, family_bit}
use Rattle.cidr_c.proofs.Sought.{not_taken, sought}

-- ---- networks of the family
pub width_within : (family : Family) → width_of family ≤ 129
width_within Ipv4 = omega arith
width_within Ipv6 = omega arith

-- networks of the family have the addresses of it that are in some networks
pub record IsTaken (family : Family) (networks own : List (List Bool)) : Type 0 where
  pub short : AreNetworks (width_of family) own
  pub exact : AreFamilyPart family networks own

pub nothing_taken : (family : Family) → IsTaken family [] []
nothing_taken family = record {
  short = λ p c. absurd (contains_nothing p c);
  exact = λ a la. (λ c. absurd (contains_nothing c.0 c.1), λ c. absurd (contains_nothing c.0 c.1));
}

module _ (family : Family) (networks own : List (List Bool)) (h : IsTaken family networks own) where
  -- one network more
  pub part_more : (p q : List Bool) → IsFamilyPart family p q → IsTaken family (networks ++ p ∷ []) (own ++ q ∷ [])
  part_more p q part = record {
    short = λ x c. elim (Contains-push_cases own q x c) [
      | inl d ↦ h.short x d
      | inr e ↦ subst (λ (y : List Bool). length y ≤ width_of family) e part.fits
    ];
    exact = λ a la. (
      λ c. (covers_more networks p (family_bit family ∷ a)).1
          (elim ((covers_more own q a).0 c) [ inl d ↦ inl ((h.exact a la).0 d) | inr b ↦ inr ((part.exact a la).0 b) ]),
      λ c. (covers_more own q a).1
          (elim ((covers_more networks p (family_bit family ∷ a)).0 c) [ inl d ↦ inl ((h.exact a la).1 d) | inr b ↦ inr ((part.exact a la).1 b) ]),
    );
  }

  pub apart_more : (p : List Bool) → IsApartFrom family p → IsTaken family (networks ++ p ∷ []) own
  apart_more p apart = record {
    short = h.short;
    exact = λ a la. (
      λ c. (covers_more networks p (family_bit family ∷ a)).1 (inl ((h.exact a la).0 c)),
      λ c. elim ((covers_more networks p (family_bit family ∷ a)).0 c) [ inl d ↦ (h.exact a la).1 d | inr b ↦ absurd (apart a la b) ],
    );
  }

  -- the set of them
  pub set_part : (set : List (List Bool)) → IsSetOf 129 (Covers own) set → AreFamilyPart family networks set
  set_part set is a la =
      let w = width_of family in
      let same : CoverSame 129 set own = λ b lb. is.exact b lb in
      let cover : IsLeastCover 129 own set = least_alike 129 set own set same is.reduced in
      let at = (covers_by_width 129 w set own (width_within family) (cover_width 129 own set cover w h.short) h.short).0 same in
      (λ c. (h.exact a la).0 ((at a la).0 c), λ c. (at a la).1 ((h.exact a la).1 c))

-- ---- their addresses
module _ (family : Family) (networks own : List (List Bool)) (h : AreFamilyPart family networks own) where
  pub addresses_of : (all : List (List Bool)) → AreAddresses (width_of family) own all → AreAddressesIn family networks all
  addresses_of all of = record {
    ascending = of.ascending;
    exact = λ a. (
      λ c. let k = (of.exact a).0 c in (k.0, (h a k.0).0 k.1),
      λ k. (of.exact a).1 (k.0, (h a k.0).1 k.1),
    );
  }

  pub count_of : (n : ℕ) → HaveCount (width_of family) own n → HaveCountIn family networks n
  count_of n c = (c.0, addresses_of c.0 c.1, c.2)

  pub index_of : (i : ℕ) (a : Option (List Bool)) → IsAtIndex (width_of family) own i a → IsAtIndexIn family networks i a
  index_of i a c = (c.0, addresses_of c.0 c.1, c.2)

  pub index_found : (i : ℕ) (r : Option IpAddr) → IsAtIndex (width_of family) own i (option_map plain_bits r)
      → IfSome r (λ a. address_family a ≡ family)
      → MatchOption r (IsAtIndexIn family networks i None) (λ a. (address_family a ≡ family) × IsAtIndexIn family networks i (Some (plain_bits a)))
  index_found i (Some a) at of = (of, index_of i (Some (plain_bits a)) at)
  index_found i None at of = index_of i None at

-- ---- what is found among them
pub match_more : {A : Type 0} (None_is Some_none : Type 0) (Is Holds : A → Type 0) (r : Option A) → (None_is → Some_none)
    → ((a : A) → Is a → Holds a) → MatchOption r None_is Is → MatchOption r Some_none Holds
match_more One Other Is Holds (Some a) none some h = some a h
match_more One Other Is Holds None none some h = none h

pub sought_in_memory : {P A : Type 0} (IsTaken IsNone : Type 0) (IsValue : P → Type 0) (value_in : P → A) (Holds : A → Type 0) (r : Option A)
    (old new : P) (code : ℕ) → IsTaken → MatchOption r IsNone Holds → IsFoundOrNone IsValue value_in r old new code
    → IsSoughtInMemory IsTaken IsNone IsValue value_in Holds old new code
sought_in_memory IsTaken IsNone IsValue value_in Holds r old new code taken found put =
    inr (sought IsTaken (λ (n : ℕ). IsNone) IsValue value_in (λ (n : ℕ). Holds) 0 0 r old new code (taken, refl) found put)

pub refused_in_memory : {P A : Type 0} (IsTaken IsNone : Type 0) (IsValue : P → Type 0) (value_in : P → A) (Holds : A → Type 0) (old : P)
    (code : ℕ) → ((code ≡ 10) × ¬ IsTaken) ⊎ (code ≡ 12) → IsSoughtInMemory IsTaken IsNone IsValue value_in Holds old old code
refused_in_memory IsTaken IsNone IsValue value_in Holds old code (inl e) =
    inr (subst (λ (k : ℕ). IsSought IsTaken IsNone IsValue value_in Holds old old k) (sym e.0) (not_taken IsTaken IsNone IsValue value_in Holds old e.1))
refused_in_memory IsTaken IsNone IsValue value_in Holds old code (inr e) = inl (e, refl)
