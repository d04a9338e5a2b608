-- The networks of a set are those that it has whole, with a parent that it hasn't.
use Rattle.std.proofs.Common.{◌≡◌, ◌↔◌, ◌⊎◌, ◌≤◌, Bool, List, [], ◌∷◌, ◌++◌, length, length-append, sym, ap, subst, arith, inl, inr}
use Rattle.std.specs.List.{Contains}
use Rattle.std.specs.declared.cmp.Ordering.TheVariants.{Less}
use Rattle.std.proofs.lemmas.Map.Keys.{sorted_tail}
use Rattle.cidr.specs.model.Bits.{bit_cmp}
use Rattle.cidr.specs.model.Network.{BeginsWith}
use Rattle.cidr_table.specs.model.Cover.{Covers, IsMember, IsReduced, parent}
use Rattle.cidr_table.proofs.Ascending.{first_less}
use Rattle.cidr_table.proofs.Containing.{contains_between, split_at}
use Rattle.cidr_table.proofs.MapLaws.{contains_first, contains_later}
use Rattle.cidr_table.proofs.Members.{one_member}
use Rattle.cidr_table.proofs.Order.{less_not_itself}
use Rattle.cidr_sets.specs.model.Sets.{IsSetOf}
use Rattle.cidr_sets.specs.internal.Steps.{Ascend}
use Rattle.cidr_sets.proofs.Algebra.{some_address}

-- the same for a set that isn't told by networks
pub record IsMemberOf (IsIn : List Bool → Type 0) (p : List Bool) : Type 0 where
  pub within : length p ≤ 129
  pub full : (a : List Bool) → length a ≡ 129 → BeginsWith a p → IsIn a
  pub widest : (p ≡ []) ⊎ ¬ ((a : List Bool) → length a ≡ 129 → BeginsWith a (parent p) → IsIn a)

pub all_members : (s : List (List Bool)) → Ascend s → ((x : List Bool) → Contains s x → IsMember 129 s x) → IsReduced 129 s
all_members s ascending each = record {
  ascending = ascending;
  members = λ p. (
    λ c. each p c,
    λ m.
        let (a, la, b) = some_address p m.within in
        let c = m.full a la b in
        subst (Contains s) (one_member 129 s a c.0 p (each c.0 c.1) m c.2 b) c.1,
  );
}

-- networks that ascend are at most as many as those that they are among
ascend_among : (ms ns : List (List Bool)) → Ascend ms → ((x : List Bool) → Contains ms x → Contains ns x) → length ms ≤ length ns
ascend_among [] ns s among = omega arith
ascend_among (m ∷ ms) ns s among =
    let p = split_at ns m (among m (contains_first m ms)) in
    let h = ascend_among ms (p.0 ++ p.1) (sorted_tail bit_cmp m ms s)
    (λ x c. elim (contains_between p.0 p.1 m x (subst (λ xs. Contains xs x) p.2 (among x (contains_later m x ms c)))) [
      | inl e ↦ absurd (less_not_itself m (subst (λ y. bit_cmp m y ≡ Less) (sym e) (first_less m ms s x c)))
      | inr d ↦ d
    ]) in
    omega (arith, ap length p.2, length-append p.0 (m ∷ p.1), length-append p.0 p.1, h)

module _ (IsIn : List Bool → Type 0) (s : List (List Bool))
    (same : (a : List Bool) → length a ≡ 129 → Covers s a ↔ IsIn a) where
  member_in : (p : List Bool) → IsMemberOf IsIn p → IsMember 129 s p
  member_in p m = record {
    within = m.within;
    full = λ a la b. (same a la).1 (m.full a la b);
    widest = elim m.widest [ inl e ↦ inl e | inr bare ↦ inr (λ f. bare (λ a la b. (same a la).0 (f a la b))) ];
  }

  -- networks of a set that cover it are all
  pub set_of_members : Ascend s → ((x : List Bool) → Contains s x → IsMemberOf IsIn x) → IsSetOf 129 IsIn s
  set_of_members ascending each = record {
    reduced = all_members s ascending (λ x c. member_in x (each x c));
    exact = same;
  }

-- some of the networks of a set
pub members_fit : (IsIn : List Bool → Type 0) (s some : List (List Bool)) → IsSetOf 129 IsIn s → Ascend some
    → ((x : List Bool) → Contains some x → IsMemberOf IsIn x) → length some ≤ length s
members_fit IsIn s some h ascending each =
    ascend_among some s ascending (λ x c. (h.reduced.members x).1 (member_in IsIn s h.exact x (each x c)))
