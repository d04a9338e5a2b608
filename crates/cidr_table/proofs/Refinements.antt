-- The least cover beside other lists of networks that cover the same: each is a refinement of it, so none is shorter.
use Rattle.std.proofs.Common.{◌≡◌, ℕ, ◌≤◌, Bool, List, [], ◌∷◌, ◌++◌, length, refl, sym, ap, subst, arith, inl, inr, length-append}
use Rattle.std.proofs.lemmas.Map.Keys.{sorted_tail}
use Rattle.std.specs.List.{Contains}
use Rattle.std.specs.List.Sorted.{IsStrictlySortedBy}
use Rattle.std.specs.declared.cmp.Ordering.TheVariants.{Less}
use Rattle.cidr.specs.model.Bits.{bit_cmp}
use Rattle.cidr.specs.model.Network.{BeginsWith}
use Rattle.cidr_table.specs.model.Cover.{IsFull, IsLeastCover, CoverSame, AreNetworks, IsRefinement}
use Rattle.cidr_table.specs.model.CoverAddresses.{AreIpNetworks}
use Rattle.cidr_table.proofs.AddressSets.{ip_beginning}
use Rattle.cidr_table.proofs.Ascending.{first_less}
use Rattle.cidr_table.proofs.Beginnings.{begins_length}
use Rattle.cidr_table.proofs.Containing.{split_at, contains_between}
use Rattle.cidr_table.proofs.MapLaws.{contains_first, contains_later}
use Rattle.cidr_table.proofs.Order.{less_not_itself}
use Rattle.cidr_table.proofs.Members.{full_at_end, begins_member, one_member, member_holds}

-- if each of some networks holds one of its own, these are at least as many
as_many : (ms ns : List (List Bool)) → IsStrictlySortedBy bit_cmp ms
    → ((m : List Bool) → Contains ms m → (n : List Bool) × Contains ns n × BeginsWith n m)
    → ((n l m : List Bool) → Contains ms l → Contains ms m → BeginsWith n l → BeginsWith n m → l ≡ m)
    → length ms ≤ length ns
as_many [] ns s used once = omega arith
as_many (m ∷ ms) ns s used once =
    let u = used m (contains_first m ms) in
    let p = split_at ns u.0 u.1 in
    let h = as_many ms (p.0 ++ p.1) (sorted_tail bit_cmp m ms s)
    (λ x c.
    let v = used x (contains_later m x ms c) in
    elim (contains_between p.0 p.1 u.0 v.0 (subst (λ xs. Contains xs v.0) p.2 v.1)) [
      | inl e ↦
          let same : m ≡ x = once u.0 m x (contains_first m ms) (contains_later m x ms c) u.2
          (subst (λ y. BeginsWith y x) (sym e) v.2) in
          absurd (less_not_itself m (subst (λ y. bit_cmp m y ≡ Less) (sym same) (first_less m ms s x c)))
      | inr d ↦ (v.0, d, v.2)
    ])
    (λ n l k cl ck. once n l k (contains_later m l ms cl) (contains_later m k ms ck)) in
    omega (arith, ap length p.2, length-append p.0 (u.0 ∷ p.1), length-append p.0 p.1, h)

module _ (w : ℕ) (keys cover : List (List Bool)) (h : IsLeastCover w keys cover) where
  pub exact : CoverSame w keys cover
  exact a la = (
    λ c.
        let r = begins_member w keys w a la (omega arith) (full_at_end w keys a la c) in
        (r.0, (h.members r.0).1 r.1, r.2),
    λ c. ((h.members c.0).0 c.1).full a la c.2,
  )

  -- a list begins with one network of the cover at most
  pub one_of_cover : (p m n : List Bool) → Contains cover m → Contains cover n → BeginsWith p m → BeginsWith p n → m ≡ n
  one_of_cover p m n c d = one_member w keys p m n ((h.members m).0 c) ((h.members n).0 d)

  module _ (networks : List (List Bool)) (short : AreNetworks w networks) (same : CoverSame w keys networks) where
    pub refined : IsRefinement cover networks
    refined = record {
      held = λ p c.
          let full : IsFull w keys p = λ a la k. (same a la).1 (p, c, k) in
          let (m, member, begins) = begins_member w keys (length p) p refl (short p c) full in
          let d = (h.members m).1 member in
          (m, d, begins, λ n e b. one_of_cover p n m e d b begins);
      used = λ m c. member_holds w keys networks same m ((h.members m).0 c);
    }

    pub shortest : length cover ≤ length networks
    shortest = as_many cover networks h.ascending refined.used one_of_cover

  -- each network of the cover holds a key
  pub holds_key : (p : List Bool) → Contains cover p → (key : List Bool) × Contains keys key × BeginsWith key p
  holds_key p c = member_holds w keys keys (λ a la. ((λ d. d), (λ d. d))) p ((h.members p).0 c)

  pub cover_width : (v : ℕ) → AreNetworks v keys → AreNetworks v cover
  cover_width v short p c = let (key, d, b) = holds_key p c in omega (arith, short key d, begins_length key p b)

  pub cover_ip : AreIpNetworks keys → AreIpNetworks cover
  cover_ip short p c = let (key, d, b) = holds_key p c in ip_beginning key p (short key d) b
