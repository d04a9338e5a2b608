-- A network lies in one of the least cover exactly if all its addresses are covered.
use Rattle.std.proofs.Common.{◌↔◌, ℕ, ◌≤◌, Bool, List, [], ◌∷◌, ◌++◌, length, map, take, zero, suc, refl, sym, ap, ◌∙◌, subst, arith, inl, inr, length-take}
use Rattle.std.proofs.lemmas.List.{take-take, length-map, get_or-map}
use Rattle.std.proofs.lemmas.List.Elements.{Contains-push, Contains-push_cases, Contains-append_left}
use Rattle.std.specs.List.{Any, Contains}
use Rattle.cidr.specs.model.Network.{BeginsWith}
use Rattle.cidr_table.specs.model.Cover.{Covers, CoverSame, AreNetworks, IsFull, IsLeastCover, IsRefinement}

pub begins_begins : (a p q : List Bool) → BeginsWith a p → BeginsWith p q → BeginsWith a q
begins_begins a p q h k =
    let within : length q ≤ length p = omega (arith, ap length k, length-take (length q) p) in
    sym (take-take (length q) (length p) a within) ∙ ap (take (length q)) h ∙ k

module _ {C : Type 0} (bits : C → List Bool) where
  any_covers : (networks : List C) (a : List Bool) → Any (λ m. BeginsWith a (bits m)) networks
      → Covers (map bits networks) a
  any_covers networks a (k, m, lt, here, begins) =
      let here' = get_or-map bits networks k m (bits m) lt ∙ ap bits here in
      (bits m, (k, omega (arith, lt, length-map networks bits), here'), begins)

  covers_any : (networks : List C) (a : List Bool) (p : List Bool) → Contains (map bits networks) p → BeginsWith a p
      → Any (λ m. BeginsWith a (bits m)) networks
  covers_any [] a p c b = absurd (omega (arith, c.1))
  covers_any (x ∷ networks) a p (zero, lt, here) b = (0, x, omega arith, refl, subst (BeginsWith a) (sym here) b)
  covers_any (x ∷ networks) a p (suc k, lt, here) b =
      let r = covers_any networks a p (k, omega (arith, lt), here) b in
      (suc r.0, r.1, omega (arith, r.2), r.3, r.4)

  module _ (w : ℕ) (keys : List (List Bool)) (networks : List C) (p : List Bool)
      (cover : IsLeastCover w keys (map bits networks))
      (exact : CoverSame w keys (map bits networks))
      (refined : (others : List (List Bool)) → AreNetworks w others → CoverSame w keys others
      → IsRefinement (map bits networks) others)
      (within : length p ≤ w) where
    pub full_exactly : Any (λ m. BeginsWith p (bits m)) networks ↔ IsFull w keys p
    full_exactly = (
      λ h a la b.
          let c = any_covers networks p h in
          (exact a la).1 (c.0, c.1, begins_begins a p c.0 b c.2),
      λ full.
          let others = map bits networks ++ p ∷ [] in
          let short : AreNetworks w others = λ q c. elim (Contains-push_cases (map bits networks) p q c) [
            | inl d ↦ ((cover.members q).0 d).within
            | inr e ↦ subst (λ x. length x ≤ w) e within
          ] in
          let same : CoverSame w keys others = λ a la. (
            λ c. let d = (exact a la).0 c in (d.0, Contains-append_left (map bits networks) (p ∷ []) d.0 d.1, d.2),
            λ c. elim (Contains-push_cases (map bits networks) p c.0 c.1) [
              | inl d ↦ (exact a la).1 (c.0, d, c.2)
              | inr e ↦ full a la (subst (BeginsWith a) (sym e) c.2)
            ],
          ) in
          let m = (refined others short same).held p (Contains-push (map bits networks) p) in
          covers_any networks p m.0 m.1 m.2,
    )
