use Rattle.std.proofs.Common.{◌≡◌, ◌+◌, ◌-◌, ◌<◌, ◌≤◌, ◌++◌, Bool, List, [], ◌∷◌, length, length-append, ℕ, get_or, take, drop, map, refl, sym, ap, ◌∙◌, subst, arith, inl, inr}
use Rattle.std.proofs.lemmas.Bool.{cases_lt}
use Rattle.std.proofs.lemmas.Bool.Decides.{not_from_Decides}
use Rattle.std.proofs.lemmas.List.{drop_all, get_or_at, get_or_default}
use Rattle.cidr_table.specs.model.Cover.{parent}
use Rattle.cidr_table.proofs.Passing.{top_split}
use Rattle.cidr_sets.specs.internal.Edits.{IsHalf}
use Rattle.cidr_sets.proofs.Edits.{alone_beside, alone_whole}
use Rattle.cidr_sets.proofs.Parts.{drop_first}
use Rattle.cidr_sets.proofs.neighbours.other_half.Goals as goal

same_last : (s t : List (List Bool)) (u v : List Bool) → s ++ u ∷ [] ≡ t ++ v ∷ [] → u ≡ v
same_last s t u v e =
    sym (get_or_at s u [] u (length s) refl) ∙ ap (λ l. get_or l (length s) u) e
    ∙ get_or_at t v [] u (length s) (omega (arith, ap length e, length-append s (u ∷ []), length-append t (v ∷ [])))

module _ {C : Type 0} (f : C → List Bool) (xs : List C) (d : C) where
  -- the last of the first ones
  top : (n : ℕ) → 0 < n → n ≤ length xs → map f (take n xs) ≡ map f (take (n - 1) xs) ++ f (get_or xs (n - 1) d) ∷ []
  top n some within =
      let x = get_or xs (n - 1) d in
      top_split f xs n x some within (get_or_default xs (n - 1) d x (omega (arith, some, within)))

  first : (n : ℕ) → n < length xs → map f (drop n xs) ≡ f (get_or xs n d) ∷ map f (drop (n + 1) xs)
  first n lt = let x = get_or xs n d in ap (map f) (drop_first xs n x lt (get_or_default xs n d x lt))

  none_before : (n : ℕ) (r : List Bool) → n ≤ length xs → ¬ ((0 < n) × IsHalf (f (get_or xs (n - 1) d)) r)
      → (front : List (List Bool)) (x : List Bool) → map f (take n xs) ≡ front ++ x ∷ [] → ¬ (IsHalf x r)
  none_before n r within none front x e h = elim (cases_lt 0 n) [
    | inl some ↦
        let same : f (get_or xs (n - 1) d) ≡ x =
        same_last (map f (take (n - 1) xs)) front (f (get_or xs (n - 1) d)) x (sym (top n some within) ∙ e) in
        none (some, subst (λ y. IsHalf y r) (sym same) h)
    | inr le ↦
        let zero : n ≡ 0 = omega arith in
        let empty : length (front ++ x ∷ []) ≡ 0 = ap length (sym e) ∙ ap (λ k. length (map f (take k xs))) zero in
        omega (arith, empty, length-append front (x ∷ []))
  ]

  none_behind : (n : ℕ) (r : List Bool) → ¬ ((n < length xs) × IsHalf (f (get_or xs n d)) r)
      → (x : List Bool) (rest : List (List Bool)) → map f (drop n xs) ≡ x ∷ rest → ¬ (IsHalf x r)
  none_behind n r none x rest e h = elim (cases_lt n (length xs)) [
    | inl lt ↦
        let same : f (get_or xs n d) ≡ x = ap (λ l. get_or l 0 x) (sym (first n lt) ∙ e) in
        none (lt, subst (λ z. IsHalf z r) (sym same) h)
    | inr le ↦
        let empty : length (x ∷ rest) ≡ 0 = ap length (sym e) ∙ ap (λ l. length (map f l)) (drop_all n xs le) in
        omega (arith, empty)
  ]

pub returns-then-len-eq0-clause-beside : goal.returns-then-len-eq0-clause-beside
returns-then-len-eq0-clause-beside g c =
    let f = g.C.BitString.bits in
    alone_whole (f c.args.network.now) _ _ (sym c.len-len.ensures.value ∙ c.if-len-eq0.true)

pub returns-then-is_half_before-clause-beside : goal.returns-then-is_half_before-clause-beside
returns-then-is_half_before-clause-beside g c =
    let f = g.C.BitString.bits in
    let xs = c.args.networks.now in
    let q = f c.args.network.now in
    let d = c.clip.new.self in
    let is : f d ≡ parent q = c.clip.ensures.bits ∙ ap (λ k. take (k - 1) q) c.len-len.ensures.value in
    let told = c.is_half_before.ensures.0 c.if-is_half_before.true in
    let x = f (get_or xs (c.args.start - 1) d) in (
      omega (arith, c.if-len-eq0.false, c.len-len.ensures.value),
      inl (x, top f xs d c.args.start told.0 (omega (arith, c.requires.order, c.requires.within)), subst (IsHalf x) is told.1, refl),
    )

pub returns-then-is_half_at-clause-beside : goal.returns-then-is_half_at-clause-beside
returns-then-is_half_at-clause-beside g c =
    let f = g.C.BitString.bits in
    let xs = c.args.networks.now in
    let q = f c.args.network.now in
    let d = c.clip.new.self in
    let is : f d ≡ parent q = c.clip.ensures.bits ∙ ap (λ k. take (k - 1) q) c.len-len.ensures.value in
    let told = c.is_half_at.ensures.0 c.if-is_half_at.true in
    let x = f (get_or xs c.args.end d) in (
      omega (arith, c.if-len-eq0.false, c.len-len.ensures.value),
      inr (x, first f xs d c.args.end told.0, subst (IsHalf x) is told.1, refl),
    )

pub returns-clause-beside : goal.returns-clause-beside
returns-clause-beside g c =
    let f = g.C.BitString.bits in
    let xs = c.args.networks.now in
    let q = f c.args.network.now in
    let d = c.clip.new.self in
    let is : f d ≡ parent q = c.clip.ensures.bits ∙ ap (λ k. take (k - 1) q) c.len-len.ensures.value in
    let before = not_from_Decides c.is_half_before.result c.is_half_before.ensures c.if-is_half_before.false in
    let behind = not_from_Decides c.is_half_at.result c.is_half_at.ensures c.if-is_half_at.false in
    let start = c.args.start in
    let end = c.args.end in
    alone_beside q (map f (take start xs)) (map f (drop end xs))
    (none_before f xs d start (parent q) (omega (arith, c.requires.order, c.requires.within))
    (λ h. before (h.0, subst (IsHalf (f (get_or xs (start - 1) d))) (sym is) h.1)))
    (none_behind f xs d end (parent q) (λ h. behind (h.0, subst (IsHalf (f (get_or xs end d))) (sym is) h.1)))
