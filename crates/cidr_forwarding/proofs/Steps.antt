-- Steps of the loops over lists of values.
use Rattle.std.proofs.Common.{◌≡◌, ℕ, ◌+◌, ◌<◌, Bool, true, false, cond, List, [], ◌∷◌, ◌++◌, length, get_or, take, refl, sym, ap, ◌∙◌, append_assoc, append-nil, Option, Some, None}
use Rattle.std.proofs.lemmas.List.Elements.{filter_more}
use Rattle.std.specs.List.{filter}
use Rattle.cidr_forwarding.specs.Choices.{is_free, not_of}

module _ {X : Type 0} (p : X → Bool) (xs old : List X) {now : List X} {i : ℕ} {x : X} (h : i < length xs) (is : x ≡ get_or xs i x) (before : now ≡ old ++ filter p (take i xs)) where
  next : old ++ filter p (take (i + 1) xs) ≡ now ++ cond (p x) (x ∷ []) []
  next =
      ap (λ l. old ++ l) (filter_more p xs i x h ∙ ap (λ y. filter p (take i xs) ++ cond (p y) (y ∷ []) []) (sym is))
      ∙ sym (append_assoc old (filter p (take i xs)) (cond (p x) (x ∷ []) [])) ∙ ap (λ l. l ++ cond (p x) (x ∷ []) []) (sym before)

  pub passes : p x ≡ true → now ++ x ∷ [] ≡ old ++ filter p (take (i + 1) xs)
  passes t = sym (next ∙ ap (λ b. now ++ cond b (x ∷ []) []) t)

  pub fails : p x ≡ false → now ≡ old ++ filter p (take (i + 1) xs)
  fails t = sym (next ∙ ap (λ b. now ++ cond b (x ∷ []) []) t ∙ append-nil now)

-- ---- a value that no row may have
module _ {V : Type 0} where
  pub hole : (x : Option V) → x ≡ None → not_of (is_free false) x ≡ true
  hole x e = ap (not_of (is_free false)) e

  pub no_hole : (x : Option V) → ¬ (x ≡ None) → not_of (is_free false) x ≡ false
  no_hole None n = absurd (n refl)
  no_hole (Some v) n = refl
