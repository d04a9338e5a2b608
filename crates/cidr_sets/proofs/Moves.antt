-- Elements in place of others: their bits, and what stands at an index.
use Rattle.std.proofs.Common.{◌≡◌, ℕ, ◌<◌, Bool, List, ◌++◌, length, get_or, map, sym, ap, ◌∙◌, subst}
use Rattle.std.proofs.lemmas.List.{get_or_default, map-append}
use Rattle.std.specs.Bool.{Decides}

-- by their bits
pub map_three : {X Y : Type 0} (f : X → Y) (xs ys zs : List X) → map f (xs ++ ys ++ zs) ≡ map f xs ++ map f ys ++ map f zs
map_three f xs ys zs = map-append f (xs ++ ys) zs ∙ ap (λ l. l ++ map f zs) (map-append f xs ys)

-- a test of the element at an index
pub at_index : {X Y : Type 0} (f : X → Y) (P : Y → Type 0) (xs : List X) (i : ℕ) (x d : X) (b : Bool) → i < length xs → x ≡ get_or xs i x
    → Decides b (P (f x)) → Decides b ((i < length xs) × P (f (get_or xs i d)))
at_index f P xs i x d b lt is told =
    let same : get_or xs i d ≡ x = get_or_default xs i d x lt ∙ sym is in
    (λ t. (lt, subst (λ y. P (f y)) (sym same) (told.0 t)), λ h. told.1 (subst (λ y. P (f y)) same h.1))
