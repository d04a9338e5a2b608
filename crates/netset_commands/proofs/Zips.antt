-- Lists that agree index by index.
use Rattle.std.proofs.Common.{◌≡◌, refl, List, [], ◌∷◌, ◌++◌, length, arith}
use Rattle.std.specs.List.{AllZip}

pub zip_behind : {A B : Type 0} (P : A → B → Type 0) (xs : List A) (ys : List B) (x : A) (y : B) → AllZip P xs ys → P x y
    → AllZip P (xs ++ x ∷ []) (ys ++ y ∷ [])
zip_behind P [] [] x y h p = (p, tt)
zip_behind P [] (k ∷ ys) x y h p = absurd h
zip_behind P (j ∷ xs) [] x y h p = absurd h
zip_behind P (j ∷ xs) (k ∷ ys) x y h p = (h.0, zip_behind P xs ys x y h.1 p)

pub zip_length : {A B : Type 0} (P : A → B → Type 0) (xs : List A) (ys : List B) → AllZip P xs ys → length xs ≡ length ys
zip_length P [] [] h = refl
zip_length P [] (k ∷ ys) h = absurd h
zip_length P (j ∷ xs) [] h = absurd h
zip_length P (j ∷ xs) (k ∷ ys) h = omega (arith, zip_length P xs ys h.1)
