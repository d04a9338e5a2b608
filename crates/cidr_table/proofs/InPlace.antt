-- The pass over networks in their own slice: what is still to come stays as it was.
use Rattle.std.proofs.Common.{◌≡◌, ℕ, ◌+◌, ◌-◌, ◌≤◌, List, get_or, set, drop, sym, ap, ◌∙◌, arith, add-zero}
use Rattle.std.proofs.lemmas.List.{drop-drop, drop-set-lt, get_or-drop}

module _ {X : Type 0} where
  -- from a later place on too
  pub same_later : (xs ys : List X) (m k : ℕ) → m ≤ k → drop m xs ≡ drop m ys → drop k xs ≡ drop k ys
  same_later xs ys m k le e =
      let at : m + (k - m) ≡ k = omega arith in
      ap (λ j. drop j xs) (sym at) ∙ sym (drop-drop (k - m) m xs) ∙ ap (drop (k - m)) e ∙ drop-drop (k - m) m ys
      ∙ ap (λ j. drop j ys) at

  read_first : (xs : List X) (i : ℕ) (x : X) → get_or xs i x ≡ get_or (drop i xs) 0 x
  read_first xs i x = ap (λ k. get_or xs k x) (sym (add-zero i)) ∙ sym (get_or-drop i xs 0 x)

  -- the first of what is to come
  pub same_first : (xs ys : List X) (i : ℕ) (x : X) → drop i xs ≡ drop i ys → x ≡ get_or xs i x → x ≡ get_or ys i x
  same_first xs ys i x e h = h ∙ read_first xs i x ∙ ap (λ t. get_or t 0 x) e ∙ sym (read_first ys i x)

  -- after a write that isn't behind the place, and a change of what is before it
  pub same_written : (xs ys after : List X) (i n : ℕ) (x : X) → n ≤ i → drop i xs ≡ drop i ys
      → drop (n + 1) after ≡ drop (n + 1) (set xs n x) → drop (i + 1) after ≡ drop (i + 1) ys
  same_written xs ys after i n x le e h =
      same_later after (set xs n x) (n + 1) (i + 1) (omega arith) h
      ∙ drop-set-lt (i + 1) xs n x (omega arith) ∙ same_later xs ys i (i + 1) (omega arith) e
