-- Of equal elements that follow each other the first is kept, in place.
use Rattle.std.proofs.Common.{◌≡◌, ℕ, zero, suc, ◌+◌, ◌-◌, ◌<◌, ◌≤◌, Bool, true, false, not, cond, List, [], ◌∷◌, ◌++◌, length, get_or, take, drop, set, refl, sym, ap, ◌∙◌, arith}
use Rattle.std.proofs.lemmas.Bool.{true≢false}
use Rattle.std.proofs.lemmas.Grind.{take-set_at}
use Rattle.std.proofs.lemmas.List.{drop-drop, drop-set-lt, get_or-drop, get_or-take, length-set, length-take-le, take_all, take_more}
use Rattle.std.specs.List.{dedup, dedup_from}

module _ {X : Type 0} (E : X → X → Bool) where
  some_from : (k : X) (xs : List X) → 0 < length (dedup_from E k xs)
  some_from k [] = omega arith
  some_from k (x ∷ xs) = by (E x k) (some_from k xs)
    where
      by : (b : Bool) → 0 < length (dedup_from E k xs) → 0 < length (cond b (dedup_from E k xs) (k ∷ dedup_from E x xs))
      by true h = h
      by false h = omega arith

  -- what is kept of k and xs, and of these and x
  abbrev IsPushed : X → List X → X → X → ℕ → Type 0
  IsPushed k xs x l n = length (dedup_from E k xs) ≡ n + 1 → get_or (dedup_from E k xs) n l ≡ l
      → dedup_from E k (xs ++ x ∷ []) ≡ cond (E x l) (dedup_from E k xs) (dedup_from E k xs ++ x ∷ [])

  push_from : (k : X) (xs : List X) (x l : X) (n : ℕ) → IsPushed k xs x l n
  push_from k [] x l zero h e = ap (λ z. cond (E x z) (k ∷ []) (k ∷ x ∷ [])) e
  push_from k [] x l (suc n) h e = absurd (omega (arith, h))
  push_from k (y ∷ ys) x l n h e = by (E y k) n (λ m. push_from k ys x l m) (λ m. push_from y ys x l m) h e
    where
      into : (b : Bool) (us vs : List X) → k ∷ cond b us vs ≡ cond b (k ∷ us) (k ∷ vs)
      into true us vs = refl
      into false us vs = refl

      by : (b : Bool) (n : ℕ) → ((m : ℕ) → IsPushed k ys x l m) → ((m : ℕ) → IsPushed y ys x l m)
          → length (cond b (dedup_from E k ys) (k ∷ dedup_from E y ys)) ≡ n + 1
          → get_or (cond b (dedup_from E k ys) (k ∷ dedup_from E y ys)) n l ≡ l
          → cond b (dedup_from E k (ys ++ x ∷ [])) (k ∷ dedup_from E y (ys ++ x ∷ [])) ≡ cond (E x l)
          (cond b (dedup_from E k ys) (k ∷ dedup_from E y ys)) (cond b (dedup_from E k ys) (k ∷ dedup_from E y ys) ++ x ∷ [])
      by true n same other h e = same n h e
      by false zero same other h e = absurd (omega (arith, h, some_from y ys))
      by false (suc n) same other h e = ap (λ zs. k ∷ zs) (other n (omega (arith, h)) e)
          ∙ into (E x l) (dedup_from E y ys) (dedup_from E y ys ++ x ∷ [])

  push_first : (xs : List X) (x : X) → length (dedup E xs) ≡ 0 → dedup E (xs ++ x ∷ []) ≡ dedup E xs ++ x ∷ []
  push_first [] x h = refl
  push_first (y ∷ ys) x h = absurd (omega (arith, h, some_from y ys))

  push_later : (xs : List X) (x l : X) (n : ℕ) → length (dedup E xs) ≡ n + 1 → get_or (dedup E xs) n l ≡ l
      → dedup E (xs ++ x ∷ []) ≡ cond (E x l) (dedup E xs) (dedup E xs ++ x ∷ [])
  push_later [] x l n h e = absurd (omega (arith, h))
  push_later (y ∷ ys) x l n h e = push_from y ys x l n h e

  -- the first i elements have gone to the front, each once
  module _ (old : List X) where
    pub record IsFront (i n : ℕ) (now : List X) : Type 0 where
      pub front : take n now ≡ dedup E (take i old)
      pub back : drop i now ≡ drop i old
      pub fits : n ≤ i
      pub size : length now ≡ length old

    pub front_none : IsFront 0 0 old
    front_none = record { front = refl; back = refl; fits = omega arith; size = refl }

    module _ (i n : ℕ) (now : List X) (h : IsFront i n now) (x : X) (here : i < length now) (is : x ≡ get_or now i x) where
      -- what is still to come is as it was
      same_at : x ≡ get_or old i x
      same_at =
          let end : i + 0 ≡ i = omega arith in
          is ∙ sym (get_or-drop i now 0 x ∙ ap (λ k. get_or now k x) end) ∙ ap (λ l. get_or l 0 x) h.back
          ∙ get_or-drop i old 0 x ∙ ap (λ k. get_or old k x) end

      one_more : take (i + 1) old ≡ take i old ++ x ∷ []
      one_more = take_more old i x (omega (arith, here, h.size))
          ∙ ap (λ y. take i old ++ y ∷ []) (sym same_at)

      rest_same : drop (i + 1) now ≡ drop (i + 1) old
      rest_same = sym (drop-drop 1 i now) ∙ ap (drop 1) h.back ∙ drop-drop 1 i old

      taken : length (dedup E (take i old)) ≡ n
      taken = sym (ap length h.front) ∙ length-take-le n now (omega (arith, h.fits, here))

      written_front : dedup E (take i old ++ x ∷ []) ≡ dedup E (take i old) ++ x ∷ [] → IsFront (i + 1) (n + 1) (set now n x)
      written_front e = record {
        front = take-set_at now n (n + 1) x refl (omega (arith, h.fits, here)) ∙ ap (λ l. l ++ x ∷ []) h.front ∙ sym e ∙ ap (dedup E) (sym one_more);
        back = drop-set-lt (i + 1) now n x (omega (arith, h.fits)) ∙ rest_same;
        fits = omega (arith, h.fits);
        size = length-set now n x ∙ h.size;
      }

      pub front_first : n ≡ 0 → IsFront (i + 1) (n + 1) (set now n x)
      front_first none = written_front (push_first (take i old) x (taken ∙ none))

      module _ (l : X) (some : 0 < n) (last : l ≡ get_or now (n - 1) l) where
        pushed : dedup E (take i old ++ x ∷ []) ≡ cond (E x l) (dedup E (take i old)) (dedup E (take i old) ++ x ∷ [])
        pushed = push_later (take i old) x l (n - 1) (omega (arith, taken, some))
            (ap (λ zs. get_or zs (n - 1) l) (sym h.front) ∙ get_or-take n now (n - 1) l (omega (arith, some)) ∙ sym last)

        pub front_other : E x l ≡ false → IsFront (i + 1) (n + 1) (set now n x)
        front_other differs = written_front (pushed ∙ ap (λ b. cond b (dedup E (take i old)) (dedup E (take i old) ++ x ∷ [])) differs)

        pub front_same : E x l ≡ true → IsFront (i + 1) n now
        front_same same = record {
          front = h.front ∙ sym (ap (dedup E) one_more ∙ pushed
              ∙ ap (λ b. cond b (dedup E (take i old)) (dedup E (take i old) ++ x ∷ [])) same);
          back = rest_same;
          fits = omega (arith, h.fits);
          size = h.size;
        }

    pub front_all : (i n : ℕ) (now : List X) → IsFront i n now → length old ≤ i → take n now ≡ dedup E old
    front_all i n now h all = h.front ∙ ap (dedup E) (take_all i old all)

-- what `!=` says of `==`
pub unequal : (same differ : Bool) → differ ≡ not same → differ ≡ true → same ≡ false
unequal true differ h e = absurd (true≢false (sym e ∙ h))
unequal false differ h e = refl

pub equal : (same differ : Bool) → differ ≡ not same → differ ≡ false → same ≡ true
equal true differ h e = refl
equal false differ h e = absurd (true≢false (sym h ∙ e))
