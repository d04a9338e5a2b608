-- Two strings with a slash between them, written into a room one after the other.
use Rattle.std.proofs.Common.{◌≡◌, ℕ, suc, ◌+◌, ◌-◌, ◌<◌, List, [], ◌∷◌, ◌++◌, length, drop, get_or, set, subst, sym, ap, ◌∙◌, arith, append_assoc, length-append, length-drop, drop-cons, drop-drop, take_at, drop_at}
use Rattle.std.proofs.lemmas.List.{set_at}
use borrow.Rule.Slice.PartMut.{put_mid}
use Rattle.cidr_c.specs.calls.Calls.{IsPrintedInto}

module _ (a b old : List ℕ) (n m : ℕ) (na : n ≡ length a) (mb : m ≡ length b) (fits : n + 1 + m < length old) where
  rest : List ℕ
  rest = drop (suc n) old

  -- the first one and the slash
  front : List ℕ
  front = a ++ 47 ∷ []

  front_length : length front ≡ n + 1
  unfolding front
  front_length = omega (arith, length-append a (47 ∷ []))

  one : set (a ++ drop n old) n 47 ≡ front ++ rest
  unfolding front rest
  one =
      ap (λ r. set (a ++ r) n 47) (drop-cons old n 0 (omega arith)) ∙ set_at a (get_or old n 0) (drop (suc n) old) 47 n (sym na)
      ∙ sym (append_assoc a (47 ∷ []) (drop (suc n) old))

  -- the second one
  two : put_mid (n + 1) (n + 1 + m - (n + 1)) (front ++ rest) b ≡ front ++ (b ++ drop m rest)
  two =
      let size : n + 1 + m - (n + 1) ≡ m = omega arith in
      rw (size, take_at front rest (n + 1) front_length)
      (ap (λ r. front ++ (b ++ drop m r)) (drop_at front rest (n + 1) front_length))

  -- the 0 behind both
  three : set (front ++ (b ++ drop m rest)) (n + 1 + m) 0 ≡ (front ++ b) ++ 0 ∷ drop (suc m) rest
  unfolding rest
  three =
      let room : m < length (drop (suc n) old) = omega (arith, length-drop (suc n) old) in
      ap (λ r. set (front ++ (b ++ r)) (n + 1 + m) 0) (drop-cons (drop (suc n) old) m 0 room)
      ∙ ap (λ r. set r (n + 1 + m) 0) (sym (append_assoc front b (get_or (drop (suc n) old) m 0 ∷ drop (suc m) (drop (suc n) old))))
      ∙ set_at (front ++ b) (get_or (drop (suc n) old) m 0) (drop (suc m) (drop (suc n) old)) 0 (n + 1 + m)
      (omega (arith, length-append front b, front_length))

  printed : (new : List ℕ) (len : ℕ)
      → new ≡ set (put_mid (n + 1) (n + 1 + m - (n + 1)) (set (a ++ drop n old) n 47) b) (n + 1 + m) 0 → len ≡ n + 1 + m
      → IsPrintedInto (a ++ 47 ∷ b) old new len
  unfolding front rest
  printed new len is whole =
      let size : length (a ++ 47 ∷ b) ≡ n + 1 + m = omega (arith, length-append a (47 ∷ b)) in
      let behind : drop (suc m) (drop (suc n) old) ≡ drop (suc (length (a ++ 47 ∷ b))) old =
      drop-drop (suc m) (suc n) old ∙ (let e : suc n + suc m ≡ suc (length (a ++ 47 ∷ b)) = omega arith in ap (λ k. drop k old) e) in
      let all : new ≡ (a ++ 47 ∷ b) ++ 0 ∷ drop (suc (length (a ++ 47 ∷ b))) old =
      is ∙ ap (λ x. set (put_mid (n + 1) (n + 1 + m - (n + 1)) x b) (n + 1 + m) 0) one ∙ ap (λ x. set x (n + 1 + m) 0) two ∙ three
      ∙ ap (λ r. ((a ++ 47 ∷ []) ++ b) ++ 0 ∷ r) behind
      ∙ ap (λ x. x ++ 0 ∷ drop (suc (length (a ++ 47 ∷ b))) old) (append_assoc a (47 ∷ []) b) in
      record { count = omega arith; fits = λ _. all; cut = λ le. absurd (omega arith) }

  -- the same of strings that are known to be these
  pub both_printed : (x y new : List ℕ) (len : ℕ) → a ≡ x → b ≡ y
      → new ≡ set (put_mid (n + 1) (n + 1 + m - (n + 1)) (set (a ++ drop n old) n 47) b) (n + 1 + m) 0 → len ≡ n + 1 + m
      → IsPrintedInto (x ++ 47 ∷ y) old new len
  both_printed x y new len first second is whole =
      subst (λ (p : List ℕ). IsPrintedInto (p ++ 47 ∷ y) old new len) first
      (subst (λ (q : List ℕ). IsPrintedInto (a ++ 47 ∷ q) old new len) second (printed new len is whole))
