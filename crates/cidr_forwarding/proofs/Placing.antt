-- What the second pass reads and writes at a network.
use Rattle.std.proofs.Common.{◌≡◌, ◌⊎◌, inl, inr, ℕ, zero, suc, ◌+◌, ◌<◌, Bool, true, false, cond, List, [], ◌∷◌, ◌++◌, length, get_or, take, drop, Option, None, refl, sym, ap, ap₂, ◌∙◌, subst, arith, append_assoc, append-nil}
use Rattle.std.proofs.Math.Seq.{take-append_seam}
use Rattle.std.proofs.lemmas.List.{take-append-drop}
use Rattle.std.specs.Bool.{Decides}
use Rattle.std.specs.List.{AllByRecursion}
use Rattle.std.specs.Option.{option_eq}
use Rattle.cidr_forwarding.specs.Trees.{under, Region, Even, Halves}
use Rattle.cidr_forwarding.specs.Choices.{is_listed, head_or, pick, fill, is_free, EndsIn, Measured, noted, counted}
use Rattle.cidr_forwarding.specs.Forwarding.{in_bits}
use Rattle.cidr_forwarding.specs.Plans.{NextIs, AreOf, behind, planned, choices, measured, put_rows, fill_rows}
use Rattle.cidr_forwarding.specs.Opened.{IsParted}
use Rattle.cidr_forwarding.proofs.Stretches.{EndsInThree, ends_in_three}

-- the only candidate is chosen
pub only_chosen : {V : Type 0} → (same : Option V → Option V → Bool) (decides : (x y : Option V) → Decides (same x y) (x ≡ y)) (s : List (Option V)) (o w : Option V) → s ≡ o ∷ []
    → o ≡ cond (is_listed same s w) w (head_or None s)
only_chosen same decides s o w e =
    subst (λ l. o ≡ cond (is_listed same l w) w (head_or None l)) (sym e)
    (elim (same o w) as (λ b. same o w ≡ b → o ≡ cond (cond b true false) w o) [ true ↦ λ h. (decides o w).0 h | false ↦ λ h. refl ] refl)

-- ---- the rows that are put
module _ {V : Type 0} (eq : V → V → Bool) (holes : Bool) where
  pub put_held : (t : Region (Option V)) (c : Option V) → is_listed (option_eq eq) (choices eq holes t) c ≡ true → put_rows eq holes t c ≡ fill_rows eq holes t c
  unfolding put_rows fill_rows choices
  put_held t c h =
      ap (λ b. cond b (fill (option_eq eq) (is_free holes) None t c)
      (([], pick (option_eq eq) (is_free holes) None t) ∷ fill (option_eq eq) (is_free holes) None t (pick (option_eq eq) (is_free holes) None t))) h

  pub put_new : (t : Region (Option V)) (c : Option V) → is_listed (option_eq eq) (choices eq holes t) c ≡ false
      → put_rows eq holes t c ≡ ([], head_or None (choices eq holes t)) ∷ fill_rows eq holes t (head_or None (choices eq holes t))
  unfolding put_rows fill_rows choices
  put_new t c h =
      ap (λ b. cond b (fill (option_eq eq) (is_free holes) None t c)
      (([], pick (option_eq eq) (is_free holes) None t) ∷ fill (option_eq eq) (is_free holes) None t (pick (option_eq eq) (is_free holes) None t))) h

  pub fill_even : (x c : Option V) → fill_rows eq holes (Even x) c ≡ []
  unfolding fill_rows
  fill_even x c = refl

  pub fill_halves : (l r : Region (Option V)) (c : Option V) → fill_rows eq holes (Halves l r) c ≡ under false (put_rows eq holes l c) ++ under true (put_rows eq holes r c)
  unfolding fill_rows put_rows
  fill_halves l r c = refl

-- ---- rows behind some bits
module _ {Y : Type 0} where
  behind_append : (q : List Bool) (xs ys : List (List Bool × Y)) → behind q (xs ++ ys) ≡ behind q xs ++ behind q ys
  behind_append q [] ys = refl
  behind_append q (x ∷ xs) ys = ap (λ l. (q ++ x.0, x.1) ∷ l) (behind_append q xs ys)

  behind_under : (q : List Bool) (b : Bool) (xs : List (List Bool × Y)) → behind q (under b xs) ≡ behind (q ++ b ∷ []) xs
  behind_under q b [] = refl
  behind_under q b (x ∷ xs) = ap₂ (λ p l. (p, x.1) ∷ l) (sym (append_assoc q (b ∷ []) x.0)) (behind_under q b xs)

  -- what is behind the bits of both halves
  pub behind_halves : (q lower upper : List Bool) (lows highs : List (List Bool × Y)) → lower ≡ q ++ false ∷ [] → upper ≡ q ++ true ∷ []
      → behind q (under false lows ++ under true highs) ≡ behind lower lows ++ behind upper highs
  behind_halves q lower upper lows highs lo up =
      behind_append q (under false lows) (under true highs)
      ∙ ap₂ (λ x y. x ++ y) (behind_under q false lows ∙ ap (λ p. behind p lows) (sym lo)) (behind_under q true highs ∙ ap (λ p. behind p highs) (sym up))

  pub under_behind : (b : Bool) (p : List Bool) (xs : List (List Bool × Y)) → under b (behind p xs) ≡ behind (b ∷ p) xs
  under_behind b p [] = refl
  under_behind b p (x ∷ xs) = ap (λ l. (b ∷ (p ++ x.0), x.1) ∷ l) (under_behind b p xs)

  pub under_is : (b : Bool) (xs : List (List Bool × Y)) → under b xs ≡ behind (b ∷ []) xs
  under_is b [] = refl
  under_is b (x ∷ xs) = ap (λ l. (b ∷ x.0, x.1) ∷ l) (under_is b xs)

  pub behind_behind : (q p : List Bool) (xs : List (List Bool × Y)) → behind q (behind p xs) ≡ behind (q ++ p) xs
  behind_behind q p [] = refl
  behind_behind q p (x ∷ xs) = ap₂ (λ k l. (k, x.1) ∷ l) (sym (append_assoc q p x.0)) (behind_behind q p xs)

  pub length_behind : (p : List Bool) (xs : List (List Bool × Y)) → length (behind p xs) ≡ length xs
  length_behind p [] = refl
  length_behind p (x ∷ xs) = ap suc (length_behind p xs)

  pub behind_nothing : (xs : List (List Bool × Y)) → behind [] xs ≡ xs
  behind_nothing [] = refl
  behind_nothing (x ∷ xs) = ap (λ l. x ∷ l) (behind_nothing xs)

module _ {C Y : Type 0} (bits : C → List Bool) where
  pub in_bits_push : (xs : List (C × Y)) (x : C × Y) → in_bits bits (xs ++ x ∷ []) ≡ in_bits bits xs ++ (bits x.0, x.1) ∷ []
  in_bits_push [] x = refl
  in_bits_push (y ∷ xs) x = ap (λ l. (bits y.0, y.1) ∷ l) (in_bits_push xs x)

-- ---- a network's own row, and those below it
module _ {C V : Type 0} (bits : C → List Bool) (eq : V → V → Bool) (holes : Bool) (t : Region (Option V)) (network : C) (wanted : Option V) (old : List (C × Option V)) where
  -- what is there once the network's own row is
  pub record IsBegun (value : Option V) (now : List (C × Option V)) : Type 0 where
    pub is : in_bits bits now ++ behind (bits network) (fill_rows eq holes t value) ≡ in_bits bits old ++ behind (bits network) (put_rows eq holes t wanted)

  begun_held : (value : Option V) (now : List (C × Option V)) → is_listed (option_eq eq) (choices eq holes t) wanted ≡ true → value ≡ wanted → now ≡ old → IsBegun value now
  begun_held value now h v n = record {
    is = ap₂ (λ l x. in_bits bits l ++ behind (bits network) (fill_rows eq holes t x)) n v ∙ ap (λ l. in_bits bits old ++ behind (bits network) l) (sym (put_held eq holes t wanted h));
  }

  begun_new : (value : Option V) (now : List (C × Option V)) → is_listed (option_eq eq) (choices eq holes t) wanted ≡ false
      → value ≡ head_or None (choices eq holes t) → now ≡ old ++ (network, value) ∷ [] → IsBegun value now
  begun_new value now h v n =
      let q = bits network in
      let e : in_bits bits now ≡ in_bits bits old ++ (q, value) ∷ [] = ap (in_bits bits) n ∙ in_bits_push bits old (network, value) in
      let f : put_rows eq holes t wanted ≡ ([], value) ∷ fill_rows eq holes t value = put_new eq holes t wanted h ∙ ap (λ x. ([], x) ∷ fill_rows eq holes t x) (sym v) in
      record {
        is =
            ap (λ l. l ++ behind q (fill_rows eq holes t value)) e ∙ append_assoc (in_bits bits old) ((q, value) ∷ []) (behind q (fill_rows eq holes t value))
            ∙ ap (λ p. in_bits bits old ++ (p, value) ∷ behind q (fill_rows eq holes t value)) (sym (append-nil q)) ∙ ap (λ l. in_bits bits old ++ behind q l) (sym f);
      }

  -- as the row is appended, or not
  pub begun : {s : List (Option V)} {value : Option V} {now : List (C × Option V)} → s ≡ choices eq holes t
      → value ≡ cond (is_listed (option_eq eq) s wanted) wanted (head_or None s)
      → now ≡ old ++ cond (is_listed (option_eq eq) s wanted) [] ((network, head_or None s) ∷ []) → IsBegun value now
  begun {s = s} {value = value} {now = now} is v n = elim (decided (is_listed (option_eq eq) s wanted)) [
    | inl h ↦ begun_held value now (ap (λ l. is_listed (option_eq eq) l wanted) (sym is) ∙ h) (v ∙ ap (λ c. cond c wanted (head_or None s)) h)
        (n ∙ ap (λ c. old ++ cond c [] ((network, head_or None s) ∷ [])) h ∙ append-nil old)
    | inr h ↦
        let w : value ≡ head_or None s = v ∙ ap (λ c. cond c wanted (head_or None s)) h in
        begun_new value now (ap (λ l. is_listed (option_eq eq) l wanted) (sym is) ∙ h) (w ∙ ap (head_or None) is)
        (n ∙ ap (λ c. old ++ cond c [] ((network, head_or None s) ∷ [])) h ∙ ap (λ x. old ++ (network, x) ∷ []) (sym w))
  ]
    where
      decided : (c : Bool) → (c ≡ true) ⊎ (c ≡ false)
      decided true = inl refl
      decided false = inr refl

module _ {C V : Type 0} {bits : C → List Bool} {eq : V → V → Bool} {holes : Bool} {t : Region (Option V)} {network : C} {wanted value : Option V} {old now : List (C × Option V)}
    (h : IsBegun bits eq holes t network wanted old value now) where
  pub ended_even : {x : Option V} → t ≡ Even x → in_bits bits now ≡ in_bits bits old ++ behind (bits network) (put_rows eq holes t wanted)
  ended_even {x = x} e =
      let n : fill_rows eq holes t value ≡ [] = ap (λ u. fill_rows eq holes u value) e ∙ fill_even eq holes x value in
      sym (append-nil (in_bits bits now)) ∙ ap (λ l. in_bits bits now ++ behind (bits network) l) (sym n) ∙ h.is

  -- all of it behind bits that the rows share
  pub ended_chain : (low : List (C × Option V)) (p : List Bool) {inside : List Bool} (more : List (List Bool × Option V)) → inside ≡ bits network ++ p
      → fill_rows eq holes t value ≡ behind p more → in_bits bits low ≡ in_bits bits now ++ behind inside more
      → in_bits bits low ≡ in_bits bits old ++ behind (bits network) (put_rows eq holes t wanted)
  ended_chain low p more i f e =
      e ∙ ap (λ l. in_bits bits now ++ l) (ap (λ k. behind k more) i ∙ sym (behind_behind (bits network) p more) ∙ ap (behind (bits network)) (sym f)) ∙ h.is

  pub ended_halves : {l r : Region (Option V)} (low high : List (C × Option V)) {lower upper : List Bool} → t ≡ Halves l r
      → lower ≡ bits network ++ false ∷ [] → upper ≡ bits network ++ true ∷ []
      → in_bits bits low ≡ in_bits bits now ++ behind lower (put_rows eq holes l value) → in_bits bits high ≡ in_bits bits low ++ behind upper (put_rows eq holes r value)
      → in_bits bits high ≡ in_bits bits old ++ behind (bits network) (put_rows eq holes t wanted)
  ended_halves {l = l} {r = r} low high {lower = lower} {upper = upper} e lo up a b =
      let q = bits network in
      let n : fill_rows eq holes t value ≡ under false (put_rows eq holes l value) ++ under true (put_rows eq holes r value) = ap (λ u. fill_rows eq holes u value) e ∙ fill_halves eq holes l r value in
      let m : behind q (fill_rows eq holes t value) ≡ behind lower (put_rows eq holes l value) ++ behind upper (put_rows eq holes r value) =
      ap (behind q) n ∙ behind_halves q lower upper (put_rows eq holes l value) (put_rows eq holes r value) lo up in
      b ∙ ap (λ x. x ++ behind upper (put_rows eq holes r value)) a
      ∙ append_assoc (in_bits bits now) (behind lower (put_rows eq holes l value)) (behind upper (put_rows eq holes r value))
      ∙ ap (λ x. in_bits bits now ++ x) (sym m) ∙ h.is

-- ---- rows of a half
module _ {C V : Type 0} (bits : C → List Bool) (q : List Bool) where
  pub of_drop : (n : ℕ) (rows : List (C × V)) → AreOf bits q rows → AreOf bits q (drop n rows)
  of_drop zero [] h = tt
  of_drop zero (r ∷ rows) h = h
  of_drop (suc n) [] h = tt
  of_drop (suc n) (r ∷ rows) h = of_drop n rows h.1

  pub of_parts : (xs ys : List (C × V)) → AreOf bits q (xs ++ ys) → AreOf bits q xs × AreOf bits q ys
  of_parts [] ys h = (tt, h)
  of_parts (x ∷ xs) ys h = let k = of_parts xs ys h.1 in ((h.0, k.0), k.1)

  pub of_at : (rows : List (C × V)) (i : ℕ) (r : C × V) → i < length rows → AreOf bits q rows → r ≡ get_or rows i r → take (length q) (bits r.0) ≡ q
  of_at [] i r l h e = absurd (omega arith)
  of_at (s ∷ rows) zero r l h e = subst (λ (x : C × V). take (length q) (bits x.0) ≡ q) (sym e) h.0
  of_at (s ∷ rows) (suc i) r l h e = of_at rows i r (omega arith) h.1 e

  pub of_half : (d : ℕ) (b : Bool) (rows : List (C × V)) → length q ≡ d → AreOf bits q rows → AllByRecursion (NextIs bits d b) rows → AreOf bits (q ++ b ∷ []) rows
  of_half d b [] l h k = tt
  of_half d b (r ∷ rows) l h k =
      let p = bits r.0 in
      let w : p ≡ (q ++ b ∷ []) ++ drop (d + 1) p =
      sym (take-append-drop d p) ∙ ap₂ (λ x y. x ++ y) (ap (λ n. take n p) (sym l) ∙ h.0) k.0 ∙ sym (append_assoc q (b ∷ []) (drop (d + 1) p)) in
      (ap (take (length (q ++ b ∷ []))) w ∙ take-append_seam (q ++ b ∷ []) (drop (d + 1) p), of_half d b rows l h.1 k.1)

-- ---- what the first pass has left of a network
module _ {C V : Type 0} {bits : C → List Bool} {eq : V → V → Bool} {holes : Bool} {depth : ℕ} {inherited own : Option V} {rows lower upper : List (C × V)} {key : C}
    (p : IsParted bits eq holes depth inherited rows own key lower upper) where
  abbrev Set : List (Option V)
  Set = choices eq holes (planned bits depth inherited rows)

  abbrev Low : Measured (Option V)
  Low = measured bits eq holes (depth + 1) own lower

  abbrev High : Measured (Option V)
  High = measured bits eq holes (depth + 1) own upper

  pub counts_left : {counts : List ℕ} → EndsIn counts (counted (measured bits eq holes depth inherited rows))
      → EndsInThree counts (counted High) (counted Low) (length Set ∷ []) (counted (measured bits eq holes depth inherited rows))
  counts_left ends = ends_in_three (counted High) (counted Low) (length Set ∷ []) (ap counted p.left) ends

  pub values_left : {values : List (Option V)} → EndsIn values (noted (measured bits eq holes depth inherited rows))
      → EndsInThree values (noted High) (noted Low) Set (noted (measured bits eq holes depth inherited rows))
  values_left ends = ends_in_three (noted High) (noted Low) Set (ap noted p.left) ends
