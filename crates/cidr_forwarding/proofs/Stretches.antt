-- Parts of a list: between two indices, at its end, and what is before them.
use Rattle.std.proofs.Common.{◌≡◌, ℕ, ◌+◌, ◌-◌, ◌≤◌, List, [], ◌∷◌, ◌++◌, length, get_or, take, drop, refl, sym, ap, ap₂, ◌∙◌, arith, append_assoc, length-append, length-drop}
use Rattle.std.proofs.Math.Seq.{drop-append_seam}
use Rattle.std.proofs.lemmas.List.{take_all, take-append-le, drop-append-le, append_cancel_right, get_or_at}
use Rattle.cidr_forwarding.specs.Choices.{EndsIn}

module _ {X : Type 0} where
  pub empty_from : (xs : List X) → length xs ≤ 0 → xs ≡ []
  empty_from [] h = refl
  empty_from (x ∷ xs) h = absurd (omega arith)

  -- what `&xs[n..]` is
  pub whole_rest : (n : ℕ) (xs : List X) → take (length xs - n) (drop n xs) ≡ drop n xs
  whole_rest n xs = take_all (length xs - n) (drop n xs) (omega (arith, length-drop n xs))

  -- what `&xs[start..stop]` is
  abbrev pub part : List X → ℕ → ℕ → List X
  part xs start stop = take (stop - start) (drop start xs)

  pub part_kept : (xs more : List X) (start stop : ℕ) → start ≤ stop → stop ≤ length xs → part (xs ++ more) start stop ≡ part xs start stop
  part_kept xs more start stop o h =
      ap (take (stop - start)) (drop-append-le start xs more (omega arith))
      ∙ take-append-le (stop - start) (drop start xs) more (omega (arith, length-drop start xs))

  -- ---- the end of a list
  pub part_end : (whole end : List X) (n stop : ℕ) → EndsIn whole end → n ≡ length end → stop ≡ length whole → part whole (stop - n) stop ≡ end
  part_end whole end n stop ends e s =
      let len : length whole ≡ length ends.0 + length end = ap length ends.1 ∙ length-append ends.0 end in
      let f : stop - n ≡ length ends.0 = omega arith in
      let k : stop - (stop - n) ≡ length end = omega arith in
      let g : drop (stop - n) whole ≡ end = ap₂ drop f ends.1 ∙ drop-append_seam ends.0 end in
      ap₂ take k g ∙ take_all (length end) end (omega arith)

  pub ends_more : (xs : List X) {whole end : List X} → EndsIn whole end → EndsIn (xs ++ whole) end
  ends_more xs {whole = whole} {end = end} e = (xs ++ e.0, ap (λ l. xs ++ l) e.1 ∙ sym (append_assoc xs e.0 end))

  cut_front : (xs us ys vs : List X) → length xs ≡ length us → xs ++ ys ≡ us ++ vs → (xs ≡ us) × (ys ≡ vs)
  cut_front [] [] ys vs l e = (refl, e)
  cut_front [] (u ∷ us) ys vs l e = absurd (omega arith)
  cut_front (x ∷ xs) [] ys vs l e = absurd (omega arith)
  cut_front (x ∷ xs) (u ∷ us) ys vs l e =
      let k = cut_front xs us ys vs (omega arith) (ap (drop 1) e) in
      let h : x ≡ u = cc in
      (ap₂ (λ y l. y ∷ l) h k.0, k.1)

  -- ---- what three appends make
  pub appended : (v0 v1 v2 v3 r l s whole : List X) → v1 ≡ v0 ++ r → v2 ≡ v1 ++ l → v3 ≡ v2 ++ s → whole ≡ r ++ (l ++ s) → v3 ≡ v0 ++ whole
  appended v0 v1 v2 v3 r l s whole a b c w =
      c ∙ ap (λ v. v ++ s) (b ∙ ap (λ v. v ++ l) a) ∙ append_assoc (v0 ++ r) l s ∙ append_assoc v0 r (l ++ s) ∙ ap (λ v. v0 ++ v) (sym w)

  -- ---- a list that ends in r, l and s, without the last
  pub record EndsInThree (whole r l s m : List X) : Type 0 where
    pub front : List X
    pub all : m ≡ r ++ (l ++ s)
    pub is : whole ≡ ((front ++ r) ++ l) ++ s

  pub ends_in_three : {whole m : List X} (r l s : List X) → m ≡ r ++ (l ++ s) → EndsIn whole m → EndsInThree whole r l s m
  ends_in_three r l s e ends = record {
    front = ends.0;
    all = e;
    is = ends.1 ∙ ap (λ v. ends.0 ++ v) e ∙ sym (append_assoc ends.0 r (l ++ s)) ∙ sym (append_assoc (ends.0 ++ r) l s);
  }

  module _ {whole r l s m : List X} (t : EndsInThree whole r l s m) where
    pub room : length s ≤ length whole
    room = omega (arith, ap length t.is, length-append ((t.front ++ r) ++ l) s)

    pub last_one : (n : X) → s ≡ n ∷ [] → (d : X) → get_or whole (length whole - 1) d ≡ n
    last_one n e d =
        let front = (t.front ++ r) ++ l in
        let w : whole ≡ front ++ n ∷ [] = t.is ∙ ap (λ v. front ++ v) e in
        ap (λ v. get_or v (length whole - 1) d) w ∙ get_or_at front n [] d (length whole - 1) (omega (arith, ap length w, length-append front (n ∷ [])))

    module _ (before last : List X) (split : whole ≡ before ++ last) (long : length last ≡ length s) where
      both : (before ≡ (t.front ++ r) ++ l) × (last ≡ s)
      both =
          let e = sym split ∙ t.is in
          cut_front before ((t.front ++ r) ++ l) last s
          (omega (arith, ap length e, length-append before last, length-append ((t.front ++ r) ++ l) s, long)) e

      pub last_is : last ≡ s
      last_is = both.1

      pub lower_ends : EndsIn before l
      lower_ends = (t.front ++ r, both.0)

      module _ (middle : List X) (lower : before ≡ middle ++ l) where
        pub upper_ends : EndsIn middle r
        upper_ends = (t.front, append_cancel_right middle (t.front ++ r) l (sym lower ∙ both.0))

        pub all_before : (first : List X) → middle ≡ first ++ r → whole ≡ first ++ m
        all_before first upper = appended first middle before whole r l s m upper lower (split ∙ ap (λ v. before ++ v) last_is) t.all
