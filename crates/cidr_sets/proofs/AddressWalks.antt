-- What is left of the addresses of some networks, from both ends.
use Rattle.std.proofs.Common.{◌≡◌, ℕ, suc, ◌+◌, ◌-◌, ◌*◌, ◌^◌, ◌<◌, ◌≤◌, ◌⊎◌, Bool, true, false, List, [], ◌∷◌, ◌++◌, length, map, refl, sym, ap, ap₂, ◌∙◌, subst, arith, inl, inr, Option, Some, None, append_assoc, length-append}
use Rattle.std.proofs.lemmas.Bool.{le-leb}
use Rattle.std.proofs.lemmas.List.{append-nil, length-replicate, map_push}
use Rattle.std.proofs.lemmas.List.FromFn.{map-range_with_len_more}
use Rattle.std.specs.List.{range_with_len}
use Rattle.std.specs.Iterator.{item_count, MakesProgress}
use Rattle.cidr.specs.model.Bits.{bits, number}
use Rattle.cidr.specs.model.Network.{zeros, ones, first_of, last_of}
use Rattle.cidr.specs.laws.BitLaws.{number-append, number-lt}
use Rattle.cidr.proofs.NetworkNumbers.{number-zeros}
use Rattle.cidr_sets.specs.internal.AddressLists.{numbered, AreEndNumbers, ends_of, addresses_in, left_of}

module _ (w : ℕ) where
  -- ---- one network
  module _ (p : List Bool) (within : length p ≤ w) where
    pub whole_ends : ends_of w p ≡ Some (number (first_of w p), number (last_of w p))
    whole_ends = rw (le-leb (length p) w within) refl

    pub ends_are : AreEndNumbers w (Some (number (first_of w p), number (last_of w p)))
    ends_are =
        let k = w - length p in
        let low : number (first_of w p) ≡ number p * 2 ^ k + number (zeros k) = number-append p (zeros k) ∙ ap (λ n. number p * 2 ^ n + number (zeros k)) (length-replicate k false) in
        let high : number (last_of w p) ≡ number p * 2 ^ k + number (ones k) = number-append p (ones k) ∙ ap (λ n. number p * 2 ^ n + number (ones k)) (length-replicate k true) in
        let size : length (last_of w p) ≡ w = omega (arith, length-append p (ones k), length-replicate k true) in (
          omega (arith, low, high, number-zeros k),
          subst (λ n. number (last_of w p) < 2 ^ n) size (number-lt (last_of w p)),
        )

  -- ---- without the first or the last one
  pub front_more : (a b : ℕ) → a < b → numbered w (Some (a, b)) ≡ bits w a ∷ numbered w (Some (a + 1, b))
  front_more a b h =
      let n : b + 1 - a ≡ suc (b + 1 - (a + 1)) = omega arith in
      ap (λ m. map (bits w) (range_with_len a m)) n

  pub front_last : (a b : ℕ) → a ≤ b → b ≤ a → numbered w (Some (a, b)) ≡ bits w a ∷ []
  front_last a b h k =
      let n : b + 1 - a ≡ suc 0 = omega arith in
      ap (λ m. map (bits w) (range_with_len a m)) n

  from_back : (a b : ℕ) → a ≤ b → numbered w (Some (a, b)) ≡ map (bits w) (range_with_len a (b - a)) ++ bits w b ∷ []
  from_back a b h =
      let more : b + 1 - a ≡ (b - a) + 1 = omega arith in
      ap (λ m. map (bits w) (range_with_len a m)) more ∙ map-range_with_len_more (bits w) a (b - a) b (omega arith)

  pub back_more : (a b : ℕ) → a < b → numbered w (Some (a, b)) ≡ numbered w (Some (a, b - 1)) ++ bits w b ∷ []
  back_more a b h =
      let same : b - a ≡ b - 1 + 1 - a = omega arith in
      from_back a b (omega arith) ∙ ap (λ m. map (bits w) (range_with_len a m) ++ bits w b ∷ []) same

  pub back_last : (a b : ℕ) → a ≤ b → b ≤ a → numbered w (Some (a, b)) ≡ [] ++ bits w b ∷ []
  back_last a b h k =
      let none : b - a ≡ 0 = omega arith in
      from_back a b h ∙ ap (λ m. map (bits w) (range_with_len a m) ++ bits w b ∷ []) none

  pub addresses_pushed : (ps : List (List Bool)) (q : List Bool) → addresses_in w (ps ++ q ∷ []) ≡ addresses_in w ps ++ numbered w (ends_of w q)
  addresses_pushed [] q = append-nil (numbered w (ends_of w q))
  addresses_pushed (p ∷ ps) q =
      ap (λ t. numbered w (ends_of w p) ++ t) (addresses_pushed ps q)
      ∙ sym (append_assoc (numbered w (ends_of w p)) (addresses_in w ps) (numbered w (ends_of w q)))

  -- ---- where a network is opened at one end
  module _ {C : Type 0} (f : C → List Bool) (x : C) (xs : List C) (within : length (f x) ≤ w) where
    pub opened_front : (back : Option (ℕ × ℕ)) → left_of w None (map f (x ∷ xs)) back
        ≡ left_of w (Some (number (first_of w (f x)), number (last_of w (f x)))) (map f xs) back
    opened_front back =
        append_assoc (numbered w (ends_of w (f x))) (addresses_in w (map f xs)) (numbered w back)
        ∙ ap (λ e. numbered w e ++ (addresses_in w (map f xs) ++ numbered w back)) (whole_ends (f x) within)

    pub opened_back : (front : Option (ℕ × ℕ)) → left_of w front (map f (xs ++ x ∷ [])) None
        ≡ left_of w front (map f xs) (Some (number (first_of w (f x)), number (last_of w (f x))))
    opened_back front =
        ap (λ t. numbered w front ++ t) (
        append-nil (addresses_in w (map f (xs ++ x ∷ []))) ∙ ap (addresses_in w) (map_push f xs x)
        ∙ addresses_pushed (map f xs) (f x) ∙ ap (λ e. addresses_in w (map f xs) ++ numbered w e) (whole_ends (f x) within)
        )

  pub moved_front : (e : Option (ℕ × ℕ)) → left_of w None [] e ≡ left_of w e [] None
  moved_front e = sym (append-nil (numbered w e))

  -- ---- one step
  module _ (old : List (List Bool)) (a b : ℕ) (ps : List (List Bool)) (r : Option (ℕ × ℕ)) (x : List Bool) (are : AreEndNumbers w (Some (a, b))) where
    pub stepped_front : (back : Option (ℕ × ℕ)) → old ≡ left_of w (Some (a, b)) ps back → x ≡ bits w a
        → ((a < b) × (r ≡ Some (a + 1, b))) ⊎ ((b ≤ a) × (r ≡ None)) → old ≡ x ∷ left_of w r ps back
    stepped_front back whole is (inl (more, e)) = rw (e, is) (whole ∙ ap (λ t. t ++ (addresses_in w ps ++ numbered w back)) (front_more a b more))
    stepped_front back whole is (inr (last, e)) = rw (e, is) (whole ∙ ap (λ t. t ++ (addresses_in w ps ++ numbered w back)) (front_last a b are.0 last))

    split : (front back : Option (ℕ × ℕ)) → numbered w (Some (a, b)) ≡ numbered w back ++ x ∷ [] → left_of w front ps (Some (a, b)) ≡ left_of w front ps back ++ x ∷ []
    split front back e =
        ap (λ t. numbered w front ++ (addresses_in w ps ++ t)) e
        ∙ ap (λ t. numbered w front ++ t) (sym (append_assoc (addresses_in w ps) (numbered w back) (x ∷ [])))
        ∙ sym (append_assoc (numbered w front) (addresses_in w ps ++ numbered w back) (x ∷ []))

    pub stepped_back : (front : Option (ℕ × ℕ)) → old ≡ left_of w front ps (Some (a, b)) → x ≡ bits w b
        → ((a < b) × (r ≡ Some (a, b - 1))) ⊎ ((b ≤ a) × (r ≡ None)) → old ≡ left_of w front ps r ++ x ∷ []
    stepped_back front whole is (inl (more, e)) = rw e (whole ∙ split front (Some (a, b - 1)) (back_more a b more ∙ ap (λ t. numbered w (Some (a, b - 1)) ++ t ∷ []) (sym is)))
    stepped_back front whole is (inr (last, e)) = rw e (whole ∙ split front None (back_last a b are.0 last ∙ ap (λ t. t ∷ []) (sym is)))

    pub ends_front : ((a < b) × (r ≡ Some (a + 1, b))) ⊎ ((b ≤ a) × (r ≡ None)) → AreEndNumbers w r
    ends_front (inl (more, e)) = rw e (omega arith, are.1)
    ends_front (inr (last, e)) = rw e tt

    pub ends_back : ((a < b) × (r ≡ Some (a, b - 1))) ⊎ ((b ≤ a) × (r ≡ None)) → AreEndNumbers w r
    ends_back (inl (more, e)) = let high = are.1 in rw e (omega arith, omega arith)
    ends_back (inr (last, e)) = rw e tt

pub progress_front : {A X : Type 0} (view : A → X) {can : List X → Type 0} → ((s : List X) → can s) → (s t : List X) (x : A)
    → s ≡ view x ∷ t → MakesProgress can (item_count (λ (s : List X). s)) s (Some x) t
progress_front view can s t x h = record { on = λ _. (can t, tt, omega (arith, ap length h)); keeps = can t; rests = λ _. tt }

pub progress_back : {A X : Type 0} (view : A → X) {can : List X → Type 0} → ((s : List X) → can s) → (s t : List X) (x : A)
    → s ≡ t ++ view x ∷ [] → MakesProgress can (item_count (λ (s : List X). s)) s (Some x) t
progress_back view can s t x h =
    record { on = λ _. (can t, tt, omega (arith, ap length h, length-append t (view x ∷ []))); keeps = can t; rests = λ _. tt }

-- ---- a network opened at one end
none_left : {X : Type 0} (xs : List X) → length xs ≡ 0 → xs ≡ []
none_left [] e = refl
none_left (x ∷ xs) e = absurd (omega (arith, e))

module _ (w : ℕ) {C : Type 0} (f : C → List Bool) where
  -- these are left, of which those from e.0 to e.1 come first
  pub record IsOpenedFront (now : List (List Bool)) (e : ℕ × ℕ) (xs : List C) (other_end : Option (ℕ × ℕ)) : Type 0 where
    pub are : AreEndNumbers w (Some e)
    pub other : AreEndNumbers w other_end
    pub whole : now ≡ left_of w (Some e) (map f xs) other_end

  -- these are left, of which those from e.0 to e.1 come last
  pub record IsOpenedBack (now : List (List Bool)) (e : ℕ × ℕ) (xs : List C) (other_end : Option (ℕ × ℕ)) : Type 0 where
    pub are : AreEndNumbers w (Some e)
    pub other : AreEndNumbers w other_end
    pub whole : now ≡ left_of w other_end (map f xs) (Some e)

  ends_of_network : (x : C) (e : ℕ × ℕ) → e.0 ≡ number (first_of w (f x)) → e.1 ≡ number (last_of w (f x))
      → e ≡ (number (first_of w (f x)), number (last_of w (f x)))
  ends_of_network x e h k = ap₂ (λ a b. (a, b)) h k

  module _ (now : List (List Bool)) (front back : Option (ℕ × ℕ)) (xs : List C) (view : left_of w front (map f xs) back ≡ now)
      (inv : AreEndNumbers w front × AreEndNumbers w back) where
    pub front_kept : (e : ℕ × ℕ) → front ≡ Some e → IsOpenedFront now e xs back
    front_kept e is = record {
      are = subst (AreEndNumbers w) is inv.0;
      other = inv.1;
      whole = sym view ∙ ap (λ t. left_of w t (map f xs) back) is;
    }

    pub back_kept : (e : ℕ × ℕ) → back ≡ Some e → IsOpenedBack now e xs front
    back_kept e is = record {
      are = subst (AreEndNumbers w) is inv.1;
      other = inv.0;
      whole = sym view ∙ ap (left_of w front (map f xs)) is;
    }

    module _ (x : C) (ys : List C) (e : ℕ × ℕ) (first : e.0 ≡ number (first_of w (f x))) (last : e.1 ≡ number (last_of w (f x)))
        (fits : length (f x) ≤ w) where
      pub front_opened : front ≡ None → xs ≡ x ∷ ys → IsOpenedFront now e ys back
      front_opened none split =
          let same = ends_of_network x e first last in
          record {
            are = subst (λ t. AreEndNumbers w (Some t)) (sym same) (ends_are w (f x) fits);
            other = inv.1;
            whole = sym view ∙ ap₂ (λ t l. left_of w t (map f l) back) none split ∙ opened_front w f x ys fits back
                ∙ ap (λ t. left_of w (Some t) (map f ys) back) (sym same);
          }

      pub back_opened : back ≡ None → xs ≡ ys ++ x ∷ [] → IsOpenedBack now e ys front
      back_opened none split =
          let same = ends_of_network x e first last in
          record {
            are = subst (λ t. AreEndNumbers w (Some t)) (sym same) (ends_are w (f x) fits);
            other = inv.0;
            whole = sym view ∙ ap₂ (λ t l. left_of w front (map f l) t) none split ∙ opened_back w f x ys fits front
                ∙ ap (λ t. left_of w front (map f ys) (Some t)) (sym same);
          }

    pub front_moved : (e : ℕ × ℕ) → front ≡ None → length xs ≡ 0 → back ≡ Some e → IsOpenedFront now e xs None
    front_moved e none empty is = record {
      are = subst (AreEndNumbers w) is inv.1;
      other = tt;
      whole = sym view ∙ ap₂ (λ t l. left_of w t (map f l) back) none (none_left xs empty) ∙ moved_front w back
          ∙ ap₂ (λ t l. left_of w t (map f l) None) is (sym (none_left xs empty));
    }

    pub back_moved : (e : ℕ × ℕ) → back ≡ None → length xs ≡ 0 → front ≡ Some e → IsOpenedBack now e xs None
    back_moved e none empty is = record {
      are = subst (AreEndNumbers w) is inv.0;
      other = tt;
      whole = sym view ∙ ap₂ (λ t l. left_of w front (map f l) t) none (none_left xs empty) ∙ sym (moved_front w front)
          ∙ ap₂ (λ t l. left_of w None (map f l) t) is (sym (none_left xs empty));
    }
