-- The two ends of the networks of one length that are left.
use Rattle.std.proofs.Common.{◌≡◌, ◌⊎◌, ℕ, zero, suc, ◌+◌, ◌-◌, ◌^◌, ◌<◌, ◌≤◌, Bool, List, [], ◌∷◌, ◌++◌, length, map, drop, ap₂, length-append, length-drop, refl, sym, ap, ◌∙◌, arith, inl, inr, Option, Some, None, IfSome, MatchOption}
use Rattle.std.proofs.lemmas.List.FromFn.{length-map-range_with_len, map-range_with_len_more}
use Rattle.std.proofs.lemmas.List.{drop-map, drop_all}
use Rattle.std.specs.List.{range_with_len}
use Rattle.std.specs.Iterator.{UpTo, at_most, item_count, MakesProgress}
use Rattle.std.specs.Iterator.SizeHint.{IsExactHint}
use Rattle.cidr.specs.model.Bits.{bits}
use Rattle.cidr.specs.declared.family.Family.{Family}
use Rattle.cidr_ext.specs.model.Subnets.{subnets_from, subnets_left, index_count, IsSubnetAt, NoSubnetAt}

module _ (f : Family) (p : List Bool) (n : ℕ) where
  abbrev at : ℕ → Family × List Bool
  at i = (f, p ++ bits (n - length p) i)

  pub length-left : (ends : Option (ℕ × ℕ)) → length (subnets_left f p n ends) ≡ index_count ends
  length-left None = refl
  length-left (Some (a, b)) = length-map-range_with_len at a (b + 1 - a)

  -- without the last one
  from_back : (a b : ℕ) → a ≤ b → subnets_from f p n a (b + 1 - a) ≡ subnets_from f p n a (b - a) ++ (f, p ++ bits (n - length p) b) ∷ []
  from_back a b h =
      let more : b + 1 - a ≡ (b - a) + 1 = omega arith in
      ap (λ m. subnets_from f p n a m) more ∙ map-range_with_len_more at a (b - a) b (omega arith)

  pub back_more : (a b : ℕ) → a < b → subnets_left f p n (Some (a, b)) ≡ subnets_left f p n (Some (a, b - 1)) ++ (f, p ++ bits (n - length p) b) ∷ []
  back_more a b h =
      let same : b - a ≡ b - 1 + 1 - a = omega arith in
      from_back a b (omega arith) ∙ ap (λ m. subnets_from f p n a m ++ (f, p ++ bits (n - length p) b) ∷ []) same

  pub back_last : (a b : ℕ) → a ≤ b → b ≤ a → subnets_left f p n (Some (a, b)) ≡ [] ++ (f, p ++ bits (n - length p) b) ∷ []
  back_last a b h k =
      let none : b - a ≡ 0 = omega arith in
      from_back a b h ∙ ap (λ m. subnets_from f p n a m ++ (f, p ++ bits (n - length p) b) ∷ []) none

  -- what a call at the back returns, where the last is there and `left` are before it
  pub gives_back : {C : Type 0} (family_of : C → Family) (prefix : C → List Bool) (w a b : ℕ) (r : Option C) (now left : List (Family × List Bool))
      → length p ≤ n → n ≤ w → b < 2 ^ (n - length p)
      → MatchOption r (NoSubnetAt w p n b) (λ c. (family_of c ≡ f) × IsSubnetAt p n b (prefix c))
      → now ≡ left ++ (f, p ++ bits (n - length p) b) ∷ []
      → MatchOption r ((now ≡ []) × (left ≡ [])) (λ c. now ≡ left ++ (family_of c, prefix c) ∷ [])
  gives_back family_of prefix w a b None now left longer within below none e = absurd (impossible none)
    where
      impossible : NoSubnetAt w p n b → ⊥
      impossible (inl short) = omega arith
      impossible (inr (inl long)) = omega arith
      impossible (inr (inr past)) = omega arith
  gives_back family_of prefix w a b (Some c) now left longer within below (family, is) e =
      e ∙ ap (λ x. left ++ x ∷ []) (λ j. (sym family j, sym is.1 j))

  pub yields_back : {C : Type 0} (family_of : C → Family) (prefix : C → List Bool) (w : ℕ) (ends after : Option (ℕ × ℕ)) (a b : ℕ) (r : Option C)
      (now : List (Family × List Bool)) → length p ≤ n → n ≤ w → IfSome ends (λ e. (e.0 ≤ e.1) × (e.1 < 2 ^ (n - length p)))
      → subnets_left f p n ends ≡ now → ends ≡ Some (a, b)
      → MatchOption r (NoSubnetAt w p n b) (λ c. (family_of c ≡ f) × IsSubnetAt p n b (prefix c))
      → ((a < b) × (after ≡ Some (a, b - 1))) ⊎ ((b ≤ a) × (after ≡ None))
      → MatchOption r ((now ≡ []) × (subnets_left f p n after ≡ [])) (λ c. now ≡ subnets_left f p n after ++ (family_of c, prefix c) ∷ [])
  yields_back family_of prefix w ends after a b r now longer within inv view was found (inl (more, is)) =
      let low : (a ≤ b) × (b < 2 ^ (n - length p)) = rw was at inv in
      let whole : now ≡ subnets_left f p n after ++ (f, p ++ bits (n - length p) b) ∷ [] =
      sym view ∙ ap (subnets_left f p n) was ∙ back_more a b more ∙ ap (λ t. subnets_left f p n t ++ (f, p ++ bits (n - length p) b) ∷ []) (sym is) in
      gives_back family_of prefix w a b r now (subnets_left f p n after) longer within low.1 found whole
  yields_back family_of prefix w ends after a b r now longer within inv view was found (inr (last, is)) =
      let low : (a ≤ b) × (b < 2 ^ (n - length p)) = rw was at inv in
      let whole : now ≡ subnets_left f p n after ++ (f, p ++ bits (n - length p) b) ∷ [] =
      sym view ∙ ap (subnets_left f p n) was ∙ back_last a b low.0 last ∙ ap (λ t. subnets_left f p n t ++ (f, p ++ bits (n - length p) b) ∷ []) (sym is) in
      gives_back family_of prefix w a b r now (subnets_left f p n after) longer within low.1 found whole

-- ---- how many are left
pub exact_hint : (ends : Option (ℕ × ℕ)) (f : Family) (p : List Bool) (n : ℕ) (hint : ℕ × Option ℕ) (now : List (Family × List Bool)) → subnets_left f p n ends ≡ now
    → IsExactHint hint (index_count ends) → IsExactHint hint (length now)
exact_hint ends f p n hint now view is =
    let same : index_count ends ≡ length now = sym (length-left f p n ends) ∙ ap length view in
    rw (sym same) is

pub hint_low : (hint : ℕ × Option ℕ) (m : ℕ) → IsExactHint hint m → hint.0 ≤ m
hint_low hint m is = omega (arith, is.0)

pub hint_high : (low m : ℕ) (high : Option ℕ) → IsExactHint (low, high) m → IfSome high (UpTo (at_most m))
hint_high low m None is = tt
hint_high low m (Some k) is = (tt, omega (arith, is.1))

pub progress_back : {X A : Type 0} (view : A → X) {can : List X → Type 0} → ((s : List X) → can s) → (s t : List X) (r : Option A)
    → MatchOption r ((s ≡ []) × (t ≡ [])) (λ x. s ≡ t ++ view x ∷ []) → MakesProgress can (item_count (λ (s : List X). s)) s r t
progress_back view can s t None h = record { on = λ _. tt; keeps = tt; rests = λ _. tt }
progress_back view can s t (Some x) h =
    record { on = λ _. (can t, tt, omega (arith, ap length h, length-append t (view x ∷ []))); keeps = can t; rests = λ _. tt }

-- ---- without the first m
drop_range : (m a n : ℕ) → m ≤ n → drop m (range_with_len a n) ≡ range_with_len (a + m) (n - m)
drop_range zero a n h = let e : a ≡ a + 0 = omega arith in let k : n ≡ n - 0 = omega arith in ap₂ range_with_len e k
drop_range (suc m) a zero h = absurd (omega arith)
drop_range (suc m) a (suc n) h =
    let e : a + 1 + m ≡ a + suc m = omega arith in
    let k : n - m ≡ suc n - suc m = omega arith in
    drop_range m (a + 1) n (omega arith) ∙ ap₂ range_with_len e k

module _ (f : Family) (p : List Bool) (n : ℕ) (ends : Option (ℕ × ℕ)) (m : ℕ) (now : List (Family × List Bool)) (view : subnets_left f p n ends ≡ now) where
  pub skips_some : (a b : ℕ) → IfSome ends (λ e. (e.0 ≤ e.1) × (e.1 < 2 ^ (n - length p))) → ends ≡ Some (a, b) → m ≤ b - a
      → subnets_left f p n (Some (a + m, b)) ≡ drop m now
  skips_some a b inv was few =
      let low : (a ≤ b) × (b < 2 ^ (n - length p)) = rw was at inv in
      let least = low.0 in
      let rest : b + 1 - a - m ≡ b + 1 - (a + m) = omega arith in
      sym (ap (drop m) (sym view ∙ ap (subnets_left f p n) was) ∙ drop-map (at f p n) m (range_with_len a (b + 1 - a))
      ∙ ap (map (at f p n)) (drop_range m a (b + 1 - a) (omega arith)) ∙ ap (λ k. subnets_from f p n (a + m) k) rest)

  pub skips_all : index_count ends ≤ m → [] ≡ drop m now
  skips_all few = sym (drop_all m now (omega (arith, ap length view, length-left f p n ends)))

pub count_some : (ends : Option (ℕ × ℕ)) (a b m : ℕ) → ends ≡ Some (a, b) → b - a < m → index_count ends ≤ m
count_some ends a b m e h = rw e (omega arith)

pub count_none : (ends : Option (ℕ × ℕ)) (m : ℕ) → ends ≡ None → index_count ends ≤ m
count_none ends m e = rw e (omega arith)

pub nth_given : {X A : Type 0} (view : A → X) (m : ℕ) (old mid new : List X) (r : Option A) → mid ≡ drop m old
    → MatchOption r ((mid ≡ []) × (new ≡ [])) (λ x. mid ≡ view x ∷ new) → MatchOption r ((length old ≤ m) × (new ≡ [])) (λ x. drop m old ≡ view x ∷ new)
nth_given view m old mid new None e h = (omega (arith, ap length (sym e ∙ h.0), length-drop m old), h.1)
nth_given view m old mid new (Some x) e h = sym e ∙ h
