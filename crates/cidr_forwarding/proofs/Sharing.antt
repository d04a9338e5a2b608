-- Bits that lists share: those of the first row and the last one are those of all rows between.
use Rattle.std.proofs.Common.{◌≡◌, ℕ, zero, suc, ◌+◌, ◌-◌, ◌<◌, ◌≤◌, Bool, true, false, List, [], ◌∷◌, ◌++◌, length, get_or, take, drop, Option, Some, refl, sym, ap, ap₂, ◌∙◌, subst, arith, append-nil, append_assoc, length-append, length-take-le, drop-drop}
use Rattle.std.proofs.Math.Seq.{take-append_seam}
use Rattle.std.proofs.lemmas.List.{take-append-drop}
use Rattle.std.specs.List.{AllByRecursion}
use Rattle.std.specs.List.Sorted.{IsStrictlySortedBy}
use Rattle.std.specs.Map.{keys_of}
use Rattle.std.specs.declared.cmp.Ordering.TheVariants.{Less}
use Rattle.cidr.specs.model.Bits.{bit_cmp}
use Rattle.cidr.specs.model.Network.{BeginsWith}
use Rattle.cidr.specs.model.BitString.{IsSharedLength}
use Rattle.cidr_forwarding.specs.Trees.{under, AllFitWidth, common, last_key, sharing}
use Rattle.cidr_forwarding.specs.Plans.{tails, IsNode, AreOf, AreOfOne, behind}
use Rattle.cidr_forwarding.proofs.Order.{Ascend}
use Rattle.cidr_forwarding.proofs.Passes.{ascend_high, ascend_parts}
use Rattle.cidr_forwarding.proofs.Placing.{under_behind, behind_nothing, of_at}

-- ---- two lists
common_take : (a k : List Bool) (m : ℕ) → m ≤ common a k → take m k ≡ take m a
common_take a k zero h = refl
common_take [] k (suc m) h = absurd (omega arith)
common_take (x ∷ a) [] (suc m) h = absurd (omega arith)
common_take (false ∷ a) (false ∷ k) (suc m) h = ap (λ l. false ∷ l) (common_take a k m (omega arith))
common_take (false ∷ a) (true ∷ k) (suc m) h = absurd (omega arith)
common_take (true ∷ a) (false ∷ k) (suc m) h = absurd (omega arith)
common_take (true ∷ a) (true ∷ k) (suc m) h = ap (λ l. true ∷ l) (common_take a k m (omega arith))

common_fits : (a k : List Bool) → common a k ≤ length a
common_fits [] k = omega arith
common_fits (x ∷ a) [] = omega arith
common_fits (false ∷ a) (false ∷ k) = let e = common_fits a k in omega (arith, e)
common_fits (false ∷ a) (true ∷ k) = omega arith
common_fits (true ∷ a) (false ∷ k) = omega arith
common_fits (true ∷ a) (true ∷ k) = let e = common_fits a k in omega (arith, e)

common_behind : (s p q : List Bool) → common (s ++ p) (s ++ q) ≡ length s + common p q
common_behind [] p q = omega arith
common_behind (false ∷ s) p q = let e = common_behind s p q in omega (arith, e)
common_behind (true ∷ s) p q = let e = common_behind s p q in omega (arith, e)

begins_common : (p q s : List Bool) → BeginsWith p s → BeginsWith q s → length s ≤ common p q
begins_common p q [] h k = omega arith
begins_common [] q (x ∷ s) h k = absurd (cc)
begins_common (y ∷ p) [] (x ∷ s) h k = absurd (cc)
begins_common (false ∷ p) (false ∷ q) (x ∷ s) h k = let e = begins_common p q s (ap (drop 1) h) (ap (drop 1) k) in omega (arith, e)
begins_common (false ∷ p) (true ∷ q) (x ∷ s) h k = absurd (cc)
begins_common (true ∷ p) (false ∷ q) (x ∷ s) h k = absurd (cc)
begins_common (true ∷ p) (true ∷ q) (x ∷ s) h k = let e = begins_common p q s (ap (drop 1) h) (ap (drop 1) k) in omega (arith, e)

common_is : (p q : List Bool) (n : ℕ) → IsSharedLength p q n → common p q ≡ n
common_is p q n h =
    let m = common p q in
    let len : length (take m p) ≡ m = length-take-le m p (common_fits p q) in
    let least = h.longest (take m p) (ap (λ i. take i p) len) (ap (λ i. take i q) len ∙ common_take p q m (omega arith)) in
    let most = begins_common p q h.shared.0 h.shared.2 h.shared.3 in
    omega (arith, len, least, most, h.shared.1)

-- a list between two shares with the first one what both do
between : (a k b : List Bool) → bit_cmp a k ≡ Less → bit_cmp k b ≡ Less → common a b ≤ common a k
between [] k b h l = omega arith
between (x ∷ a) [] b h l = absurd (cc)
between (x ∷ a) (y ∷ k) [] h l = omega arith
between (false ∷ a) (false ∷ k) (false ∷ b) h l = let e = between a k b h l in omega (arith, e)
between (false ∷ a) (false ∷ k) (true ∷ b) h l = omega arith
between (false ∷ a) (true ∷ k) (false ∷ b) h l = absurd (cc)
between (false ∷ a) (true ∷ k) (true ∷ b) h l = omega arith
between (true ∷ a) (false ∷ k) (z ∷ b) h l = absurd (cc)
between (true ∷ a) (true ∷ k) (false ∷ b) h l = absurd (cc)
between (true ∷ a) (true ∷ k) (true ∷ b) h l = let e = between a k b h l in omega (arith, e)

-- ---- rows that ascend
module _ {X : Type 0} where
  abbrev Above : List Bool → List (List Bool × X) → Type 0
  Above p rows = AllByRecursion (λ q. bit_cmp p q ≡ Less) (keys_of rows)

  above_last : (p : List Bool) (s : List Bool × X) (rows : List (List Bool × X)) → Above p (s ∷ rows) → bit_cmp p (last_key s.0 rows) ≡ Less
  above_last p s [] h = h.0
  above_last p s (r ∷ rows) h = above_last p r rows h.1

  all_share : (a : List Bool) (r : List Bool × X) (rows : List (List Bool × X)) → Above a (r ∷ rows) → Ascend (r ∷ rows)
      → AllByRecursion (λ (q : List Bool × X). common a (last_key r.0 rows) ≤ common a q.0) (r ∷ rows)
  unfolding IsStrictlySortedBy
  all_share a r [] h s = (omega arith, tt)
  all_share a r (t ∷ rows) h s = (between a r.0 (last_key t.0 rows) h.0 (above_last r.0 t rows s.0), all_share a t rows h.1 s.1)

  takes_of : (a : List Bool) (m b : ℕ) → m ≤ b → (rows : List (List Bool × X)) → AllByRecursion (λ (q : List Bool × X). b ≤ common a q.0) rows
      → AllByRecursion (λ (q : List Bool × X). take m q.0 ≡ take m a) rows
  takes_of a m b h [] k = tt
  takes_of a m b h (r ∷ rows) k = (common_take a r.0 m (omega (arith, h, k.0)), takes_of a m b h rows k.1)

  abbrev pub first_key : List (List Bool × X) → List Bool
  first_key [] = []
  first_key (r ∷ rows) = r.0

  -- all have the first m bits of the first one
  pub begin_alike : (rows : List (List Bool × X)) (m : ℕ) → Ascend rows → m ≤ sharing rows
      → AllByRecursion (λ (q : List Bool × X). take m q.0 ≡ take m (first_key rows)) rows
  unfolding IsStrictlySortedBy
  begin_alike [] m s h = tt
  begin_alike (r ∷ []) m s h = (refl, tt)
  begin_alike (r ∷ (t ∷ rows)) m s h = (refl, takes_of r.0 m (common r.0 (last_key t.0 rows)) h (t ∷ rows) (all_share r.0 t rows s.0 s.1))

  pub sharing_fits : (rows : List (List Bool × X)) → sharing rows ≤ length (first_key rows)
  sharing_fits [] = omega arith
  sharing_fits (r ∷ rows) = common_fits r.0 (last_key r.0 rows)

  -- ---- rows behind the same bits
  pub ascend_behind : (p : List Bool) (rows : List (List Bool × X)) → Ascend (behind p rows) → Ascend rows
  ascend_behind [] rows h = subst Ascend (behind_nothing rows) h
  ascend_behind (false ∷ p) rows h =
      let e : behind (false ∷ p) rows ≡ under false (behind p rows) ++ under true [] = sym (append-nil (under false (behind p rows)) ∙ under_behind false p rows) in
      ascend_behind p rows ((ascend_parts (behind p rows) [] (subst Ascend e h)).0)
  ascend_behind (true ∷ p) rows h = ascend_behind p rows (ascend_high (behind p rows) (subst Ascend (sym (under_behind true p rows)) h))

  pub within_behind : (p : List Bool) (w : ℕ) (rows : List (List Bool × X)) → AllFitWidth (length p + w) (behind p rows) → AllFitWidth w rows
  within_behind p w [] h = tt
  within_behind p w (r ∷ rows) h = (omega (arith, h.0, length-append p r.0), within_behind p w rows h.1)

apart_from : (q : List Bool) (d : ℕ) (p : List Bool) → length q ≡ d → take (length q) p ≡ q → p ≡ q ++ drop d p
apart_from q d p l h = sym (take-append-drop d p) ∙ ap (λ x. x ++ drop d p) (ap (λ i. take i p) (sym l) ∙ h)

-- ---- rows of a type of networks
module _ {C V : Type 0} (bits : C → List Bool) where
  last_at : (d : ℕ) (r : C × V) (rows : List (C × V)) (last : C × V) → last ≡ get_or (r ∷ rows) (length rows) last
      → last_key (drop d (bits r.0)) (tails bits d rows) ≡ drop d (bits last.0)
  last_at d r [] last e = ap (λ (x : C × V). drop d (bits x.0)) (sym e)
  last_at d r (s ∷ rows) last e = last_at d s rows last e

  shared_of_two : (d : ℕ) (rows : List (C × V)) (one : AreOfOne bits d rows) (first last : C × V) (n : ℕ) → 0 < length rows → first ≡ get_or rows 0 first
      → last ≡ get_or rows (length rows - 1) last → IsSharedLength (bits first.0) (bits last.0) n → n ≡ d + sharing (tails bits d rows)
  shared_of_two d [] one first last n some f l h = absurd (omega arith)
  shared_of_two d (r ∷ rows) one first last n some f l h =
      let q = one.0 in
      let at : length (r ∷ rows) - 1 ≡ length rows = omega arith in
      let l' : last ≡ get_or (r ∷ rows) (length rows) last = l ∙ ap (λ i. get_or (r ∷ rows) i last) at in
      let a : bits first.0 ≡ q ++ drop d (bits first.0) = apart_from q d (bits first.0) one.1 (of_at bits q (r ∷ rows) 0 first some one.2 f) in
      let b : bits last.0 ≡ q ++ drop d (bits last.0) = apart_from q d (bits last.0) one.1 (of_at bits q (r ∷ rows) (length rows) last (omega arith) one.2 l') in
      let e : common (bits first.0) (bits last.0) ≡ length q + common (drop d (bits first.0)) (drop d (bits last.0)) =
      ap₂ common a b ∙ common_behind q (drop d (bits first.0)) (drop d (bits last.0)) in
      let s : sharing (tails bits d (r ∷ rows)) ≡ common (drop d (bits first.0)) (drop d (bits last.0)) =
      ap₂ common (ap (λ (x : C × V). drop d (bits x.0)) (sym f)) (last_at d r rows last l') in
      omega (arith, common_is (bits first.0) (bits last.0) n h, e, s, one.1)

  -- as the code reads them
  pub shared_is : (d : ℕ) (rows : List (C × V)) (one : AreOfOne bits d rows) (first last : C × V) (n : ℕ) → 0 < length rows → first ≡ get_or rows 0 first
      → last ≡ get_or rows (length rows - 1) last → IsSharedLength (bits (get_or rows 0 first).0) (bits (get_or rows (length rows - 1) last).0) n
      → n ≡ d + sharing (tails bits d rows)
  shared_is d rows one first last n some f l h =
      shared_of_two d rows one (get_or rows 0 first) (get_or rows (length rows - 1) last) n some (ap (λ x. get_or rows 0 x) f) (ap (λ x. get_or rows (length rows - 1) x) l) h

  -- each row has, behind d bits, those of p, and then those from n on
  abbrev pub AllBegin : ℕ → List Bool → ℕ → List (C × V) → Type 0
  AllBegin d p n [] = Unit {0}
  AllBegin d p n (r ∷ rows) = (drop d (bits r.0) ≡ p ++ drop n (bits r.0)) × AllBegin d p n rows

  all_begin : (d m n : ℕ) (p : List Bool) (rows : List (C × V)) → n ≡ d + m → AllByRecursion (λ (q : List Bool × Option V). take m q.0 ≡ p) (tails bits d rows)
      → AllBegin d p n rows
  all_begin d m n p [] e h = tt
  all_begin d m n p (r ∷ rows) e h = (
    sym (take-append-drop m (drop d (bits r.0))) ∙ ap₂ (λ x y. x ++ y) h.0 (drop-drop m d (bits r.0) ∙ ap (λ i. drop i (bits r.0)) (sym e)),
    all_begin d m n p rows e h.1,
  )

  pub tails_behind : (d n : ℕ) (p : List Bool) (rows : List (C × V)) → AllBegin d p n rows → tails bits d rows ≡ behind p (tails bits n rows)
  tails_behind d n p [] h = refl
  tails_behind d n p (r ∷ rows) h = ap₂ (λ k l. (k, Some r.1) ∷ l) h.0 (tails_behind d n p rows h.1)

  pub of_behind : (q p : List Bool) (d n : ℕ) (rows : List (C × V)) → length q ≡ d → AreOf bits q rows → AllBegin d p n rows → AreOf bits (q ++ p) rows
  of_behind q p d n [] l h k = tt
  of_behind q p d n (r ∷ rows) l h k =
      let x = bits r.0 in
      let w : x ≡ (q ++ p) ++ drop n x = apart_from q d x l h.0 ∙ ap (λ y. q ++ y) k.0 ∙ sym (append_assoc q p (drop n x)) in
      (ap (take (length (q ++ p))) w ∙ take-append_seam (q ++ p) (drop n x), of_behind q p d n rows l h.1 k.1)

  -- the network of the bits that are shared
  module _ (d : ℕ) (rows : List (C × V)) (node : IsNode bits d rows) where
    abbrev pub more_bits : List Bool
    more_bits = take (sharing (tails bits d rows)) (first_key (tails bits d rows))

    pub length_more : length more_bits ≡ sharing (tails bits d rows)
    length_more = length-take-le (sharing (tails bits d rows)) (first_key (tails bits d rows)) (sharing_fits (tails bits d rows))

    pub more_begin : AllBegin d more_bits (d + sharing (tails bits d rows)) rows
    more_begin =
        let m = sharing (tails bits d rows) in
        all_begin d m (d + m) more_bits rows refl (begin_alike (tails bits d rows) m node.ascending (omega arith))

    pub more_tails : tails bits d rows ≡ behind more_bits (tails bits (d + sharing (tails bits d rows)) rows)
    more_tails = tails_behind d (d + sharing (tails bits d rows)) more_bits rows more_begin

    pub more_fits : d < 129 → d + sharing (tails bits d rows) ≤ 129
    more_fits s = fits rows node.within
      where
        fits : (rows : List (C × V)) → AllFitWidth (129 - d) (tails bits d rows) → d + sharing (tails bits d rows) ≤ 129
        fits [] h = omega (arith, s)
        fits (r ∷ rows) h = let e = sharing_fits (tails bits d (r ∷ rows)) in omega (arith, s, h.0, e)

    pub more_node : d < 129 → IsNode bits (d + sharing (tails bits d rows)) rows
    more_node s =
        let n = d + sharing (tails bits d rows) in
        let e : 129 - d ≡ length more_bits + (129 - n) = omega (arith, s, length_more, more_fits s) in
        record {
          ascending = ascend_behind more_bits (tails bits n rows) (subst Ascend more_tails node.ascending);
          within = within_behind more_bits (129 - n) (tails bits n rows) (subst (λ w. AllFitWidth w (behind more_bits (tails bits n rows))) e (subst (AllFitWidth (129 - d)) more_tails node.within));
        }

    pub more_of : (q : List Bool) → length q ≡ d → AreOf bits q rows → AreOf bits (q ++ more_bits) rows
    more_of q l h = of_behind q more_bits d (d + sharing (tails bits d rows)) rows l h more_begin
