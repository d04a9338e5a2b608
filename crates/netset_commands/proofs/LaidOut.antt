-- Networks that come one after the other, as the layouts of both families have them.
use Rattle.std.proofs.Common.{◌≡◌, refl, sym, ◌∙◌, ap, ap₂, subst, ℕ, ◌^◌, ◌-◌, Bool, true, false, List, [], ◌∷◌, ◌++◌, length, take, drop, map, append_assoc, append-nil, Option, Some, None, Result, Ok, Err, nat_lt, cond}
use Rattle.std.specs.List.{flat_map, range_with_len}
use Rattle.std.proofs.lemmas.List.{take-append-drop}
use Rattle.std.proofs.lemmas.List.Concat.{flat_map-append}
use Rattle.cidr.specs.either.IpNetwork.{network_family, network_prefix}
use Rattle.cidr.specs.model.Bits.{bits}
use Rattle.cidr.specs.model.Network.{width_of}
use Rattle.cidr.specs.declared.cidr.combined.IpCidr.{IpCidr}
use Rattle.cidr.specs.declared.cidr.combined.IpCidr.TheVariants.{V4, V6}
use Rattle.cidr.specs.declared.family.Family.{Family}
use Rattle.cidr.specs.declared.family.Family.TheVariants.{Ipv4, Ipv6}
use Rattle.cidr_ext.specs.model.Subnets.{subnets_of}
use Rattle.cidr_io.proofs.Chains.{part_more}
use Rattle.cidr_io.proofs.Collected.{collected_more}
use Rattle.cidr_io.specs.Collecting.{Collects}
use Rattle.cidr_io.specs.Writing.{State, Answered, Part, Writes}
use Rattle.cidr_io.specs.declared.sink.OutputFailed.{OutputFailed}
use Rattle.cidr_lists.specs.Formats.{Layout, Style, before_next, either_by, laid_out, last_row, later_rows, layout_of, lines_alone, network_by, of_family, printed_walk, row, subnet_line, walk_layout}
use Rattle.netset_commands.specs.Free.{TakesLayout, TakesRows, all_before, inside_of, last_behind, less, pair_of, taken}
use Rattle.netset_commands.proofs.Blocks.{line_lost, line_written}
use Rattle.netset_commands.proofs.Taken.{Walk, taken_both}

-- ---- one family
module _ (layout : Layout) where
  later : (x : Family × List Bool) (xs : Walk) → row either_by layout x ++ (later_rows either_by layout xs ++ layout.tail)
      ≡ all_before (before_next layout) (Some x) xs ++ last_row layout (last_behind (Some x) xs)
  later x [] = refl
  later x (y ∷ ys) =
      let here : List ℕ = row either_by layout x in
      let next : List ℕ = row either_by layout y in
      let more : List ℕ = later_rows either_by layout ys in
      let front : List ℕ = all_before (before_next layout) (Some y) ys in
      let closing : List ℕ = last_row layout (last_behind (Some y) ys) in
      ap (λ (k : List ℕ). here ++ k) (append_assoc (layout.between ++ next) more layout.tail ∙ append_assoc layout.between next (more ++ layout.tail))
      ∙ (ap (λ (k : List ℕ). here ++ (layout.between ++ k)) (later y ys)
      ∙ (sym (append_assoc here layout.between (front ++ closing)) ∙ sym (append_assoc (here ++ layout.between) front closing)))

  laid_same : (xs : Walk) → all_before (before_next layout) None xs ++ last_row layout (last_behind None xs) ≡ laid_out either_by layout xs
  laid_same [] = refl
  laid_same (x ∷ xs) =
      append_assoc layout.head (all_before (before_next layout) (Some x) xs) (last_row layout (last_behind (Some x) xs))
      ∙ ap (λ (k : List ℕ). layout.head ++ k) (sym (later x xs))

  module _ (most left : Option ℕ) (last : Option IpCidr) (all : Walk) (s t u : State) (b c d : List ℕ) where
    whole_text : pair_of last ≡ last_behind None (taken most all)
        → all_before (before_next layout) None (taken most all) ++ last_row layout (pair_of last) ≡ laid_out either_by layout (taken most all)
    whole_text stands =
        ap (λ (k : Option (Family × List Bool)). all_before (before_next layout) None (taken most all) ++ last_row layout k) stands ∙ laid_same (taken most all)

    pub layout_taken : TakesRows (before_next layout) most None all s t b c (Ok (left, last)) → Collects t u c d (last_row layout (pair_of last)) (Ok tt)
        → TakesLayout layout most all s u b d (Ok left)
    layout_taken (front, is, stands) more = (
      subst (λ (k : List ℕ). Collects s u b d k (Ok tt)) (whole_text stands)
          (collected_more s t u b c d (all_before (before_next layout) None (taken most all)) (last_row layout (pair_of last)) (Ok tt) front more),
      is,
    )

    pub layout_end_lost : (e : OutputFailed) → TakesRows (before_next layout) most None all s t b c (Ok (left, last)) → Part t u (c ++ last_row layout (pair_of last))
        → TakesLayout layout most all s u b d (Err e)
    layout_end_lost e (front, is, stands) part =
        subst (λ (k : List ℕ). Part s u (b ++ k)) (whole_text stands)
        (collected_more s t u b c d (all_before (before_next layout) None (taken most all)) (last_row layout (pair_of last)) (Err e) front part)

  pub layout_lost : (most : Option ℕ) (all : Walk) (s t : State) (b c d : List ℕ) (e : OutputFailed)
      → TakesRows (before_next layout) most None all s t b c (Err e) → TakesLayout layout most all s t b d (Err e)
  layout_lost most all s t b c d e part =
      let front : List ℕ = all_before (before_next layout) None (taken most all) in
      let closing : List ℕ = last_row layout (last_behind None (taken most all)) in
      subst (λ (k : List ℕ). Part s t k) (append_assoc b front closing ∙ ap (λ (k : List ℕ). b ++ k) (laid_same (taken most all))) (part_more s t (b ++ front) closing part)

-- ---- a network a line
later_lines : (xs : Walk) → later_rows either_by lines_alone xs ≡ flat_map subnet_line xs
later_lines [] = refl
later_lines ((family, p) ∷ xs) = ap (λ (k : List ℕ). subnet_line (family, p) ++ k) (later_lines xs)

all_lines : (xs : Walk) → laid_out either_by lines_alone xs ≡ flat_map subnet_line xs
all_lines [] = refl
all_lines ((family, p) ∷ xs) = ap (λ (k : List ℕ). subnet_line (family, p) ++ k) (append-nil (later_rows either_by lines_alone xs) ∙ later_lines xs)

-- ---- networks of one family
abbrev AreOf : Family → Walk → Type 0
AreOf family [] = Unit {0}
AreOf family (q ∷ qs) = (q.0 ≡ family) × AreOf family qs

of_front : (family : Family) (xs ys : Walk) → AreOf family (xs ++ ys) → AreOf family xs
of_front family [] ys h = tt
of_front family (x ∷ xs) ys h = (h.0, of_front family xs ys h.1)

of_both : (family : Family) (xs ys : Walk) → AreOf family xs → AreOf family ys → AreOf family (xs ++ ys)
of_both family [] ys h k = k
of_both family (x ∷ xs) ys h k = (h.0, of_both family xs ys h.1 k)

of_taken : (family : Family) (most : Option ℕ) (xs : Walk) → AreOf family xs → AreOf family (taken most xs)
of_taken family None xs h = h
of_taken family (Some m) xs h = of_front family (take m xs) (drop m xs) (subst (AreOf family) (sym (take-append-drop m xs)) h)

of_numbered : (family : Family) (f : ℕ → List Bool) (is : List ℕ) → AreOf family (map (λ i. (family, f i)) is)
of_numbered family f [] = tt
of_numbered family f (i ∷ is) = (refl, of_numbered family f is)

of_unless : (family : Family) (b : Bool) (xs : Walk) → AreOf family xs → AreOf family (cond b [] xs)
of_unless family true xs h = tt
of_unless family false xs h = h

of_inside : (n : ℕ) (network : IpCidr) → AreOf (network_family network) (inside_of n network)
of_inside n network =
    let family = network_family network in
    let p = network_prefix network in
    of_unless family (nat_lt n (length p)) (cond (nat_lt (width_of family) n) [] (subnets_of family p n))
    (of_unless family (nat_lt (width_of family) n) (subnets_of family p n)
    (of_numbered family (λ i. p ++ bits (n - length p) i) (range_with_len 0 (2 ^ (n - length p)))))

of_each : {C : Type 0} (family : Family) (of : C → Walk) → ((x : C) → AreOf family (of x)) → (xs : List C) → AreOf family (flat_map of xs)
of_each family of h [] = tt
of_each family of h (x ∷ xs) = of_both family (of x) (flat_map of xs) (h x) (of_each family of h xs)

-- those of the other family are none
none_of_four : (xs : Walk) → AreOf Ipv6 xs → flat_map (of_family Ipv4) xs ≡ []
none_of_four [] h = refl
none_of_four ((Ipv4, p) ∷ xs) h = let apart : Ipv4 ≡ Ipv6 = h.0 in cc
none_of_four ((Ipv6, p) ∷ xs) h = none_of_four xs h.1

none_of_six : (xs : Walk) → AreOf Ipv4 xs → flat_map (of_family Ipv6) xs ≡ []
none_of_six [] h = refl
none_of_six ((Ipv4, p) ∷ xs) h = none_of_six xs h.1
none_of_six ((Ipv6, p) ∷ xs) h = let apart : Ipv6 ≡ Ipv4 = h.0 in cc

module _ (layout : Layout) where
  later_family : (family : Family) (xs : Walk) → AreOf family xs
      → later_rows either_by layout xs ≡ later_rows (λ notation p. network_by notation family p) layout (flat_map (of_family family) xs)
  later_family family [] h = refl
  later_family Ipv4 ((Ipv4, p) ∷ xs) h = ap (λ (k : List ℕ). (layout.between ++ row either_by layout (Ipv4, p)) ++ k) (later_family Ipv4 xs h.1)
  later_family Ipv4 ((Ipv6, p) ∷ xs) h = let apart : Ipv6 ≡ Ipv4 = h.0 in cc
  later_family Ipv6 ((Ipv4, p) ∷ xs) h = let apart : Ipv4 ≡ Ipv6 = h.0 in cc
  later_family Ipv6 ((Ipv6, p) ∷ xs) h = ap (λ (k : List ℕ). (layout.between ++ row either_by layout (Ipv6, p)) ++ k) (later_family Ipv6 xs h.1)

  laid_family : (family : Family) (xs : Walk) → AreOf family xs
      → laid_out either_by layout xs ≡ laid_out (λ notation p. network_by notation family p) layout (flat_map (of_family family) xs)
  laid_family family [] h = refl
  laid_family Ipv4 ((Ipv4, p) ∷ xs) h = ap (λ (k : List ℕ). layout.head ++ (row either_by layout (Ipv4, p) ++ (k ++ layout.tail))) (later_family Ipv4 xs h.1)
  laid_family Ipv4 ((Ipv6, p) ∷ xs) h = let apart : Ipv6 ≡ Ipv4 = h.0 in cc
  laid_family Ipv6 ((Ipv4, p) ∷ xs) h = let apart : Ipv4 ≡ Ipv6 = h.0 in cc
  laid_family Ipv6 ((Ipv6, p) ∷ xs) h = ap (λ (k : List ℕ). layout.head ++ (row either_by layout (Ipv6, p) ++ (k ++ layout.tail))) (later_family Ipv6 xs h.1)

-- ---- both families
walk_printed : (style : Option Style) (xs ys : Walk) → AreOf Ipv4 xs → AreOf Ipv6 ys
    → laid_out either_by (walk_layout style Ipv4) xs ++ laid_out either_by (walk_layout style Ipv6) ys ≡ printed_walk style (xs ++ ys)
walk_printed None xs ys h k =
    ap₂ (λ (a b : List ℕ). a ++ b) (all_lines xs) (all_lines ys) ∙ sym (flat_map-append subnet_line xs ys)
walk_printed (Some style) xs ys h k =
    let four : flat_map (of_family Ipv4) (xs ++ ys) ≡ flat_map (of_family Ipv4) xs =
    flat_map-append (of_family Ipv4) xs ys ∙ (ap (λ (l : List (List Bool)). flat_map (of_family Ipv4) xs ++ l) (none_of_four ys k) ∙ append-nil (flat_map (of_family Ipv4) xs)) in
    let six : flat_map (of_family Ipv6) (xs ++ ys) ≡ flat_map (of_family Ipv6) ys =
    flat_map-append (of_family Ipv6) xs ys ∙ ap (λ (l : List (List Bool)). l ++ flat_map (of_family Ipv6) ys) (none_of_six xs h) in
    ap₂ (λ (a b : List ℕ). a ++ b)
    (laid_family (layout_of style Ipv4) Ipv4 xs h ∙ ap (laid_out (λ notation p. network_by notation Ipv4 p) (layout_of style Ipv4)) (sym four))
    (laid_family (layout_of style Ipv6) Ipv6 ys k ∙ ap (laid_out (λ notation p. network_by notation Ipv6 p) (layout_of style Ipv6)) (sym six))

module _ (style : Option Style) (most : Option ℕ) (n : ℕ) (v4 v6 : List (List Bool)) where
  abbrev First : Walk
  First = flat_map (λ p. inside_of n (V4 p)) v4

  abbrev Second : Walk
  Second = flat_map (λ p. inside_of n (V6 p)) v6

  abbrev Text : List ℕ
  Text = printed_walk style (taken most (First ++ Second))

  both_printed : laid_out either_by (walk_layout style Ipv4) (taken most First)
      ++ laid_out either_by (walk_layout style Ipv6) (taken (less most (length First)) Second) ≡ Text
  both_printed =
      walk_printed style (taken most First) (taken (less most (length First)) Second)
      (of_taken Ipv4 most First (of_each Ipv4 (λ p. inside_of n (V4 p)) (λ p. of_inside n (V4 p)) v4))
      (of_taken Ipv6 (less most (length First)) Second (of_each Ipv6 (λ p. inside_of n (V6 p)) (λ p. of_inside n (V6 p)) v6))
      ∙ ap (printed_walk style) (sym (taken_both most First Second))

  then_printed : (left : Option ℕ) → left ≡ less most (length First)
      → laid_out either_by (walk_layout style Ipv4) (taken most First) ++ laid_out either_by (walk_layout style Ipv6) (taken left Second) ≡ Text
  then_printed left is =
      ap (λ (k : Option ℕ). laid_out either_by (walk_layout style Ipv4) (taken most First) ++ laid_out either_by (walk_layout style Ipv6) (taken k Second)) is
      ∙ both_printed

  pub inside_lost_first : (s t : State) (b d : List ℕ) (r : Result (Unit {0}) OutputFailed) (y : OutputFailed) → r ≡ Err y → s.failed ≡ false → b ≡ []
      → TakesLayout (walk_layout style Ipv4) most First s t b d (Err y) → Answered s t Text r
  inside_lost_first s t b d r y is fine none part =
      let front : List ℕ = laid_out either_by (walk_layout style Ipv4) (taken most First) in
      let rest : List ℕ = laid_out either_by (walk_layout style Ipv6) (taken (less most (length First)) Second) in
      line_lost s t b Text r y is fine none
      (subst (λ (k : List ℕ). Part s t k) (append_assoc b front rest ∙ ap (λ (k : List ℕ). b ++ k) both_printed) (part_more s t (b ++ front) rest part))

  module _ (left : Option ℕ) (s t u : State) (b c d : List ℕ) (r : Result (Unit {0}) OutputFailed) (fine : s.failed ≡ false) (none : b ≡ [])
      (first : TakesLayout (walk_layout style Ipv4) most First s t b c (Ok left)) where
    pub inside_lost_then : (y : OutputFailed) → r ≡ Err y → TakesLayout (walk_layout style Ipv6) left Second t u c d (Err y) → Answered s u Text r
    inside_lost_then y is part =
        line_lost s u b Text r y is fine none
        (subst (λ (k : List ℕ). Part s u (b ++ k)) (then_printed left first.1)
        (collected_more s t u b c d (laid_out either_by (walk_layout style Ipv4) (taken most First)) (laid_out either_by (walk_layout style Ipv6) (taken left Second)) (Err y) first.0 part))

    pub inside_written : (v : State) (last : Option ℕ) → TakesLayout (walk_layout style Ipv6) left Second t u c d (Ok last) → Writes u v d r → Answered s v Text r
    inside_written v last second wrote =
        line_written s u v b d Text r fine none
        (subst (λ (k : List ℕ). Collects s u b d k (Ok tt)) (then_printed left first.1)
        (collected_more s t u b c d (laid_out either_by (walk_layout style Ipv4) (taken most First)) (laid_out either_by (walk_layout style Ipv6) (taken left Second)) (Ok tt) first.0 second.0))
        wrote
