-- The labels of a name, read one after the other.
use Rattle.std.proofs.Common.{◌≡◌, ◌≢◌, ℕ, zero, suc, ◌+◌, ◌-◌, ◌*◌, ◌^◌, ◌<◌, ◌≤◌, Bool, List, [], ◌∷◌, ◌++◌, length, take, drop, map, reverse, refl, sym, ap, ap₂, ◌∙◌, arith, Option, Some, append_assoc, take-append-drop, length-drop}
use Rattle.std.proofs.Math.Pow.{pow_mono}
use Rattle.std.proofs.lemmas.Bool.Decides.{nat_tests}
use Rattle.std.proofs.lemmas.List.{append_cancel_left, length-take-le, length-map, map-append, nil_from_length, reverse-append}
use Rattle.std.specs.Char.{digit_char, to_ascii_lowercase}
use Rattle.cidr.specs.model.Address.{parts_of}
use Rattle.cidr.specs.model.Bits.{bits, number}
use Rattle.cidr.specs.laws.BitLaws.{length-bits, number-bits, number-append, number-lt, bits-cat}
use Rattle.cidr.specs.texts.Ipv4Text.{dot}
use Rattle.cidr.specs.declared.family.Family.{Family}
use Rattle.cidr.specs.declared.family.Family.TheVariants.{Ipv4, Ipv6}
use Rattle.cidr_ext.specs.texts.Reverse.{label_width, label_text, labels_text}
use Rattle.cidr_ext.specs.internal.LabelReading.{IsFirstLabel, NoFirstLabel, HasLabels}
use Rattle.cidr_ext.proofs.Labels.{parts_of-more}
use Rattle.cidr_ext.proofs.OctetLabels.{same_octet, lower_decimal}

wider : (f : Family) (k : ℕ) → label_width f * (k + 1) ≡ label_width f * k + label_width f
wider Ipv4 k = omega arith
wider Ipv6 k = omega arith

narrower : (f : Family) (k m : ℕ) → k ≤ m → label_width f * m ≤ 128 → label_width f * k ≤ 128
narrower Ipv4 k m h e = omega arith
narrower Ipv6 k m h e = omega arith

-- the labels of a network, the last one apart
more : (f : Family) (k : ℕ) (p q : List Bool) → length p ≡ label_width f * k → length q ≡ label_width f
    → labels_text f (reverse (parts_of (label_width f) (suc k) (p ++ q))) ≡ label_text f (number q) ++ dot ∷ labels_text f (reverse (parts_of (label_width f) k p))
more f k p q size last =
    let w = label_width f in
    ap (λ l. labels_text f (reverse l)) (parts_of-more w k p q size last)
    ∙ ap (labels_text f) (reverse-append (parts_of w k p) (number q ∷ []))
    ∙ append_assoc (label_text f (number q)) (dot ∷ []) (labels_text f (reverse (parts_of w k p)))

-- ---- no labels
pub none_empty : (f : Family) (text : List ℕ) → length text ≡ 0 → HasLabels f 0 text (bits (label_width f * 0) 0)
unfolding parts_of
none_empty f text h =
    let none : text ≡ [] = nil_from_length text h in
    (length-bits (label_width f * 0) 0, rw none refl)

none_only : (f : Family) (text : List ℕ) (network : List Bool) → HasLabels f 0 text network → (length text ≡ 0) × (number network ≡ 0)
unfolding parts_of number
none_only f text network (size, is) =
    let flat : label_width f * 0 ≡ 0 = omega arith in
    let none : network ≡ [] = nil_from_length network (size ∙ flat) in
    (sym (length-map text to_ascii_lowercase) ∙ ap length is, ap number none)

-- ---- one label more
apart : (f : Family) (k : ℕ) (network : List Bool) → length network ≡ label_width f * suc k
    → (p q : List Bool) × (length p ≡ label_width f * k) × (length q ≡ label_width f) × (network ≡ p ++ q)
    × (labels_text f (reverse (parts_of (label_width f) (suc k) network)) ≡ label_text f (number q) ++ dot ∷ labels_text f (reverse (parts_of (label_width f) k p)))
apart f k network size =
    let w = label_width f in
    let wide : length network ≡ w * k + w = size ∙ ap (λ c. w * c) (let e : suc k ≡ k + 1 = omega arith in e) ∙ wider f k in
    let p = take (w * k) network in
    let q = drop (w * k) network in
    let sp : length p ≡ w * k = length-take-le (w * k) network (omega arith) in
    let sq : length q ≡ w = omega (arith, length-drop (w * k) network) in
    let whole : network ≡ p ++ q = sym (take-append-drop (w * k) network) in
    (p, q, sp, sq, whole, ap (λ n. labels_text f (reverse (parts_of w (suc k) n))) whole ∙ more f k p q sp sq)

last_apart : (f : Family) (k : ℕ) (text : List ℕ) (network : List Bool) → HasLabels f (suc k) text network
    → (p q : List Bool) × (length p ≡ label_width f * k) × (length q ≡ label_width f) × (network ≡ p ++ q)
    × (map to_ascii_lowercase text ≡ label_text f (number q) ++ dot ∷ labels_text f (reverse (parts_of (label_width f) k p)))
last_apart f k text network (size, is) = let (p, q, sp, sq, whole, labels) = apart f k network size in (p, q, sp, sq, whole, is ∙ labels)

-- what is printed is in lower case
lower_digit : (n : ℕ) → n < 16 → to_ascii_lowercase (digit_char n) ≡ digit_char n
lower_digit n h = grind (arith, nat_tests)

lower_label : (f : Family) (n : ℕ) → n < 2 ^ label_width f → map to_ascii_lowercase (label_text f n) ≡ label_text f n
lower_label Ipv4 n h = lower_decimal n h
lower_label Ipv6 n h = ap (λ x. x ∷ []) (lower_digit n h)

pub lower_labels : (f : Family) (k : ℕ) (network : List Bool) → length network ≡ label_width f * k
    → map to_ascii_lowercase (labels_text f (reverse (parts_of (label_width f) k network))) ≡ labels_text f (reverse (parts_of (label_width f) k network))
lower_labels f zero network size = unfold parts_of in refl
lower_labels f (suc k) network size =
    let (p, q, sp, sq, whole, labels) = apart f k network size in
    let rest = labels_text f (reverse (parts_of (label_width f) k p)) in
    ap (map to_ascii_lowercase) labels ∙ map-append to_ascii_lowercase (label_text f (number q)) (dot ∷ rest)
    ∙ ap₂ (λ x y. x ++ dot ∷ y) (lower_label f (number q) (rw (sym sq) (number-lt q))) (lower_labels f k p sp) ∙ sym labels

same_digit : (n m : ℕ) → n < 16 → m < 16 → digit_char n ≡ digit_char m → n ≡ m
same_digit n m hn hm e = grind (arith, nat_tests)

same_label : (f : Family) (text : List ℕ) (n m : ℕ) (xs ys : List ℕ) → n < 2 ^ label_width f → m < 2 ^ label_width f
    → map to_ascii_lowercase text ≡ label_text f n ++ dot ∷ xs → map to_ascii_lowercase text ≡ label_text f m ++ dot ∷ ys → n ≡ m
same_label Ipv4 text n m xs ys hn hm en em = same_octet text n m xs ys hn hm en em
same_label Ipv6 text n m xs ys hn hm en em =
    let both : digit_char n ∷ dot ∷ xs ≡ digit_char m ∷ dot ∷ ys = sym en ∙ em in
    let first : digit_char n ≡ digit_char m = cc in
    same_digit n m hn hm first

behind_label : (f : Family) (n : ℕ) (xs ys : List ℕ) → label_text f n ++ dot ∷ xs ≡ label_text f n ++ dot ∷ ys → xs ≡ ys
behind_label f n xs ys e = let same : dot ∷ xs ≡ dot ∷ ys = append_cancel_left (label_text f n) (dot ∷ xs) (dot ∷ ys) e in cc

-- the first label of a string that has them, and what follows it
first_known : (f : Family) (text rest : List ℕ) (n k : ℕ) (q p : List Bool) → IsFirstLabel f text n rest → length q ≡ label_width f
    → length p ≡ label_width f * k
    → map to_ascii_lowercase text ≡ label_text f (number q) ++ dot ∷ labels_text f (reverse (parts_of (label_width f) k p))
    → (n ≡ number q) × HasLabels f k rest p
first_known f text rest n k q p (fits, first) sq sp is =
    let small : number q < 2 ^ label_width f = rw (sym sq) (number-lt q) in
    let same : n ≡ number q = same_label f text n (number q) _ _ fits small first is in
    let tail = behind_label f (number q) _ _ (ap (λ x. label_text f x ++ dot ∷ map to_ascii_lowercase rest) (sym same) ∙ sym first ∙ is) in
    (same, (sp, tail))

-- ---- as a program reads them
module _ (f : Family) (text : List ℕ) (room : ℕ) where
  pub empty_only : length text ≡ 0 → (count : ℕ) (network : List Bool) → count ≤ room → HasLabels f count text network
      → ◌≡◌ {A = Option (ℕ × ℕ)} (Some (0, 0)) (Some (number network, count))
  empty_only h zero network within has = ap (λ n. Some (n, 0)) (sym (none_only f text network has).1)
  empty_only h (suc k) network within has =
      let (p, q, sp, sq, whole, is) = last_apart f k text network has in
      let none : text ≡ [] = nil_from_length text h in
      let sizes : 0 ≡ length (label_text f (number q) ++ dot ∷ labels_text f (reverse (parts_of (label_width f) k p))) =
      ap (λ t. length (map to_ascii_lowercase t)) (sym none) ∙ ap length is in
      absurd (some (label_text f (number q)) _ (sym sizes))
    where
      some : (xs ys : List ℕ) → length (xs ++ dot ∷ ys) ≡ 0 → ⊥
      some [] ys e = omega arith
      some (x ∷ xs) ys e = omega arith

  pub no_room : length text ≢ 0 → room < 1 → (count : ℕ) (network : List Bool) → count ≤ room → ¬ (HasLabels f count text network)
  no_room some full zero network within has = some (none_only f text network has).0
  no_room some full (suc k) network within has = omega arith

  pub no_label : length text ≢ 0 → NoFirstLabel f text → (count : ℕ) (network : List Bool) → count ≤ room → ¬ (HasLabels f count text network)
  no_label some none zero network within has = some (none_only f text network has).0
  no_label some none (suc k) network within has =
      let (p, q, sp, sq, whole, is) = last_apart f k text network has in
      none (number q) _ (rw (sym sq) (number-lt q)) is

  module _ (some : length text ≢ 0) (less n : ℕ) (rest : List ℕ) (left : less ≡ room - 1) (pos : 1 ≤ room) (first : IsFirstLabel f text n rest) where
    pub no_rest : ((count : ℕ) (network : List Bool) → count ≤ less → ¬ (HasLabels f count rest network))
        → (count : ℕ) (network : List Bool) → count ≤ room → ¬ (HasLabels f count text network)
    no_rest none zero network within has = some (none_only f text network has).0
    no_rest none (suc k) network within has =
        let (p, q, sp, sq, whole, is) = last_apart f k text network has in
        none k p (omega arith) (first_known f text rest n k q p first sq sp is).1

    module _ (m c r : ℕ) (sum : r ≡ m * 2 ^ label_width f + n) where
      pub only_one : ((count : ℕ) (network : List Bool) → count ≤ less → HasLabels f count rest network
          → ◌≡◌ {A = Option (ℕ × ℕ)} (Some (m, c)) (Some (number network, count)))
          → (count : ℕ) (network : List Bool) → count ≤ room → HasLabels f count text network → ◌≡◌ {A = Option (ℕ × ℕ)} (Some (r, c + 1)) (Some (number network, count))
      only_one only zero network within has = absurd (some (none_only f text network has).0)
      only_one only (suc k) network within has =
          let (p, q, sp, sq, whole, is) = last_apart f k text network has in
          let (same, labels) = first_known f text rest n k q p first sq sp is in
          let found : ◌≡◌ {A = Option (ℕ × ℕ)} (Some (m, c)) (Some (number p, k)) = only k p (omega arith) labels in
          let pair : ◌≡◌ {A = ℕ × ℕ} (m, c) (number p, k) = cc in
          let value : m ≡ number p = ap (λ x. x.0) pair in
          let many : c ≡ k = ap (λ x. x.1) pair in
          let next : c + 1 ≡ suc k = omega arith in
          let total : r ≡ number network =
          sum ∙ ap₂ (λ x y. x * 2 ^ label_width f + y) value same ∙ ap (λ w. number p * 2 ^ w + number q) (sym sq) ∙ sym (number-append p q) ∙ ap number (sym whole) in
          ap₂ (λ x y. Some (x, y)) total next

      module _ (within : c ≤ less) (small : m < 2 ^ (label_width f * c)) (has : HasLabels f c rest (bits (label_width f * c) m)) where
        front : List Bool
        front = bits (label_width f * c) m

        back : List Bool
        back = bits (label_width f) n

        joined : bits (label_width f * (c + 1)) r ≡ front ++ back
        unfolding front back
        joined =
            ap₂ bits (wider f c) sum ∙ bits-cat (label_width f * c) (label_width f) m n first.0

        value_of : number (front ++ back) ≡ r
        unfolding front back
        value_of =
            number-append front back
            ∙ ap₂ (λ x y. x + y) (ap₂ (λ x k. x * 2 ^ k) (number-bits (label_width f * c) m small) (length-bits (label_width f) n)) (number-bits (label_width f) n first.0) ∙ sym sum

        size_of : length (front ++ back) ≡ label_width f * (c + 1)
        size_of = ap length (sym joined) ∙ length-bits (label_width f * (c + 1)) r

        pub fits_one : r < 2 ^ (label_width f * (c + 1))
        fits_one = rw (sym value_of, sym size_of) (number-lt (front ++ back))

        pub found_one : (c + 1 ≤ room) × (r < 2 ^ (label_width f * (c + 1))) × HasLabels f (c + 1) text (bits (label_width f * (c + 1)) r)
        unfolding front back
        found_one =
            let next : c + 1 ≡ suc c = omega arith in (
              omega arith,
              fits_one,
              (
                length-bits (label_width f * (c + 1)) r,
                first.1 ∙ ap₂ (λ x t. label_text f x ++ dot ∷ t) (sym (number-bits (label_width f) n first.0)) has.1
                    ∙ sym (more f c front back (length-bits (label_width f * c) m) (length-bits (label_width f) n))
                    ∙ ap₂ (λ k b. labels_text f (reverse (parts_of (label_width f) k b))) (sym next) (sym joined),
              ),
            )

  pub sum_fits : (m c n less : ℕ) → n < 2 ^ label_width f → label_width f * room ≤ 128 → less ≡ room - 1 → 1 ≤ room → c ≤ less → m < 2 ^ (label_width f * c)
      → m * 2 ^ label_width f + n < 2 ^ 128
  sum_fits m c n less small within left pos few value =
      let w = label_width f in
      let cat = bits (w * c) m ++ bits w n in
      let total : number cat ≡ m * 2 ^ w + n =
      number-append (bits (w * c) m) (bits w n) ∙ ap₂ (λ x y. x + y) (ap₂ (λ x k. x * 2 ^ k) (number-bits (w * c) m value) (length-bits w n)) (number-bits w n small) in
      let size : length cat ≡ w * (c + 1) = ap length (sym (bits-cat (w * c) w m n small)) ∙ length-bits (w * c + w) (m * 2 ^ w + n) ∙ sym (wider f c) in
      let below : number cat < 2 ^ length cat = number-lt cat in
      let high : length cat ≤ 128 = (let e = narrower f (c + 1) room (omega arith) within in omega arith) in
      let top : 2 ^ length cat ≤ 2 ^ 128 = pow_mono high in
      omega arith
