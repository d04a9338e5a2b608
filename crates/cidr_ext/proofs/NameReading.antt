-- The name of a network: labels, the domain and perhaps a dot.
use Rattle.std.proofs.Common.{◌≡◌, ◌≢◌, ℕ, ◌+◌, ◌-◌, ◌/◌, ◌%◌, ◌^◌, ◌<◌, ◌≤◌, Bool, List, [], ◌∷◌, ◌++◌, length, take, drop, map, reverse, codes, refl, sym, ap, ap₂, ◌∙◌, arith, inl, inr, Option, Some, None, IfSome, append_assoc, length-append, take-append-drop, drop_at, subst}
use Rattle.std.proofs.lemmas.List.{append_cancel_right, length-map, map-append, drop-map}
use Rattle.std.specs.Char.{to_ascii_lowercase}
use Rattle.cidr.specs.model.Bits.{bits, number}
use Rattle.cidr.specs.model.Network.{width_of}
use Rattle.cidr.specs.laws.BitLaws.{length-bits}
use Rattle.cidr.specs.texts.Ipv4Text.{dot}
use Rattle.cidr.specs.declared.family.Family.{Family}
use Rattle.cidr.specs.declared.family.Family.TheVariants.{Ipv4, Ipv6}
use Rattle.cidr_ext.specs.texts.Reverse.{domain_of, label_width, labels_of, labels_text, reverse_text, EndsAtLabel, IsSameName, IsReverseAddressName, IsReverseName}
use Rattle.cidr_ext.specs.internal.LabelReading.{HasName, IsNamedBy, IsWithoutDot}
use Rattle.cidr_ext.proofs.Labels.{exact}
use Rattle.cidr_ext.proofs.LabelReading.{lower_labels}
use Rattle.cidr_ext.proofs.OctetLabels.{dot_first}

-- ---- ends of strings
last_same : (xs ys : List ℕ) (a b : ℕ) → xs ++ a ∷ [] ≡ ys ++ b ∷ [] → a ≡ b
last_same [] [] a b e = cc
last_same [] (y ∷ ys) a b e = absurd (omega (arith, ap length e, length-append ys (b ∷ [])))
last_same (x ∷ xs) [] a b e = absurd (omega (arith, ap length e, length-append xs (a ∷ [])))
last_same (x ∷ xs) (y ∷ ys) a b e = let tail : xs ++ a ∷ [] ≡ ys ++ b ∷ [] = cc in last_same xs ys a b tail

-- what is no domain stands before no domain
pub other_end : (text domain end front : List ℕ) → length domain ≤ length text → end ≡ drop (length text - length domain) text
    → map to_ascii_lowercase end ≢ map to_ascii_lowercase domain → map to_ascii_lowercase text ≢ front ++ map to_ascii_lowercase domain
other_end text domain end front within cut other e =
    let sizes : length front + length domain ≡ length text =
    omega (arith, ap length e, length-append front (map to_ascii_lowercase domain), length-map domain to_ascii_lowercase, length-map text to_ascii_lowercase) in
    let k = length text - length domain in
    other (ap (map to_ascii_lowercase) cut ∙ sym (drop-map to_ascii_lowercase k text) ∙ ap (drop k) e ∙ drop_at front (map to_ascii_lowercase domain) k (omega arith))

dot_last : (text xs : List ℕ) → map to_ascii_lowercase text ≡ xs ++ dot ∷ [] → text ≡ take (length xs) text ++ dot ∷ []
dot_last text xs e =
    let k = length xs in
    let tail : map to_ascii_lowercase (drop k text) ≡ dot ∷ [] = sym (drop-map to_ascii_lowercase k text) ∙ ap (drop k) e ∙ drop_at xs (dot ∷ []) k refl in
    let (t, is, rest) = dot_first (drop k text) [] tail in
    let none : t ≡ [] = nil_map t rest in
    sym (take-append-drop k text) ∙ ap (λ d. take k text ++ d) (is ∙ ap (λ x. dot ∷ x) none)
  where
    nil_map : (t : List ℕ) → map to_ascii_lowercase t ≡ [] → t ≡ []
    nil_map [] h = refl
    nil_map (x ∷ t) h = absurd (omega (arith, ap length h))

-- ---- the dot at the end
module _ (text s name : List ℕ) (without : IsWithoutDot text s) where
  named_if : map to_ascii_lowercase s ≡ name → IsSameName text name
  named_if e = elim without [
    | inl cut ↦ inr (ap (map to_ascii_lowercase) cut ∙ map-append to_ascii_lowercase s (dot ∷ []) ∙ ap (λ t. t ++ dot ∷ []) e)
    | inr (same, none) ↦ inl (ap (map to_ascii_lowercase) same ∙ e)
  ]

  named_only : ((front : List ℕ) → name ≢ front ++ dot ∷ []) → IsSameName text name → map to_ascii_lowercase s ≡ name
  named_only ends is = elim without [
    | inl cut ↦
        let whole : map to_ascii_lowercase text ≡ map to_ascii_lowercase s ++ dot ∷ [] = ap (map to_ascii_lowercase) cut ∙ map-append to_ascii_lowercase s (dot ∷ []) in
        elim is [
          | inl e ↦ absurd (ends (map to_ascii_lowercase s) (sym e ∙ whole))
          | inr e ↦ append_cancel_right (map to_ascii_lowercase s) name (dot ∷ []) (sym whole ∙ e)
        ]
    | inr (same, none) ↦ elim is [
      | inl e ↦ ap (map to_ascii_lowercase) (sym same) ∙ e
      | inr e ↦ absurd (none (take (length name) text) (dot_last text name e))
    ]
  ]

-- ---- domains
no_dot_last : (f : Family) (labels front : List ℕ) → labels ++ domain_of f ≢ front ++ dot ∷ []
no_dot_last Ipv4 labels front e =
    let last = last_same (labels ++ codes "in-addr.arp") front 97 dot (append_assoc labels (codes "in-addr.arp") (97 ∷ []) ∙ e) in absurd (omega arith)
no_dot_last Ipv6 labels front e =
    let last = last_same (labels ++ codes "ip6.arp") front 97 dot (append_assoc labels (codes "ip6.arp") (97 ∷ []) ∙ e) in absurd (omega arith)

domains_differ : (xs ys : List ℕ) → xs ++ domain_of Ipv4 ≢ ys ++ domain_of Ipv6
domains_differ xs ys e =
    let both : (xs ++ codes "in-addr") ++ codes ".arpa" ≡ (ys ++ codes "ip6") ++ codes ".arpa" =
    append_assoc xs (codes "in-addr") (codes ".arpa") ∙ e ∙ sym (append_assoc ys (codes "ip6") (codes ".arpa")) in
    let fronts : xs ++ codes "in-addr" ≡ ys ++ codes "ip6" = append_cancel_right (xs ++ codes "in-addr") (ys ++ codes "ip6") (codes ".arpa") both in
    let last = last_same (xs ++ codes "in-add") (ys ++ codes "ip") 114 54 (append_assoc xs (codes "in-add") (114 ∷ []) ∙ fronts ∙ sym (append_assoc ys (codes "ip") (54 ∷ []))) in
    absurd (omega arith)

lower_domain : (f : Family) → map to_ascii_lowercase (domain_of f) ≡ domain_of f
lower_domain Ipv4 = refl
lower_domain Ipv6 = refl

-- ---- as a program reads a name: s is the string without the dot, and d the domain
module _ (text s : List ℕ) (without : IsWithoutDot text s) where
  stripped : (f : Family) (p : List Bool) → IsReverseName f text p → map to_ascii_lowercase s ≡ labels_text f (reverse (labels_of f p)) ++ domain_of f
  stripped f p h = named_only text s (reverse_text f p) without (no_dot_last f (labels_text f (reverse (labels_of f p)))) h.2

  pub without_domain : (f : Family) (d : List ℕ) → d ≡ domain_of f → ((front : List ℕ) → map to_ascii_lowercase s ≢ front ++ map to_ascii_lowercase d)
      → (p : List Bool) → ¬ (IsReverseName f text p)
  without_domain f d is none p h =
      let labels = labels_text f (reverse (labels_of f p)) in
      none labels (stripped f p h ∙ ap (λ t. labels ++ t) (sym (ap (map to_ascii_lowercase) is ∙ lower_domain f)))

  module _ (f : Family) (d labels : List ℕ) (is : d ≡ domain_of f) (cut : map to_ascii_lowercase s ≡ map to_ascii_lowercase labels ++ map to_ascii_lowercase d) where
    cut_at : map to_ascii_lowercase s ≡ map to_ascii_lowercase labels ++ domain_of f
    cut_at = cut ∙ ap (λ t. map to_ascii_lowercase labels ++ t) (ap (map to_ascii_lowercase) is ∙ lower_domain f)

    pub labels_named : (p : List Bool) → IsReverseName f text p → HasName f labels p
    labels_named p h = (
      h.0,
      h.1,
      append_cancel_right (map to_ascii_lowercase labels) (labels_text f (reverse (labels_of f p))) (domain_of f) (sym cut_at ∙ stripped f p h),
    )

    pub name_found : (r : Option (Family × ℕ × ℕ)) → IfSome r (λ p. (p.0 ≡ f) × IsNamedBy labels p.0 p.1 p.2)
        → IfSome r (λ p. (p.2 ≤ width_of p.0) × (p.1 < 2 ^ p.2) × IsReverseName p.0 text (bits p.2 p.1))
    name_found None h = h
    name_found (Some (g, n, l)) (same, (small, (fits, ends, has))) = (
      omega (arith, length-bits l n),
      small,
      (
        fits,
        ends,
        named_if text s (reverse_text g (bits l n)) without (cut_at ∙ ap₂ (λ t k. t ++ domain_of k) has (sym same)),
      ),
    )

  pub ipv6_apart : (labels d : List ℕ) → d ≡ domain_of Ipv4 → map to_ascii_lowercase s ≡ map to_ascii_lowercase labels ++ map to_ascii_lowercase d
      → (p : List Bool) → ¬ (IsReverseName Ipv6 text p)
  ipv6_apart labels d is cut p h = domains_differ (map to_ascii_lowercase labels) (labels_text Ipv6 (reverse (labels_of Ipv6 p))) (sym (cut_at Ipv4 d labels is cut) ∙ stripped Ipv6 p h)

module _ (text s d4 d6 : List ℕ) (without : IsWithoutDot text s) (is4 : d4 ≡ domain_of Ipv4) where
  pub no_domain : d6 ≡ domain_of Ipv6 → ((front : List ℕ) → map to_ascii_lowercase s ≢ front ++ map to_ascii_lowercase d4)
      → ((front : List ℕ) → map to_ascii_lowercase s ≢ front ++ map to_ascii_lowercase d6) → (f : Family) (p : List Bool) → ¬ (IsReverseName f text p)
  no_domain is6 none4 none6 Ipv4 p h = without_domain text s without Ipv4 d4 is4 none4 p h
  no_domain is6 none4 none6 Ipv6 p h = without_domain text s without Ipv6 d6 is6 none6 p h

  pub ipv4_only : (labels : List ℕ) (r : Option (Family × ℕ × ℕ)) → map to_ascii_lowercase s ≡ map to_ascii_lowercase labels ++ map to_ascii_lowercase d4
      → ((p : List Bool) → HasName Ipv4 labels p → r ≡ Some (Ipv4, number p, length p)) → (f : Family) (p : List Bool) → IsReverseName f text p
      → r ≡ Some (f, number p, length p)
  ipv4_only labels r cut only Ipv4 p h = only p (labels_named text s without Ipv4 d4 labels is4 cut p h)
  ipv4_only labels r cut only Ipv6 p h = absurd (ipv6_apart text s without labels d4 is4 cut p h)

  pub ipv6_only : (labels : List ℕ) (r : Option (Family × ℕ × ℕ)) → d6 ≡ domain_of Ipv6 → ((front : List ℕ) → map to_ascii_lowercase s ≢ front ++ map to_ascii_lowercase d4)
      → map to_ascii_lowercase s ≡ map to_ascii_lowercase labels ++ map to_ascii_lowercase d6
      → ((p : List Bool) → HasName Ipv6 labels p → r ≡ Some (Ipv6, number p, length p)) → (f : Family) (p : List Bool) → IsReverseName f text p
      → r ≡ Some (f, number p, length p)
  ipv6_only labels r is6 none cut only Ipv4 p h = absurd (without_domain text s without Ipv4 d4 is4 none p h)
  ipv6_only labels r is6 none cut only Ipv6 p h = only p (labels_named text s without Ipv6 d6 labels is6 cut p h)

-- a printed name is the name of its network
pub printed_named : (f : Family) (p : List Bool) → length p ≤ width_of f → EndsAtLabel f p → IsReverseName f (reverse_text f p) p
printed_named f p within ends =
    let labels = labels_text f (reverse (labels_of f p)) in (
      within,
      ends,
      inl
          (map-append to_ascii_lowercase labels (domain_of f)
          ∙ ap₂ (λ x y. x ++ y) (lower_labels f (length p / label_width f) p (exact f (length p) ends)) (lower_domain f)),
    )

-- a printed name is the name of its address
pub printed_address_named : (f : Family) (a : List Bool) → length a ≡ width_of f → IsReverseAddressName f (reverse_text f a) a
printed_address_named Ipv4 a w = (w, (printed_named Ipv4 a (omega (arith, w)) (subst (λ n. n % 8 ≡ 0) (sym w) refl)).2)
printed_address_named Ipv6 a w = (w, (printed_named Ipv6 a (omega (arith, w)) (subst (λ n. n % 4 ≡ 0) (sym w) refl)).2)
