-- The labels of names in reverse DNS.
use Rattle.std.proofs.Common.{◌≡◌, ℕ, zero, suc, ◌+◌, ◌-◌, ◌*◌, ◌/◌, ◌%◌, ◌^◌, ◌<◌, ◌≤◌, Bool, false, List, [], ◌∷◌, ◌++◌, length, take, drop, reverse, sym, ap, ap₂, ◌∙◌, arith, drop_at, take-append-drop, length-drop, append_assoc, append-nil, lit≤}
use Rattle.std.proofs.lemmas.List.{take-append-le, take_all, length-replicate, length-take-le, nil_from_length, reverse-append}
use Rattle.std.proofs.lemmas.Nat.{shr_high, pow_pos, mod-mul-add}
use Rattle.std.proofs.Math.Nat.{pow-le-pow_right, div-eq_of_lt}
use Rattle.cidr.specs.model.Bits.{number}
use Rattle.cidr.specs.model.Address.{parts_of}
use Rattle.cidr.specs.model.Network.{zeros, first_of, width_of}
use Rattle.cidr.specs.laws.BitLaws.{number-append, number-lt}
use Rattle.cidr.specs.texts.Ipv4Text.{dot}
use Rattle.cidr.specs.declared.family.Family.{Family}
use Rattle.cidr.specs.declared.family.Family.TheVariants.{Ipv4, Ipv6}
use Rattle.cidr_ext.specs.texts.Reverse.{label_width, label_text, labels_text, domain_of, labels_of, reverse_text, longest_label, EndsAtLabel}
use Rattle.cidr_ext.proofs.Indexes.{number-zeros}

-- what a name takes fits
pub room : (f : Family) (l : ℕ) → l ≤ width_of f → longest_label f * (l / label_width f) + length (domain_of f) ≤ 72
room Ipv4 l h = omega arith
room Ipv6 l h = omega arith

drop-append : (k : ℕ) (p q : List Bool) → k ≤ length p → drop k (p ++ q) ≡ drop k p ++ q
drop-append k p q h =
    let whole : p ++ q ≡ take k p ++ (drop k p ++ q) = ap (λ t. t ++ q) (sym (take-append-drop k p)) ∙ append_assoc (take k p) (drop k p) q in
    ap (drop k) whole ∙ drop_at (take k p) (drop k p ++ q) k (length-take-le k p h)

-- the last part apart
pub parts_of-more : (k m : ℕ) (p q : List Bool) → length p ≡ k * m → length q ≡ k → parts_of k (suc m) (p ++ q) ≡ parts_of k m p ++ number q ∷ []
unfolding parts_of
parts_of-more k zero p q e size =
    let none : p ≡ [] = nil_from_length p (omega arith) in
    rw none (ap (λ t. number t ∷ []) (take_all k q (omega arith)))
parts_of-more k (suc m) p q e size =
    let long : k ≤ length p = omega arith in
    let rest : length (drop k p) ≡ k * m = omega (arith, length-drop k p) in
    ap₂ (λ x t. number x ∷ t) (take-append-le k p q long) (ap (parts_of k (suc m)) (drop-append k p q long) ∙ parts_of-more k m (drop k p) q rest size)

-- the labels of a number, without its last one and then that
module _ (f : Family) (value count : ℕ) (network : List Bool) (some : 0 < count) (size : length network ≡ label_width f * count) (is : value ≡ number network) where
  pub front : List Bool
  front = take (label_width f * (count - 1)) network

  back : List Bool
  back = drop (label_width f * (count - 1)) network

  pub length-front : length front ≡ label_width f * (count - 1)
  unfolding front
  length-front = let e : count ≡ suc (count - 1) = omega arith in length-take-le (label_width f * (count - 1)) network (omega (arith, ap (λ c. label_width f * c) e))

  length-back : length back ≡ label_width f
  unfolding back
  length-back = let e : count ≡ suc (count - 1) = omega arith in omega (arith, ap (λ c. label_width f * c) e, length-drop (label_width f * (count - 1)) network)

  whole : network ≡ front ++ back
  unfolding front back
  whole = sym (take-append-drop (label_width f * (count - 1)) network)

  sum : value ≡ number front * 2 ^ label_width f + number back
  sum = is ∙ ap number whole ∙ number-append front back ∙ ap (λ n. number front * 2 ^ n + number back) length-back

  small : number back < 2 ^ label_width f
  small = rw (sym length-back) (number-lt back)

  pub value-front : value / 2 ^ label_width f ≡ number front
  value-front = ap (λ v. v / 2 ^ label_width f) sum ∙ shr_high (number front) (label_width f) (number back) small

  value-back : value % 2 ^ label_width f ≡ number back
  value-back = ap (λ v. v % 2 ^ label_width f) sum ∙ mod-mul-add (number front) (2 ^ label_width f) (number back) small

  parts : parts_of (label_width f) count network ≡ parts_of (label_width f) (count - 1) front ++ number back ∷ []
  parts =
      let e : count ≡ suc (count - 1) = omega arith in
      ap₂ (parts_of (label_width f)) e whole ∙ parts_of-more (label_width f) (count - 1) front back length-front length-back

  turned : labels_text f (reverse (parts_of (label_width f) count network))
      ≡ (label_text f (value % 2 ^ label_width f) ++ dot ∷ []) ++ labels_text f (reverse (parts_of (label_width f) (count - 1) front))
  turned =
      ap (λ l. labels_text f (reverse l)) parts ∙ ap (labels_text f) (reverse-append (parts_of (label_width f) (count - 1) front) (number back ∷ []))
      ∙ ap (λ n. (label_text f n ++ dot ∷ []) ++ labels_text f (reverse (parts_of (label_width f) (count - 1) front))) (sym value-back)

  pub more_labels : (old mid new : List ℕ) (label : ℕ) → label ≡ value % 2 ^ label_width f → mid ≡ old ++ (label_text f label ++ dot ∷ [])
      → new ≡ mid ++ labels_text f (reverse (parts_of (label_width f) (count - 1) front))
      → new ≡ old ++ labels_text f (reverse (parts_of (label_width f) count network))
  more_labels old mid new label l one rest =
      rest ∙ ap (λ t. t ++ labels_text f (reverse (parts_of (label_width f) (count - 1) front))) (one ∙ ap (λ n. old ++ (label_text f n ++ dot ∷ [])) l)
      ∙ append_assoc old (label_text f (value % 2 ^ label_width f) ++ dot ∷ []) (labels_text f (reverse (parts_of (label_width f) (count - 1) front)))
      ∙ ap (λ t. old ++ t) (sym turned)

pub no_labels : (f : Family) (count : ℕ) (network : List Bool) (old : List ℕ) → count ≡ 0 → old ≡ old ++ labels_text f (reverse (parts_of (label_width f) count network))
unfolding parts_of
no_labels f zero network old h = sym (append-nil old)
no_labels f (suc n) network old h = absurd (omega arith)

-- no bit of a u128 is left
pub shifted_none : (value count : ℕ) → value < 2 ^ 128 → 128 ≤ count → 0 ≡ value / 2 ^ count
shifted_none value count h many =
    let more : 2 ^ 128 ≤ 2 ^ count = pow-le-pow_right (lit≤ tt) many in
    let below : value < 2 ^ count = omega arith in
    sym (div-eq_of_lt below)

-- the number of a network, as that of its first address
pub network_number : (f : Family) (p a : List Bool) (n m : ℕ) → a ≡ first_of (width_of f) p → n ≡ number a → m ≡ n / 2 ^ (width_of f - length p) → m ≡ number p
network_number f p a n m first value shifted =
    let k = width_of f - length p in
    let sum : number (p ++ zeros k) ≡ number p * 2 ^ k + number (zeros k) = number-append p (zeros k) ∙ ap (λ n. number p * 2 ^ n + number (zeros k)) (length-replicate k false) in
    shifted ∙ ap (λ v. v / 2 ^ k) (value ∙ ap number first ∙ sum ∙ ap (λ z. number p * 2 ^ k + z) (number-zeros k)) ∙ shr_high (number p) k 0 (pow_pos k)

-- an address is whole labels
pub whole_labels : (f : Family) (p : List Bool) → length p ≡ width_of f → EndsAtLabel f p
whole_labels Ipv4 p h = omega arith
whole_labels Ipv6 p h = omega arith

pub ruleset address_laws = (whole_labels)

-- ---- the name of a network, as a program prints it
pub exact : (f : Family) (n : ℕ) → n % label_width f ≡ 0 → n ≡ label_width f * (n / label_width f)
exact Ipv4 n h = omega arith
exact Ipv6 n h = omega arith

pub named : (f f1 : Family) (p a : List Bool) (l n m k w : ℕ) (new mid done : List ℕ) → f1 ≡ f → l ≡ length p → k ≡ label_width f1 → l % k ≡ 0
    → a ≡ first_of (width_of f) p → n ≡ number a → w ≡ width_of f1 → m ≡ n / 2 ^ (w - l) → new ≡ []
    → ((network : List Bool) → length network ≡ label_width f1 * (l / k) → m ≡ number network
    → mid ≡ new ++ labels_text f1 (reverse (parts_of (label_width f1) (l / k) network)))
    → done ≡ mid ++ domain_of f1 → (done ≡ reverse_text f p) × EndsAtLabel f p
named f f1 p a l n m k w new mid done same len label whole first value width shifted empty labels last =
    let wide : k ≡ label_width f = label ∙ ap label_width same in
    let ends : length p % label_width f ≡ 0 = ap₂ (λ x y. x % y) (sym len) (sym wide) ∙ whole in
    let count : l / k ≡ length p / label_width f = ap₂ (λ x y. x / y) len wide in
    let size : length p ≡ label_width f1 * (l / k) = exact f (length p) ends ∙ ap₂ (λ x y. x * y) (sym (ap label_width same)) (sym count) in
    let is : m ≡ number p = network_number f p a n m first value (shifted ∙ ap₂ (λ x y. n / 2 ^ (x - y)) (width ∙ ap width_of same) len) in
    let given : mid ≡ labels_text f (reverse (labels_of f p)) =
    labels p size is ∙ ap (λ g. new ++ labels_text g (reverse (parts_of (label_width g) (l / k) p))) same
    ∙ ap (λ c. new ++ labels_text f (reverse (parts_of (label_width f) c p))) count ∙ ap (λ x. x ++ labels_text f (reverse (labels_of f p))) empty in
    (last ∙ ap₂ (λ x g. x ++ domain_of g) given same, ends)
