-- Lines that are appended to a text one by one.
use Rattle.std.proofs.Common.{◌≡◌, ◌≢◌, sym, ◌∙◌, ap, ap₂, ℕ, ◌+◌, ◌<◌, ◌≤◌, Bool, true, false, if◌then◌else◌, List, [], ◌∷◌, ◌++◌, length, map, take, get_or, append_assoc, codes}
use Rattle.std.specs.List.{flat_map}
use Rattle.std.proofs.lemmas.Bool.{false_from_ne_true}
use Rattle.std.proofs.lemmas.List.{append-nil, flat_map_more, map-id, take_all, take_more}
use Rattle.cidr.specs.laws.BitLaws.{bit_eq_Decides, bits-number, same_bits}
use Rattle.cidr.specs.model.Bits.{bit_eq, bits, number}
use Rattle.cidr.specs.texts.PrintedAddress.{address_text}
use Rattle.cidr.specs.declared.family.Family.{Family}
use Rattle.cidr.specs.declared.family.Family.TheVariants.{Ipv4, Ipv6}
use Rattle.cidr_table.specs.model.Cover.{Covers}
use Rattle.cidr_sets.specs.model.Ranges.{AreRanges}
use Rattle.cidr_lists.specs.Printing.{line}
use Rattle.cidr_lists.specs.Sets.{IsPrinted, networks_of, range_line}
use Rattle.cidr_lists.specs.declared.sets.Form.TheVariants.{Ranges}
use Rattle.cidr_lists.specs.declared.sets.Sets.{Sets}

module _ {X : Type 0} (f : X → List ℕ) where
  -- of a slice by its indices
  abbrev pub AreAppended : List ℕ → List X → ℕ → List ℕ → Type 0
  AreAppended old all i new = new ≡ old ++ flat_map f (take i all)

  pub none_appended : (old : List ℕ) (all : List X) → AreAppended old all 0 old
  none_appended old all = sym (append-nil old)

  pub one_appended : (old : List ℕ) (all : List X) (i : ℕ) (x : X) (now new : List ℕ) → i < length all → x ≡ get_or all i x → AreAppended old all i now
      → new ≡ now ++ f x → AreAppended old all (i + 1) new
  one_appended old all i x now new within is before step =
      step ∙ (ap (λ (k : List ℕ). k ++ f x) before
      ∙ (flat_map_more f old (take i all) x
      ∙ ap (λ (k : List X). old ++ flat_map f k) (ap (λ (k : X). take i all ++ k ∷ []) is ∙ sym (take_more all i x within))))

  pub all_appended : (old : List ℕ) (all : List X) (i : ℕ) (new : List ℕ) → length all ≤ i → AreAppended old all i new → new ≡ old ++ flat_map f all
  all_appended old all i new past before = before ∙ ap (λ (k : List X). old ++ flat_map f k) (take_all i all past)

  -- of what an iterator yields: the rest comes behind
  abbrev pub IsBehind : List ℕ → List X → List ℕ → List X → Type 0
  IsBehind old all now left = now ++ flat_map f left ≡ old ++ flat_map f all

  pub next_behind : (old : List ℕ) (all : List X) (now new : List ℕ) (left rest : List X) (x : X) → IsBehind old all now left → left ≡ x ∷ rest
      → new ≡ now ++ f x → IsBehind old all new rest
  next_behind old all now new left rest x before is step =
      ap (λ (k : List ℕ). k ++ flat_map f rest) step
      ∙ (append_assoc now (f x) (flat_map f rest) ∙ (ap (λ (k : List X). now ++ flat_map f k) (sym is) ∙ before))

  pub last_behind : (old : List ℕ) (all : List X) (now : List ℕ) (left : List X) → IsBehind old all now left → left ≡ [] → now ≡ old ++ flat_map f all
  last_behind old all now left before none =
      sym (append-nil now) ∙ (ap (λ (k : List X). now ++ flat_map f k) (sym none) ∙ before)

-- a line in two pieces
pub line_pushed : (old now new text : List ℕ) → now ≡ old ++ text → new ≡ now ++ 10 ∷ [] → new ≡ old ++ line text
line_pushed old now new text first second = second ∙ (ap (λ (k : List ℕ). k ++ 10 ∷ []) first ∙ append_assoc old text (10 ∷ []))

-- whether two addresses are the same, by their numbers
pub same_by_number : (a b : List Bool) (w m n : ℕ) → length a ≡ w → length b ≡ w → m ≡ number a → n ≡ number b → m ≡ n → bit_eq a b ≡ true
same_by_number a b w m n la lb p q same =
    (bit_eq_Decides a b).1 (sym (bits-number a) ∙ (ap₂ bits (la ∙ sym lb) (sym p ∙ (same ∙ q)) ∙ bits-number b))

pub other_by_number : (a b : List Bool) (m n : ℕ) → m ≡ number a → n ≡ number b → m ≢ n → bit_eq a b ≡ false
other_by_number a b m n p q other = false_from_ne_true (bit_eq a b) (λ t. other (p ∙ (ap number (same_bits a b t) ∙ sym q)))

-- a range in its pieces
pub one_pushed : (text : List Bool → List ℕ) (a b : List Bool) (old now new : List ℕ) → bit_eq a b ≡ true → now ≡ old ++ text a → new ≡ now ++ 10 ∷ []
    → new ≡ old ++ range_line text (a, b)
one_pushed text a b old now new same first second =
    line_pushed old now new (text a) first second ∙ ap (λ (k : Bool). old ++ (if k then line (text a) else text a ++ (45 ∷ line (text b)))) (sym same)

pub two_pushed : (text : List Bool → List ℕ) (a b : List Bool) (old first sign second new : List ℕ) → bit_eq a b ≡ false → first ≡ old ++ text a
    → sign ≡ first ++ 45 ∷ [] → second ≡ sign ++ text b → new ≡ second ++ 10 ∷ [] → new ≡ old ++ range_line text (a, b)
two_pushed text a b old first sign second new other p q r s =
    line_pushed sign second new (text b) r s
    ∙ (ap (λ (k : List ℕ). k ++ line (text b)) (q ∙ ap (λ (k : List ℕ). k ++ 45 ∷ []) p)
    ∙ (append_assoc (old ++ text a) (45 ∷ []) (line (text b))
    ∙ (append_assoc old (text a) (45 ∷ line (text b))
    ∙ ap (λ (k : Bool). old ++ (if k then line (text a) else text a ++ (45 ∷ line (text b)))) (sym other))))

-- two numbers with what stands around them
five_pieces : (p q r s t : List ℕ) → (((p ++ q) ++ r) ++ s) ++ t ≡ p ++ (q ++ (r ++ (s ++ t)))
five_pieces p q r s t = simp append_assoc

pub counts_pushed : (four six none one two three more all : List ℕ) → none ≡ [] → one ≡ none ++ codes "IPv4 " → two ≡ one ++ four
    → three ≡ two ++ codes "\nIPv6 " → more ≡ three ++ six → all ≡ more ++ codes "\n"
    → all ≡ codes "IPv4 " ++ (four ++ (codes "\nIPv6 " ++ (six ++ codes "\n")))
counts_pushed four six none one two three more all o p q r s t =
    let first : one ≡ codes "IPv4 " = p ∙ ap (λ (k : List ℕ). k ++ codes "IPv4 ") o in
    let second : two ≡ codes "IPv4 " ++ four = q ∙ ap (λ (k : List ℕ). k ++ four) first in
    let third : three ≡ (codes "IPv4 " ++ four) ++ codes "\nIPv6 " = r ∙ ap (λ (k : List ℕ). k ++ codes "\nIPv6 ") second in
    let fourth : more ≡ ((codes "IPv4 " ++ four) ++ codes "\nIPv6 ") ++ six = s ∙ ap (λ (k : List ℕ). k ++ six) third in
    t ∙ (ap (λ (k : List ℕ). k ++ codes "\n") fourth ∙ five_pieces (codes "IPv4 ") four (codes "\nIPv6 ") six (codes "\n"))

-- ---- the ranges of both families
plain_ranges : (networks : List (List Bool)) (ranges : List (List Bool × List Bool)) → AreRanges 129 (Covers (map (λ (x : List Bool). x) networks)) ranges
    → AreRanges 129 (Covers networks) ranges
plain_ranges networks ranges h = rw (map-id networks) at h

pub ranges_printed : (sets : Sets) (four six : List (List Bool × List Bool)) (text : List ℕ)
    → AreRanges 129 (Covers (map (λ (x : List Bool). x) sets.v4)) four → AreRanges 129 (Covers (map (λ (x : List Bool). x) sets.v6)) six
    → text ≡ flat_map (range_line (address_text Ipv4)) four ++ flat_map (range_line (address_text Ipv6)) six → IsPrinted Ranges (networks_of sets) text
ranges_printed sets four six text h k is =
    let ranges : Family → List (List Bool × List Bool) = elim [ Ipv4 ↦ four | Ipv6 ↦ six ] in
    let are : (family : Family) → AreRanges 129 (Covers (networks_of sets family)) (ranges family) = elim [
      | Ipv4 ↦ plain_ranges sets.v4 four h
      | Ipv6 ↦ plain_ranges sets.v6 six k
    ] in
    (ranges, are, is)
