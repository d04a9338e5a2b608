-- Sets in the formats of other tools: texts in their pieces, and what is read of them again.
use Rattle.std.proofs.Common.{◌≡◌, ◌≢◌, refl, sym, ◌∙◌, ap, ap₂, subst, inl, inr, arith, ℕ, ◌-◌, ◌<◌, ◌≤◌, ◌==◌, Bool, true, false, if◌then◌else◌, List, [], ◌∷◌, ◌++◌, Contains, length, length-append, map, slice_index, append_assoc, append-nil, codes, decimal, eq-eqb, ne_eqb}
use Rattle.std.specs.Char.{digit_value}
use Rattle.std.specs.List.{All, AllZip, flat_map, slice_split}
use Rattle.std.proofs.lemmas.Bool.{cases_eq, true≢false}
use Rattle.std.proofs.lemmas.Grind.{get_or_default_zero}
use Rattle.std.proofs.lemmas.List.{length-replicate}
use Rattle.std.proofs.lemmas.List.Splits.{slice_split_at}
use Rattle.cidr.specs.model.Network.{width_of, first_of, last_of, ones}
use Rattle.cidr.specs.texts.Ipv4Text.{dot}
use Rattle.cidr.specs.texts.Ipv6Text.{colon}
use Rattle.cidr.specs.texts.NetworkText.{plus, slash}
use Rattle.cidr.specs.texts.Printed.{plain_text}
use Rattle.cidr.specs.texts.PrintedAddress.{address_text}
use Rattle.cidr.specs.texts.Refusal.{Lacks}
use Rattle.cidr.specs.laws.NetworkLaws.{length-first_of}
use Rattle.cidr.specs.declared.family.Family.{Family}
use Rattle.cidr.specs.declared.family.Family.TheVariants.{Ipv4, Ipv6}
use Rattle.cidr.proofs.Cuts.{Lacks-append, Lacks-cons, Lacks-length}
use Rattle.cidr.proofs.NetworkPrinting.{IsAddressText-address_text, IsLengthText-decimal, network_plain}
use Rattle.cidr_table.proofs.MapLaws.{contains_cases, contains_first, contains_later, contains_nothing}
use Rattle.cidr_lists.specs.Changes.{change_layout, change_line, family_changes, printed_changes, sign_text}
use Rattle.cidr_lists.specs.Formats.{bare, json, laid_out, members, network_by, plain_layout, styled}
use Rattle.cidr_lists.specs.Json.{quote}
use Rattle.cidr_lists.specs.Lists.{is_line_feed, text_by}
use Rattle.cidr_lists.specs.Printing.{line}
use Rattle.cidr_lists.specs.ReadBack.{AreOfFamilies, ChangeTells, ObjectTells, SaysJust, TellsBehind, TellsJust}
use Rattle.cidr_lists.specs.Sets.{printed_networks, printed_sets}
use Rattle.cidr_lists.specs.declared.changes.Sign.{Sign}
use Rattle.cidr_lists.specs.declared.changes.Sign.TheVariants.{Plus, Minus}
use Rattle.cidr_lists.specs.declared.formats.Format.TheVariants as format
use Rattle.cidr_lists.specs.declared.formats.LineFormat.TheVariants as by_line
use Rattle.cidr_lists.specs.declared.formats.Notation.TheVariants.{Members}
use Rattle.cidr_lists.specs.declared.lines.HostBits.{HostBits}
use Rattle.cidr_lists.proofs.PlainTexts.{lacks_address, lacks_by_family}
use Rattle.cidr_lists.proofs.PrintedLines.{printed_read}

-- ---- texts in their pieces
pub two_pushed : (old now new a b : List ℕ) → now ≡ old ++ a → new ≡ now ++ b → new ≡ old ++ (a ++ b)
two_pushed old now new a b first second = second ∙ (ap (λ (k : List ℕ). k ++ b) first ∙ append_assoc old a b)

pub three_pushed : (old one two new a b c : List ℕ) → one ≡ old ++ a → two ≡ one ++ b → new ≡ two ++ c → new ≡ old ++ (a ++ (b ++ c))
three_pushed old one two new a b c first second third =
    two_pushed old one new a (b ++ c) first (two_pushed one two new b c second third)

pub four_pushed : (old one two three new a b c d : List ℕ) → one ≡ old ++ a → two ≡ one ++ b → three ≡ two ++ c → new ≡ three ++ d
    → new ≡ old ++ (a ++ (b ++ (c ++ d)))
four_pushed old one two three new a b c d first second third fourth =
    two_pushed old one new a (b ++ (c ++ d)) first (three_pushed one two three new b c d second third fourth)

-- the members of an object of JSON
seven_pieces : (n a f b l c d : List ℕ) → (((((n ++ a) ++ f) ++ b) ++ l) ++ c) ++ d ≡ n ++ (a ++ (f ++ (b ++ (l ++ (c ++ d)))))
seven_pieces n a f b l c d = simp append_assoc

pub members_pushed : (text network first last one two three four five new : List ℕ) (len : ℕ) → text ≡ network → one ≡ text ++ codes "\",\"first\":\""
    → two ≡ one ++ first → three ≡ two ++ codes "\",\"last\":\"" → four ≡ three ++ last → five ≡ four ++ codes "\",\"length\":"
    → new ≡ five ++ decimal len → new ≡ members network first last len
members_pushed text network first last one two three four five new len p q r s t u v =
    let a : one ≡ network ++ codes "\",\"first\":\"" = q ∙ ap (λ (k : List ℕ). k ++ codes "\",\"first\":\"") p in
    let b = r ∙ ap (λ (k : List ℕ). k ++ first) a in
    let c = s ∙ ap (λ (k : List ℕ). k ++ codes "\",\"last\":\"") b in
    let d = t ∙ ap (λ (k : List ℕ). k ++ last) c in
    let e = u ∙ ap (λ (k : List ℕ). k ++ codes "\",\"length\":") d in
    v ∙ (ap (λ (k : List ℕ). k ++ decimal len) e
    ∙ seven_pieces network (codes "\",\"first\":\"") first (codes "\",\"last\":\"") last (codes "\",\"length\":") (decimal len))

-- ---- the format of a name
-- ---- lines
module _ {X : Type 0} (f : X → List ℕ) where
  -- with line feeds between them and one behind the last
  pub joined_lines : (x : X) (xs : List X) → f x ++ (flat_map (λ y. 10 ∷ f y) xs ++ 10 ∷ []) ≡ flat_map (λ y. line (f y)) (x ∷ xs)
  joined_lines x [] = sym (append-nil (f x ++ 10 ∷ []))
  joined_lines x (y ∷ ys) =
      ap (λ (k : List ℕ). f x ++ 10 ∷ k) (append_assoc (f y) (flat_map (λ z. 10 ∷ f z) ys) (10 ∷ []) ∙ joined_lines y ys)
      ∙ sym (append_assoc (f x) (10 ∷ []) (flat_map (λ z. line (f z)) (y ∷ ys)))

  pub same_lines : (g : X → List ℕ) → ((x : X) → f x ≡ g x) → (xs : List X) → flat_map f xs ≡ flat_map g xs
  same_lines g same [] = refl
  same_lines g same (x ∷ xs) = ap₂ (λ (a b : List ℕ). a ++ b) (same x) (same_lines g same xs)

-- a string in front of a line feed is a line
split_in_front : (text rest : List ℕ) → Lacks 10 text → slice_split is_line_feed (line text ++ rest) ≡ text ∷ slice_split is_line_feed rest
split_in_front text rest none =
    let apart : All (λ x. is_line_feed x ≡ false) text =
    λ k d within. ap is_line_feed (get_or_default_zero text k d within) ∙ ne_eqb (slice_index text k) 10 (none k within) in
    ap (slice_split is_line_feed) (append_assoc text (10 ∷ []) rest) ∙ slice_split_at is_line_feed text 10 rest apart refl

module _ {X : Type 0} (f : X → List ℕ) (IsFit : X → Type 0) (apart : (x : X) → IsFit x → Lacks 10 (f x)) where
  pub split_lines : (xs : List X) (rest : List ℕ) → ((x : X) → Contains xs x → IsFit x)
      → slice_split is_line_feed (flat_map (λ x. line (f x)) xs ++ rest) ≡ map f xs ++ slice_split is_line_feed rest
  split_lines [] rest fit = refl
  split_lines (x ∷ xs) rest fit =
      ap (slice_split is_line_feed) (append_assoc (line (f x)) (flat_map (λ y. line (f y)) xs) rest)
      ∙ (split_in_front (f x) (flat_map (λ y. line (f y)) xs ++ rest) (apart x (fit x (contains_first x xs)))
      ∙ ap (λ (k : List (List ℕ)). f x ∷ k) (split_lines xs rest (λ y c. fit y (contains_later x y xs c))))

module _ {X : Type 0} (f : Family → X → List ℕ) (IsFit : Family → X → Type 0) (Tells : Family → List ℕ → X → Type 0)
    (apart : (family : Family) (x : X) → IsFit family x → Lacks 10 (f family x)) (tells : (family : Family) (x : X) → IsFit family x → Tells family (f family x) x) where
  pub all_tell : (family : Family) (xs : List X) → ((x : X) → Contains xs x → IsFit family x) → AllZip (Tells family) (map (f family) xs) xs
  all_tell family [] fit = tt
  all_tell family (x ∷ xs) fit = (tells family x (fit x (contains_first x xs)), all_tell family xs (λ y c. fit y (contains_later x y xs c)))

  -- lines that each tell their own
  lines_tell : (told : Family → List X) → ((family : Family) (x : X) → Contains (told family) x → IsFit family x)
      → TellsJust Tells (flat_map (λ x. line (f Ipv4 x)) (told Ipv4) ++ flat_map (λ x. line (f Ipv6 x)) (told Ipv6)) told
  lines_tell told fit =
      let last : slice_split is_line_feed (flat_map (λ x. line (f Ipv6 x)) (told Ipv6)) ≡ map (f Ipv6) (told Ipv6) ++ [] ∷ [] =
      ap (slice_split is_line_feed) (sym (append-nil (flat_map (λ x. line (f Ipv6 x)) (told Ipv6))))
      ∙ split_lines (f Ipv6) (IsFit Ipv6) (apart Ipv6) (told Ipv6) [] (fit Ipv6) in (
        map (f Ipv4) (told Ipv4),
        map (f Ipv6) (told Ipv6),
        split_lines (f Ipv4) (IsFit Ipv4) (apart Ipv4) (told Ipv4) (flat_map (λ x. line (f Ipv6 x)) (told Ipv6)) (fit Ipv4)
            ∙ ap (λ (k : List (List ℕ)). map (f Ipv4) (told Ipv4) ++ k) last,
        all_tell Ipv4 (told Ipv4) (fit Ipv4),
        all_tell Ipv6 (told Ipv6) (fit Ipv6),
      )

-- ---- plain
plain_family : (family : Family) (ps : List (List Bool))
    → laid_out (λ notation p. network_by notation family p) (plain_layout [] []) ps ≡ printed_networks family ps
plain_family family [] = refl
plain_family family (p ∷ ps) =
    joined_lines (λ (q : List Bool). plain_text family q ++ []) p ps
    ∙ same_lines (λ q. line (plain_text family q ++ [])) (λ q. line (plain_text family q)) (λ q. ap line (append-nil (plain_text family q))) (p ∷ ps)

pub plain_printed : (networks : Family → List (List Bool)) → styled (bare format.Plain) networks ≡ printed_sets networks
plain_printed networks =
    ap₂ (λ (a b : List ℕ). a ++ b) (plain_family Ipv4 (networks Ipv4)) (plain_family Ipv6 (networks Ipv6))

pub plain_read : (bits : HostBits) (networks : Family → List (List Bool)) → AreOfFamilies networks
    → SaysJust (text_by bits (styled (bare format.Plain) networks)) networks
plain_read bits networks fit =
    subst (λ (k : List ℕ). SaysJust (text_by bits k) networks) (sym (plain_printed networks)) (printed_read bits networks fit)

-- ---- JSON
-- a byte is not among others
abbrev pub misses : ℕ → List ℕ → Bool
misses c [] = true
misses c (x ∷ xs) = if x == c then false else misses c xs

missed : (c x : ℕ) (xs : List ℕ) → misses c (x ∷ xs) ≡ true → (x ≢ c) × (misses c xs ≡ true)
missed c x xs h = elim (cases_eq x c) [
  | inl same ↦ absurd (true≢false (sym h ∙ ap (λ (k : Bool). if k then false else misses c xs) (eq-eqb x c same)))
  | inr other ↦ (other, sym (ap (λ (k : Bool). if k then false else misses c xs) (ne_eqb x c other)) ∙ h)
]

pub lacks_by : (c : ℕ) (xs : List ℕ) → misses c xs ≡ true → Lacks c xs
lacks_by c [] h = λ i within. absurd (omega (arith, within))
lacks_by c (x ∷ xs) h = let (other, more) = missed c x xs h in Lacks-cons c x xs other (lacks_by c xs more)

module _ (c : ℕ) (far : 16 ≤ digit_value c) (no_dot : dot ≢ c) (no_colon : colon ≢ c) (no_slash : slash ≢ c) (no_plus : plus ≢ c)
    (family : Family) (p : List Bool) (fits : length p ≤ width_of family) where
  lacks_plain : Lacks c (plain_text family p)
  lacks_plain = lacks_by_family c far no_dot no_colon no_slash no_plus family (plain_text family p) p (network_plain family p fits)

  lacks_end : (a : List Bool) → length a ≡ width_of family → Lacks c (address_text family a)
  lacks_end a long =
      lacks_address c far no_dot no_colon no_slash no_plus family (address_text family a) a (IsAddressText-address_text family a long)

  lacks_decimal : length p < 256 → Lacks c (decimal (length p))
  lacks_decimal small = Lacks-length c (decimal (length p)) (length p) (omega (arith, far)) no_plus (IsLengthText-decimal (length p) small)

length-last_of : (w : ℕ) (p : List Bool) → length p ≤ w → length (last_of w p) ≡ w
length-last_of w p h = omega (arith, length-append p (ones (w - length p)), length-replicate (w - length p) true)

byte_length : (family : Family) (n : ℕ) → n ≤ width_of family → n < 256
byte_length Ipv4 n fits = omega (arith, fits)
byte_length Ipv6 n fits = omega (arith, fits)

-- the bits of a network fit its family
abbrev pub IsFit : Family → List Bool → Type 0
IsFit family p = length p ≤ width_of family

-- what stands behind the members of a network in an object
abbrev pub behind_of : Family → List ℕ
behind_of family = (json family).behind

no_behind : (family : Family) → Lacks 10 (behind_of family)
no_behind Ipv4 = lacks_by 10 (behind_of Ipv4) refl
no_behind Ipv6 = lacks_by 10 (behind_of Ipv6) refl

-- the members of a network, and what stands behind them
abbrev pub told : Family → List Bool → List ℕ
told family p = network_by Members family p ++ behind_of family

module _ (family : Family) (p : List Bool) (fits : IsFit family p) where
  pub tells_behind : (front : List ℕ) → TellsBehind front family (front ++ told family p) p
  tells_behind front =
      let w = width_of family in
      let first = address_text family (first_of w p) in
      let last = address_text family (last_of w p) in
      let rest = codes ",\"first\":\"" ++ (first ++ (codes "\",\"last\":\"" ++ (last ++ (codes "\",\"length\":" ++ decimal (length p))))) in (
        plain_text family p,
        rest ++ behind_of family,
        ap (λ (k : List ℕ). front ++ k) (append_assoc (plain_text family p) (quote ∷ rest) (behind_of family)),
        lacks_plain quote (omega arith) (omega arith) (omega arith) (omega arith) (omega arith) family p fits,
        network_plain family p fits,
      )

  pub told_apart : Lacks 10 (told family p)
  told_apart =
      let w = width_of family in
      let first = address_text family (first_of w p) in
      let last = address_text family (last_of w p) in
      let len = decimal (length p) in
      let a = codes "\",\"first\":\"" in
      let b = codes "\",\"last\":\"" in
      let c = codes "\",\"length\":" in
      let no_first : Lacks 10 first = lacks_end 10 (omega arith) (omega arith) (omega arith) (omega arith) (omega arith) family p fits (first_of w p) (length-first_of w p fits) in
      let no_last : Lacks 10 last = lacks_end 10 (omega arith) (omega arith) (omega arith) (omega arith) (omega arith) family p fits (last_of w p) (length-last_of w p fits) in
      let no_len : Lacks 10 len = lacks_decimal 10 (omega arith) (omega arith) (omega arith) (omega arith) (omega arith) family p fits (byte_length family (length p) fits) in
      let no_network : Lacks 10 (plain_text family p) = lacks_plain 10 (omega arith) (omega arith) (omega arith) (omega arith) (omega arith) family p fits in
      let members_lack : Lacks 10 (members (plain_text family p) first last (length p)) =
      Lacks-append 10 (plain_text family p) (a ++ (first ++ (b ++ (last ++ (c ++ len))))) no_network
      (Lacks-append 10 a (first ++ (b ++ (last ++ (c ++ len)))) (lacks_by 10 a refl)
      (Lacks-append 10 first (b ++ (last ++ (c ++ len))) no_first
      (Lacks-append 10 b (last ++ (c ++ len)) (lacks_by 10 b refl)
      (Lacks-append 10 last (c ++ len) no_last (Lacks-append 10 c len (lacks_by 10 c refl) no_len))))) in
      Lacks-append 10 (members (plain_text family p) first last (length p)) (behind_of family) members_lack (no_behind family)

-- the object of a network
abbrev object : Family → List Bool → List ℕ
object family p = codes "{\"network\":\"" ++ told family p

object_apart : (family : Family) (p : List Bool) → IsFit family p → Lacks 10 (object family p)
object_apart family p fits =
    let front = codes "{\"network\":\"" in
    Lacks-append 10 front (told family p) (lacks_by 10 front refl) (told_apart family p fits)

objects : (family : Family) (ps : List (List Bool)) → laid_out (λ notation p. network_by notation family p) (json family) ps ≡ flat_map (λ p. line (object family p)) ps
objects Ipv4 [] = refl
objects Ipv6 [] = refl
objects Ipv4 (p ∷ ps) = joined_lines (object Ipv4) p ps
objects Ipv6 (p ∷ ps) = joined_lines (object Ipv6) p ps

pub json_read : (networks : Family → List (List Bool)) → AreOfFamilies networks → TellsJust ObjectTells (styled (bare format.Json) networks) networks
json_read networks fit =
    subst (λ (k : List ℕ). TellsJust ObjectTells k networks)
    (sym (ap₂ (λ (a b : List ℕ). a ++ b) (objects Ipv4 (networks Ipv4)) (objects Ipv6 (networks Ipv6))))
    (lines_tell object IsFit ObjectTells object_apart (λ family p fits. tells_behind family p fits (codes "{\"network\":\"")) networks fit)

-- ---- changes
-- what stands in front of the network of a change
abbrev change_front : Sign → List ℕ
change_front sign = codes "{\"change\":\"" ++ (sign_text sign ++ codes "\",\"network\":\"")

abbrev change_object : Family → Sign × List Bool → List ℕ
change_object family (sign, p) = change_front sign ++ told family p

abbrev IsChangeFit : Family → Sign × List Bool → Type 0
IsChangeFit family (sign, p) = IsFit family p

no_change : (sign : Sign) → Lacks 10 (change_front sign)
no_change Plus = lacks_by 10 (change_front Plus) refl
no_change Minus = lacks_by 10 (change_front Minus) refl

change_apart : (family : Family) (change : Sign × List Bool) → IsChangeFit family change → Lacks 10 (change_object family change)
change_apart family (sign, p) fits = Lacks-append 10 (change_front sign) (told family p) (no_change sign) (told_apart family p fits)

-- a change as a line is its object and a line feed
change_is_line : (family : Family) (change : Sign × List Bool)
    → change_line (λ notation p. network_by notation family p) (change_layout by_line.Json family) change ≡ line (change_object family change)
change_is_line family (Plus, p) =
    ap (λ (k : List ℕ). change_front Plus ++ k) (sym (append_assoc (network_by Members family p) (behind_of family) (10 ∷ [])))
change_is_line family (Minus, p) =
    ap (λ (k : List ℕ). change_front Minus ++ k) (sym (append_assoc (network_by Members family p) (behind_of family) (10 ∷ [])))

changes_are_lines : (family : Family) (changes : List (Sign × List Bool))
    → family_changes by_line.Json family changes ≡ flat_map (λ change. line (change_object family change)) changes
changes_are_lines family changes =
    same_lines (change_line (λ notation p. network_by notation family p) (change_layout by_line.Json family)) (λ change. line (change_object family change))
    (change_is_line family) changes

contains_network : (change : Sign × List Bool) (changes : List (Sign × List Bool)) → Contains changes change → Contains (map (λ c. c.1) changes) change.1
contains_network change [] has = absurd (contains_nothing change has)
contains_network change (c ∷ changes) has =
    let networks = map (λ (k : Sign × List Bool). k.1) changes in
    elim (contains_cases c change changes has) [
      | inl same ↦ subst (λ (k : Sign × List Bool). Contains (c.1 ∷ networks) k.1) same (contains_first c.1 networks)
      | inr later ↦ contains_later c.1 change.1 networks (contains_network change changes later)
    ]

pub changes_read : (changes : Family → List (Sign × List Bool)) → AreOfFamilies (λ family. map (λ change. change.1) (changes family))
    → TellsJust ChangeTells (printed_changes by_line.Json changes) changes
changes_read changes fit =
    subst (λ (k : List ℕ). TellsJust ChangeTells k changes)
    (sym (ap₂ (λ (a b : List ℕ). a ++ b) (changes_are_lines Ipv4 (changes Ipv4)) (changes_are_lines Ipv6 (changes Ipv6))))
    (lines_tell change_object IsChangeFit ChangeTells change_apart (λ family change fits. tells_behind family change.1 fits (change_front change.0)) changes
    (λ family change has. fit family change.1 (contains_network change (changes family) has)))
