-- Groups at the front of a text, as std's grammar reads them.
use Rattle.std.proofs.Common.{◌≡◌, ◌≢◌, ℕ, zero, suc, ◌+◌, ◌-◌, ◌*◌, ◌%◌, ◌^◌, ◌<◌, ◌≤◌, nat_lt, ◌==◌, Bool, true, false, List, [], ◌∷◌, ◌++◌, length, get_or, take, drop, decimal, Option, Some, None, true≢false, refl, sym, ap, ◌∙◌, subst, arith, inl, inr, append-nil, append_assoc, length-append, drop_at, take-append-drop, lit≤, le-ltb, lt-ltb, ltb-false, ne_eqb}
use Rattle.std.proofs.lemmas.Fmt.{decimal_is_IsNumeral, length-decimal-le}
use Rattle.std.proofs.lemmas.Bool.{cases_lt, cases_eq, eqb-true, eqb-false}
use Rattle.std.proofs.lemmas.List.{nil_from_length}
use Rattle.std.proofs.lemmas.Int.Digits.{digits_value-lt}
use Rattle.std.proofs.Math.Nat.{pow-le-pow_right}
use Rattle.std.specs.Char.{digit_value}
use Rattle.std.specs.Str.Parse.{AllDigits, digits_value}
use Rattle.std.specs.Net.Addr.{segments_of}
use Rattle.std.specs.Net.Text.{dotted_text}
use Rattle.std.specs.Net.Reader.{read_ipv4, read_ipv4_if, read_segment, read_separator, read_segments, after}
use Rattle.std.proofs.NetLemmas.Options.{cond_none, and_then_some, same_parts}
use Rattle.std.proofs.NetLemmas.Numbers.{read_number_some, read_number_sound}
use Rattle.std.proofs.NetLemmas.Ipv4.{read_byte_other, read_ipv4_complete, read_ipv4_sound, read_ipv4_none}
use Rattle.cidr.specs.model.Bits.{number}
use Rattle.cidr.specs.model.Address.{octet_bits}
use Rattle.cidr.specs.texts.Ipv4Text.{dot, IsIpv4Text}
use Rattle.cidr.specs.texts.Ipv6Text.{colon, IsGroupText}
use Rattle.cidr.specs.internal.Reading.{IsFirstGroup, NoGroupFirst, WritesParts, IsFound, IsStuck, FindsGroups, with_colon}
use Rattle.cidr.proofs.OctetReading.{four_joined, ipv4_spelled}
use Rattle.cidr.proofs.Ipv6Grammar.{std_dotted, dotted_pair}
use Rattle.cidr.proofs.Ipv4Grammar.{ipv4_grammar}
use Rattle.cidr.proofs.PartLaws.{writes-none, writes-push, writes-append}
use Rattle.cidr.proofs.GroupNumbers.{groups-octets, groups-address, shifted}

-- ---- one group
hex_digits : (ds : List ℕ) → AllDigits 10 ds → AllDigits 16 ds
hex_digits [] h = tt
hex_digits (d ∷ ds) h = (let v = digit_value d in let small : v < 10 = h.0 in let fits : v < 16 = omega arith in fits, hex_digits ds h.1)

-- a decimal octet is a group text too
octet_group : (a : ℕ) → a < 256 → (n : ℕ) × IsGroupText (decimal a) n
octet_group a h =
    let (numeral, _) = decimal_is_IsNumeral a (omega arith) in
    (digits_value 16 (decimal a), ((numeral.0, hex_digits (decimal a) numeral.1), omega (arith, length-decimal-le 3 a (omega arith) (omega arith) (omega arith)), refl))

dotted_text-front : (a b c d : ℕ) (rest : List ℕ) → dotted_text a b c d ++ rest ≡ decimal a ++ dot ∷ (decimal b ++ dot ∷ (decimal c ++ dot ∷ (decimal d ++ rest)))
dotted_text-front a b c d rest = simp append_assoc

-- where no group stands first, std finds neither a segment nor an IPv4 address
no_ipv4 : (text : List ℕ) → NoGroupFirst text → read_ipv4 text ≡ None
no_ipv4 text none = go (read_ipv4 text) refl
  where
    go : (r : _) → read_ipv4 text ≡ r → read_ipv4 text ≡ None
    go None e = e
    go (Some p) e =
        let (front, split, d) = read_ipv4_sound text p.0 p.1 e in
        let shown = split ∙ ap (λ t. t ++ p.1) d.spelled ∙ dotted_text-front d.a d.b d.c d.d p.1 in
        let (n, group) = octet_group d.a d.fit.0 in
        absurd (none (decimal d.a) n _ group (lit≤ tt) shown)

group_from_segment : (text : List ℕ) (s : ℕ × List ℕ) → read_segment text ≡ Some s → IsFirstGroup text s.0 s.1
unfolding read_segment
group_from_segment text s e =
    and_then_some _ _ _ e λ n read kept.
    let (test, some) = cond_none (nat_lt 4 n.1) (Some (n.0, drop n.1 text)) s kept in
    let (value_is, rest_is) = same_parts n.0 s.0 (drop n.1 text) s.1 some in
    let (numeral, fits, len, stop) = read_number_sound 16 0xffff text n.0 n.1 (lit≤ tt) read in
    record {
      front = take n.1 text;
      spelled = rw (← rest_is) (sym (take-append-drop n.1 text));
      group = (numeral.0, omega (arith, ltb-false 4 n.1 test), numeral.1 ∙ value_is);
      ends = rw (← rest_is) stop;
    }

no_segment : (text : List ℕ) → NoGroupFirst text → read_segment text ≡ None
no_segment text none = go (read_segment text) refl
  where
    go : (r : Option (ℕ × List ℕ)) → read_segment text ≡ r → read_segment text ≡ None
    go None e = e
    go (Some s) e = let first = group_from_segment text s e in absurd (none first.front s.0 s.1 first.group first.ends first.spelled)

segment : (text rest : List ℕ) (n : ℕ) → IsFirstGroup text n rest → read_segment text ≡ Some (n, rest)
unfolding read_segment
segment text rest n h =
    let (numeral, few, value) = h.group in
    let below = digits_value-lt 16 h.front numeral.1 in
    let most : 16 ^ length h.front ≤ 16 ^ 4 = pow-le-pow_right (lit≤ tt) few in
    let read = read_number_some 16 0xffff h.front rest numeral (omega arith) h.ends in
    rw (h.spelled, read, le-ltb 4 (length h.front) few, drop_at h.front rest _ refl, value)

no_ipv4_before : (text rest : List ℕ) (n : ℕ) → IsFirstGroup text n rest → get_or rest 0 0 ≢ dot → read_ipv4 text ≡ None
no_ipv4_before text rest n h other = rw h.spelled (read_ipv4_none h.front rest h.group.0.1 h.ends other)

-- ---- groups in a row

-- what has been read of them, and what reading on gives
pub record ReadsOn (room : ℕ) (text : List ℕ) (n count : ℕ) (rest : List ℕ) : Type 0 where
  pub groups : List ℕ
  pub reads : read_segments room true text ≡ after groups (read_segments (room - count) (count == 0) rest)
  pub many : length groups ≡ count
  pub fits : count ≤ room
  pub number : WritesParts 16 groups n

reads_none : (room : ℕ) (text : List ℕ) → ReadsOn room text 0 0 text
reads_none room text =
    let all : room - 0 ≡ room = omega arith in
    record { groups = []; reads = ap (λ k. read_segments k true text) (sym all); many = refl; fits = omega arith; number = writes-none 16 }

no_ipv4_if : (fits : Bool) (text : List ℕ) → read_ipv4 text ≡ None → read_ipv4_if fits text ≡ None
no_ipv4_if true text e = e
no_ipv4_if false text e = refl

group_fits : (text : List ℕ) (v : ℕ) → IsGroupText text v → v < 2 ^ 16
group_fits text v h =
    let below = digits_value-lt 16 text h.0.1 in
    let most : 16 ^ length text ≤ 16 ^ 4 = pow-le-pow_right (lit≤ tt) h.1 in
    omega (arith, h.2)

-- behind groups any byte but a colon ends the reading, and so does the end
no_colon : (room : ℕ) (text : List ℕ) → ((rest : List ℕ) → text ≢ colon ∷ rest)
    → read_segments room false text ≡ ([], false, text)
unfolding read_segments
no_colon zero text other = refl
no_colon (suc room) [] other = refl
no_colon (suc room) (c ∷ text) other = rw (read_byte_other 58 (c ∷ text) (λ e. other text (ap (λ x. x ∷ text) e)))

-- what is left is neither nothing nor `::`
stuck : {room : ℕ} {text : List ℕ} {n count : ℕ} {left : List ℕ} → IsFound room text n count left
    → left ≢ [] → ((rest : List ℕ) → left ≢ colon ∷ colon ∷ rest) → IsStuck room text
stuck f some other = record { left = rw f.found some; other = inr (inr (rw f.found other)) }

module _ {room : ℕ} {text : List ℕ} {n count : ℕ} {rest : List ℕ} (h : ReadsOn room text n count rest) where
  stop : read_segments (room - count) (count == 0) rest ≡ ([], false, rest) → IsFound room text n count rest
  stop e = record { groups = h.groups; dotted = false; found = h.reads ∙ rw (e, append-nil); ends = λ no. absurd (true≢false (sym no)); many = h.many; fits = h.fits; number = h.number }

  at_room : room ≤ count → IsFound room text n count rest
  unfolding read_segments
  at_room full = let none : room - count ≡ 0 = omega arith in stop (rw none)

  module _ (short : count < room) where
    next_room : room - count ≡ suc (room - (count + 1))
    next_room = omega arith

    module _ {group : List ℕ} (led : Some group ≡ read_separator (count == 0) rest) where
      at_no_group : NoGroupFirst group → IsFound room text n count rest
      unfolding read_segments
      at_no_group none = stop (rw (next_room, ← led, no_ipv4_if (nat_lt 0 (room - (count + 1))) group (no_ipv4 group none), no_segment group none))

      at_ipv4 : (o more : List ℕ) → 0 < room - (count + 1) → read_ipv4 group ≡ Some (o, more) → read_segments room true text ≡ (h.groups ++ segments_of o, true, more)
      unfolding read_segments
      at_ipv4 o more two e = h.reads ∙ rw (next_room, ← led, lt-ltb 0 (room - (count + 1)) two, e)

      at_group : (v : ℕ) (more : List ℕ) → IsFirstGroup group v more → read_ipv4_if (nat_lt 0 (room - (count + 1))) group ≡ None
          → read_segments room true text ≡ after (h.groups ++ v ∷ []) (read_segments (room - (count + 1)) false more)
      unfolding read_segments
      at_group v more first e = h.reads ∙ rw (next_room, ← led, e, segment group more v first, append_assoc)

      reads_more : (v : ℕ) (more : List ℕ) (x : ℕ) → IsFirstGroup group v more → x ≡ v → room ≤ 8
          → (count + 1 < room → get_or more 0 0 ≢ dot) → ReadsOn room text (n * 2 ^ 16 % 2 ^ 128 + x) (count + 1) more
      reads_more v more x first same eight other =
          let later : (count + 1 == 0) ≡ false = ne_eqb (count + 1) 0 (omega arith) in
          let none : read_ipv4_if (nat_lt 0 (room - (count + 1))) group ≡ None = elim (cases_lt (count + 1) room) [
            | inl two ↦ no_ipv4_if (nat_lt 0 (room - (count + 1))) group (no_ipv4_before group more v first (other two))
            | inr last ↦ let full : room - (count + 1) ≡ 0 = omega arith in rw full
          ] in
          record {
            groups = h.groups ++ v ∷ [];
            reads = rw later (at_group v more first none);
            many = omega (arith, length-append h.groups (v ∷ []), h.many);
            fits = omega arith;
            number = rw (shifted h.groups n 7 16 h.number (omega (arith, h.many)) (omega arith), same) (writes-push 16 h.groups n v h.number (group_fits first.front v first.group));
          }

      at_dotted : (a : List Bool) (x : ℕ) → IsIpv4Text group a → x ≡ number a → length a ≡ 32 → room ≤ 8
          → count + 1 < room → IsFound room text (n * 2 ^ 32 % 2 ^ 128 + x) (count + 2) []
      at_dotted a x ipv4 same long eight two =
          let (i, j, k, l, joined) = four_joined group a ipv4 in
          let (octets, d, both) = std_dotted group (i * 256 + j) (k * 256 + l) (i, j, k, l, joined, refl, refl) in
          let read : read_ipv4 group ≡ Some (octets, []) = rw append-nil at (read_ipv4_complete group octets [] d (lit≤ tt)) in
          let value : octet_bits (i ∷ j ∷ k ∷ l ∷ []) ≡ a = ipv4_grammar.one_value group _ a (ipv4_spelled group i j k l joined) ipv4 in
          let (ta, ra, sa, oa, (tb, rb, sb, ob, (tc, td, sc, oc, od))) = joined in
          let pair = groups-address a (i * 256 + j) (k * 256 + l) long (groups-octets i j k l ob.fits od.fits ∙ value) in
          record {
            groups = h.groups ++ (i * 256 + j) ∷ (k * 256 + l) ∷ [];
            dotted = true;
            ends = λ _. refl;
            found = at_ipv4 octets [] (omega arith) read ∙ ap (λ s. (h.groups ++ s, true, [])) (sym both);
            many = omega (arith, length-append h.groups ((i * 256 + j) ∷ (k * 256 + l) ∷ []), h.many);
            fits = omega arith;
            number = rw (shifted h.groups n 6 32 h.number (omega (arith, h.many)) (omega arith), same) (writes-append 16 h.groups ((i * 256 + j) ∷ (k * 256 + l) ∷ []) n (number a) h.number pair);
          }

      at_no_end : (v : ℕ) (more : List ℕ) → IsFirstGroup group v more
          → more ≢ [] → ((later : List ℕ) → more ≢ colon ∷ later)
          → ((a : List Bool) → ¬ (IsIpv4Text group a)) → count + 1 < room → IsStuck room text
      at_no_end v more first some other none two = go (read_ipv4 group) refl
        where
          go : (r : Option (List ℕ × List ℕ)) → read_ipv4 group ≡ r → IsStuck room text
          go None is =
              let ends = no_colon (room - (count + 1)) more other in
              let all : read_segments room true text ≡ after (h.groups ++ v ∷ []) ([], false, more) = at_group v more first (no_ipv4_if _ group is) ∙ ap (after (h.groups ++ v ∷ [])) ends in
              record { left = rw all some; other = inr (inr (rw all (λ rest. other (colon ∷ rest)))) }
          go (Some p) is =
              let all = at_ipv4 p.0 p.1 (omega arith) is in
              let (front, split, d) = read_ipv4_sound group p.0 p.1 is in
              let (i, j, k, l, joined, _, _) = dotted_pair front p.0 d in
              let whole : p.1 ≡ [] → group ≡ front = λ nil. split ∙ ap (λ t. front ++ t) nil ∙ append-nil front in
              record {
                left = rw all (λ nil. none (octet_bits (i ∷ j ∷ k ∷ l ∷ [])) (subst (λ t. IsIpv4Text t (octet_bits (i ∷ j ∷ k ∷ l ∷ []))) (sym (whole nil)) (ipv4_spelled front i j k l joined)));
                other = inl (rw all);
              }

-- ---- groups and a colon after each

-- the string is the one behind a colon, where groups precede it
behind_none : (count : ℕ) (rest : List ℕ) → count ≡ 0 → with_colon count rest ≡ rest
behind_none count rest none = rw none refl

behind_some : (count : ℕ) (rest : List ℕ) → 0 < count → with_colon count rest ≡ colon ∷ rest
behind_some count rest some = rw (lt-ltb 0 count some) refl

led : (count : ℕ) (rest : List ℕ) → Some rest ≡ read_separator (count == 0) (with_colon count rest)
led count rest = elim (cases_eq count 0) [
  | inl none ↦ rw none refl
  | inr some ↦ rw (lt-ltb 0 count (omega arith), ne_eqb count 0 some) refl
]

-- whether anything is left
pub none_left : (text : List ℕ) → true ≡ (length text == 0) → text ≡ []
none_left text e = nil_from_length text (eqb-true _ _ (sym e))

pub some_left : (text : List ℕ) → false ≡ (length text == 0) → text ≢ []
some_left text e nil = eqb-false _ _ (sym e) (ap length nil)

finds_all : {room : ℕ} {text : List ℕ} {n count : ℕ} {rest : List ℕ} → IsFound room text n count rest → rest ≡ []
    → FindsGroups room text n count rest
finds_all {rest = rest} f none =
    record { left = rest; found = f; all = λ e. e; some = λ no. absurd (no none); fewer = λ no. absurd (no none) }

-- what the groups leave, by what follows the colon behind them
pub left_over : {room : ℕ} {text : List ℕ} {n count : ℕ} {rest : List ℕ} (f : FindsGroups room text n count rest)
    → rest ≢ [] → f.left ≢ []
left_over {count = count} {rest = rest} f some nil = elim (cases_eq count 0) [
  | inl none ↦ some (sym (behind_none count rest none) ∙ sym (f.some some) ∙ nil)
  | inr more ↦ let e = sym (behind_some count rest (omega arith)) ∙ sym (f.some some) ∙ nil in cc
]

pub room_left : {room : ℕ} {text : List ℕ} {n count : ℕ} {rest : List ℕ} → FindsGroups room text n count rest
    → rest ≢ [] → 0 < room → count ≢ room
room_left {room = room} {count = count} f some pos full = let fewer = f.fewer some (omega arith) in omega arith

pub reads_start : (room : ℕ) (text : List ℕ) → ReadsOn room text 0 0 (with_colon 0 text)
reads_start room text = reads_none room text

module _ {room : ℕ} {text : List ℕ} {n count : ℕ} (rest : List ℕ)
    (h : ReadsOn room text n count (with_colon count rest)) where
  -- no room is left
  pub finds_no_room : room ≤ count → count ≡ 0 → FindsGroups room text n count rest
  finds_no_room full none = record {
    left = with_colon count rest;
    found = at_room h full;
    all = λ e. behind_none count rest none ∙ e;
    some = λ more. refl;
    fewer = λ more some. absurd (omega arith);
  }

  pub stuck_no_room : room ≤ count → count ≢ 0 → IsStuck room text
  stuck_no_room full some =
      let f = at_room h full in
      record {
        left = rw (f.found, behind_some count rest (omega arith)) (λ nil. cc);
        other = inr (inl (rw f.found (omega (arith, f.many, h.fits))));
      }

  module _ (short : count < room) where
    -- no group follows
    pub finds_no_group : NoGroupFirst rest → (0 < count → rest ≢ []) → FindsGroups room text n count rest
    finds_no_group none later = record {
      left = with_colon count rest;
      found = at_no_group h short (led count rest) none;
      all = λ e. elim (cases_eq count 0) [
        | inl zeros ↦ behind_none count rest zeros ∙ e
        | inr some ↦ absurd (later (omega arith) e)
      ];
      some = λ more. refl;
      fewer = λ more some. short;
    }

    pub stuck_no_group : NoGroupFirst rest → 0 < count → rest ≡ [] → IsStuck room text
    stuck_no_group none some ends =
        let is : with_colon count rest ≡ colon ∷ [] = behind_some count rest some ∙ ap (λ t. colon ∷ t) ends in
        stuck (at_no_group h short (led count rest) none) (rw is (λ nil. cc)) (rw is (λ more e. cc))

    module _ {v : ℕ} {more : List ℕ} (first : IsFirstGroup rest v more) where
      -- a colon follows the group
      pub reads_group : (next : List ℕ) (x : ℕ) → more ≡ colon ∷ next → x ≡ v → room ≤ 8
          → ReadsOn room text (n * 2 ^ 16 % 2 ^ 128 + x) (count + 1) (with_colon (count + 1) next)
      reads_group next x is same eight =
          let r = reads_more h short (led count rest) v more x first same eight (λ two. rw is (omega arith)) in
          rw (behind_some (count + 1) next (omega arith), ← is) r

      -- the end follows it
      pub finds_last : (x : ℕ) → more ≡ [] → x ≡ v → room ≤ 8
          → FindsGroups room text (n * 2 ^ 16 % 2 ^ 128 + x) (count + 1) more
      finds_last x is same eight =
          let r = reads_more h short (led count rest) v more x first same eight (λ two. rw is (omega arith)) in
          let later : (count + 1 == 0) ≡ false = ne_eqb (count + 1) 0 (omega arith) in
          finds_all (stop r (rw later (no_colon (room - (count + 1)) more (rw is (λ rest e. cc))))) is

      -- another byte follows it
      pub stuck_last : more ≢ [] → ((later : List ℕ) → more ≢ colon ∷ later) → count + 1 ≡ room → room ≤ 8
          → IsStuck room text
      stuck_last some other last eight =
          let r = reads_more h short (led count rest) v more v first refl eight (λ two. absurd (omega arith)) in
          stuck (at_room r (omega arith)) some (λ later. other (colon ∷ later))

      pub stuck_group : more ≢ [] → ((later : List ℕ) → more ≢ colon ∷ later) → count + 1 ≢ room
          → ((a : List Bool) → ¬ (IsIpv4Text rest a)) → IsStuck room text
      stuck_group some other two none = at_no_end h short (led count rest) v more first some other none (omega arith)

    -- an IPv4 address is left
    pub finds_dotted : (a : List Bool) (x : ℕ) → IsIpv4Text rest a → x ≡ number a → length a ≡ 32 → room ≤ 8
        → count + 1 ≢ room → FindsGroups room text (n * 2 ^ 32 % 2 ^ 128 + x) (count + 2) []
    finds_dotted a x ipv4 same long eight two =
        finds_all (at_dotted h short (led count rest) a x ipv4 same long eight (omega arith)) refl
