-- The canonical text: it is what is printed, each address has one, and it spells the address.
use Rattle.std.proofs.Common.{◌≡◌, ℕ, ◌+◌, ◌-◌, ◌<◌, ◌≤◌, ◌⊎◌, Bool, true, false, List, [], ◌∷◌, ◌++◌, length, take, drop, refl, sym, ap, ap₂, ◌∙◌, subst, arith, inl, inr, lt-ltb, le-ltb, length-drop, length-take-le, take-add, take-append-drop, bytes_eq, codes, append_assoc, rules}
use Rattle.std.proofs.lemmas.Bool.{cases_lt, cond_both, false≢true, false_from_ne_true}
use Rattle.std.proofs.lemmas.Slice.Eq.{bytes_eq-Decides}
use Rattle.std.proofs.NetLemmas.Texts.{AllSegments, AllSegments-take, AllSegments-drop, IsZeroRun-longest_zero_run, longest_zero_run_first}
use Rattle.std.specs.Net.Text.{groups_text, longest_zero_run, hex_groups_text}
use Rattle.cidr.specs.model.Address.{groups_of}
use Rattle.cidr.specs.texts.Ipv6Text.{colon, IsGroupText, IsGroups, IsNothing, IsElided, IsEightGroups, IsIpv6Text}
use Rattle.cidr.specs.texts.Canonical.{IsPlainGroups, IsZeroRun, IsBestRun, IsFullText, IsShortenedText, mapped_groups, IsMapped, IsMappedText, IsCanonicalText}
use Rattle.cidr.specs.texts.PrintedAddress.{ipv4_text, ipv6_text}
use Rattle.cidr.proofs.PartLaws.{length-parts_of, parts_fit, flat_map-parts_of}
use Rattle.cidr.proofs.Ipv4Printing.{IsIpv4Text-ipv4_text}
use Rattle.cidr.proofs.HexPrinting.{IsPlainGroups-groups_text, one_plain_groups}
use Rattle.cidr.proofs.GroupParts.{one_ipv4_text, drop-parts_of, IsPairText-ipv4}

-- the run that a pass from the end finds is the best one
best : (groups : List ℕ) → IsBestRun groups (longest_zero_run groups).0 (longest_zero_run groups).1
best groups = record {
  zeros = IsZeroRun-longest_zero_run groups;
  longest = λ s l h. (longest_zero_run_first groups s l h).0;
  leftmost = λ s h. (longest_zero_run_first groups s (longest_zero_run groups).1 h).1 refl;
}

-- there is one
one_best : (groups : List ℕ) (s l t m : ℕ) → IsBestRun groups s l → IsBestRun groups t m → (s ≡ t) × (l ≡ m)
one_best groups s l t m h k =
    let less : l ≤ m = k.longest s l h.zeros in
    let more : m ≤ l = h.longest t m k.zeros in
    let same : l ≡ m = omega arith in
    let before : s ≤ t = h.leftmost t (subst (IsZeroRun groups t) (sym same) k.zeros) in
    let behind : t ≤ s = k.leftmost s (subst (IsZeroRun groups s) same h.zeros) in
    (omega arith, same)

-- what is printed of groups
printed_groups : (groups : List ℕ) → AllSegments groups → IsFullText (hex_groups_text groups) groups ⊎ IsShortenedText (hex_groups_text groups) groups
unfolding hex_groups_text
printed_groups groups fits =
    let start : ℕ = (longest_zero_run groups).0 in
    let len : ℕ = (longest_zero_run groups).1 in
    elim (cases_lt 1 len) [
      | inl long ↦ rw (lt-ltb 1 len long) (inr (record {
        start = start;
        len = len;
        front = groups_text (take start groups);
        back = groups_text (drop (start + len) groups);
        best = best groups;
        long = omega arith;
        front_text = IsPlainGroups-groups_text (take start groups) (AllSegments-take start groups fits);
        back_text = IsPlainGroups-groups_text (drop (start + len) groups) (AllSegments-drop (start + len) groups fits);
        spelled = append_assoc (groups_text (take start groups)) (codes "::") (groups_text (drop (start + len) groups));
      }))
      | inr short ↦ rw (le-ltb 1 len short) (inl (λ s l h. omega (arith, (longest_zero_run_first groups s l h).0), IsPlainGroups-groups_text groups fits))
    ]

-- and only that
one_full : (text groups : List ℕ) → IsFullText text groups → text ≡ hex_groups_text groups
unfolding hex_groups_text
one_full text groups h =
    let start : ℕ = (longest_zero_run groups).0 in
    let len : ℕ = (longest_zero_run groups).1 in
    let short : len < 2 = h.0 start len (IsZeroRun-longest_zero_run groups) in
    let le : len ≤ 1 = omega arith in
    rw (le-ltb 1 len le) (one_plain_groups text groups h.1)

one_shortened : (text groups : List ℕ) → IsShortenedText text groups → text ≡ hex_groups_text groups
unfolding hex_groups_text
one_shortened text groups h =
    let start : ℕ = (longest_zero_run groups).0 in
    let len : ℕ = (longest_zero_run groups).1 in
    let (same_start, same_len) = one_best groups h.start h.len start len h.best (best groups) in
    let two = h.long in
    let long : 1 < len = omega arith in
    let front : h.front ≡ groups_text (take start groups) = one_plain_groups h.front (take h.start groups) h.front_text ∙ ap (λ s. groups_text (take s groups)) same_start in
    let same_back = ap₂ (λ s l. groups_text (drop (s + l) groups)) same_start same_len in
    let back : h.back ≡ groups_text (drop (start + len) groups) = one_plain_groups h.back (drop (h.start + h.len) groups) h.back_text ∙ same_back in
    rw (lt-ltb 1 len long) (h.spelled ∙ ap₂ (λ x y. x ++ colon ∷ colon ∷ y) front back ∙ sym (append_assoc (groups_text (take start groups)) (codes "::") (groups_text (drop (start + len) groups))))

pub IsCanonicalText-ipv6_text : (a : List Bool) → length a ≡ 128 → IsCanonicalText (ipv6_text a) a
unfolding ipv6_text
IsCanonicalText-ipv6_text a e =
    let decides = bytes_eq-Decides (take 6 (groups_of a)) mapped_groups in
    cond_both (bytes_eq (take 6 (groups_of a)) mapped_groups) (codes "::ffff:" ++ ipv4_text (drop 96 a)) (hex_groups_text (groups_of a)) (λ t. IsCanonicalText t a)
    (λ mapped. inl (decides.0 mapped, (ipv4_text (drop 96 a), refl, IsIpv4Text-ipv4_text (drop 96 a) (omega (arith, length-drop 96 a)))))
    (λ other. inr (λ mapped. false≢true (sym other ∙ decides.1 mapped), printed_groups (groups_of a) (parts_fit 16 8 a e)))

pub one_canonical : (text : List ℕ) (a : List Bool) → IsCanonicalText text a → text ≡ ipv6_text a
unfolding ipv6_text
one_canonical text a (inl (mapped, (ipv4, split, h))) =
    rw ((bytes_eq-Decides (take 6 (groups_of a)) mapped_groups).1 mapped) (split ∙ ap (λ t. codes "::ffff:" ++ t) (one_ipv4_text ipv4 (drop 96 a) h))
one_canonical text a (inr (other, form)) =
    let decides = bytes_eq-Decides (take 6 (groups_of a)) mapped_groups in
    rw (false_from_ne_true _ (λ t. other (decides.0 t))) (elim form [ inl full ↦ one_full text (groups_of a) full | inr shortened ↦ one_shortened text (groups_of a) shortened ])

-- the canonical text spells the address
groups_spelled : (text groups : List ℕ) → IsPlainGroups text groups → IsNothing text groups ⊎ IsGroups text groups
groups_spelled text [] h = inl (h, refl)
groups_spelled text (g ∷ gs) h = inr (some_groups text g gs h)
  where
    some_groups : (text : List ℕ) (g : ℕ) (gs : List ℕ) → IsPlainGroups text (g ∷ gs) → IsGroups text (g ∷ gs)
    some_groups text g [] h = h.group
    some_groups text g (k ∷ gs) (front, back, split, first, later) = (front, back, split, first.group, some_groups back k gs later)

full_spelled : (text groups : List ℕ) → length groups ≡ 8 → IsPlainGroups text groups → IsEightGroups text groups
full_spelled text groups eight h = elim (groups_spelled text groups h) [
  | inl none ↦ absurd (omega (arith, ap length none.1))
  | inr some ↦ inl (inl some, eight)
]

shortened_spelled : (text groups : List ℕ) → length groups ≡ 8 → IsShortenedText text groups → IsElided text groups
shortened_spelled text groups eight h =
    let (within, zeros) = h.best.zeros in
    let long = h.long in
    let front = length-take-le h.start groups (omega arith) in
    let back = length-drop (h.start + h.len) groups in
    let gap : 8 - (length (take h.start groups) + length (drop (h.start + h.len) groups)) ≡ h.len = omega arith in
    record {
      front = h.front;
      back = h.back;
      head = take h.start groups;
      tail = drop (h.start + h.len) groups;
      spelled = h.spelled;
      front_text = groups_spelled h.front (take h.start groups) h.front_text;
      back_text = elim (groups_spelled h.back (drop (h.start + h.len) groups) h.back_text) [ inl none ↦ inl none | inr some ↦ inr (inl some) ];
      room = omega arith;
      value = rw (gap, ← zeros, ← take-add h.start h.len groups) (sym (take-append-drop (h.start + h.len) groups));
    }

ones_text : IsGroupText (codes "ffff") 0xffff
ones_text = ((omega arith, search rules), omega arith, refl)

mapped_spelled : (text : List ℕ) (a : List Bool) → IsMapped a → IsMappedText text a → IsElided text (groups_of a)
mapped_spelled text a mapped (ipv4, split, h) =
    let p = IsPairText-ipv4 ipv4 (drop 96 a) h in
    let tail : drop 6 (groups_of a) ≡ p.g ∷ p.h ∷ [] = drop-parts_of 16 6 2 a ∙ p.groups in
    record {
      front = [];
      back = codes "ffff:" ++ ipv4;
      head = [];
      tail = 0xffff ∷ p.g ∷ p.h ∷ [];
      spelled = split;
      front_text = inl (refl, refl);
      back_text = inr (inr (0xffff ∷ [], p.g, p.h, refl, inr (codes "ffff", ipv4, refl, ones_text, p.pair)));
      room = omega arith;
      value = sym (take-append-drop 6 (groups_of a)) ∙ ap₂ (λ x y. x ++ y) mapped tail;
    }

pub IsIpv6Text-canonical : (text : List ℕ) (a : List Bool) → length a ≡ 128 → IsCanonicalText text a → IsIpv6Text text a
IsIpv6Text-canonical text a e h =
    let eight = length-parts_of 16 8 a in
    record {
      groups = groups_of a;
      eight = elim h [
        | inl mapped ↦ inr (mapped_spelled text a mapped.0 mapped.1)
        | inr other ↦ elim (other.1) [
          | inl full ↦ full_spelled text (groups_of a) eight full.1
          | inr shortened ↦ inr (shortened_spelled text (groups_of a) eight shortened)
        ]
      ];
      value = sym (flat_map-parts_of 16 8 a e);
    }

pub IsIpv6Text-ipv6_text : (a : List Bool) → length a ≡ 128 → IsIpv6Text (ipv6_text a) a
IsIpv6Text-ipv6_text a e = IsIpv6Text-canonical (ipv6_text a) a e (IsCanonicalText-ipv6_text a e)

pub ruleset ipv6_text_laws = (IsCanonicalText-ipv6_text, one_canonical, IsIpv6Text-ipv6_text)

-- the two forms, as they are pushed
pub printed_mapped : (a : List Bool) → bytes_eq (take 6 (groups_of a)) mapped_groups ≡ true → codes "::ffff:" ++ ipv4_text (drop 96 a) ≡ ipv6_text a
unfolding ipv6_text
printed_mapped a e = rw e refl

pub printed_groups_alone : (a : List Bool) → bytes_eq (take 6 (groups_of a)) mapped_groups ≡ false → hex_groups_text (groups_of a) ≡ ipv6_text a
unfolding ipv6_text
printed_groups_alone a e = rw e refl
