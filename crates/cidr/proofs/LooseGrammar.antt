-- A loose text spells one address, and a strict text is a loose text of the same address.
use Rattle.std.proofs.Common.{◌≡◌, ◌≢◌, ℕ, ◌+◌, ◌-◌, ◌*◌, ◌/◌, ◌%◌, ◌^◌, ◌<◌, ◌≤◌, Bool, List, [], ◌∷◌, ◌++◌, length, get_or, drop, refl, sym, ap, ap₂, ◌∙◌, subst, arith, inl, inr, append-nil, append_assoc, length-append}
use Rattle.std.proofs.lemmas.Bool.{cases_eq}
use Rattle.std.proofs.lemmas.List.{same_from_push}
use Rattle.std.proofs.lemmas.Nat.{pow_pos, shr_split, mod_below}
use Rattle.std.specs.Char.{digit_value}
use Rattle.std.specs.Str.Parse.{digits_value}
use Rattle.cidr.specs.model.Bits.{bits}
use Rattle.cidr.specs.model.Address.{octet_bits}
use Rattle.cidr.specs.laws.BitLaws.{bits-cat}
use Rattle.cidr.specs.texts.Ipv4Text.{dot, digit_zero, IsOctetText, IsJoined, IsIpv4Text}
use Rattle.cidr.specs.texts.Ipv6Text.{colon, IsGroups, IsRun, IsEightGroups, IsIpv6Text}
use Rattle.cidr.specs.texts.NetworkText.{plus}
use Rattle.cidr.specs.texts.Refusal.{Lacks}
use Rattle.cidr.specs.texts.LooseText.{IsU32Text, IsLetterX, IsLoosePart, IsLooseText, IsLooseIpText}
use Rattle.cidr.specs.internal.Joined.{JoinsParts}
use Rattle.cidr.specs.either.IpAddress.{IsIpText}
use Rattle.cidr.specs.declared.addr.ip.IpAddr.{IpAddr}
use Rattle.cidr.specs.declared.addr.ip.IpAddr.TheVariants.{V4, V6}
use Rattle.cidr.proofs.Cuts.{Lacks-cons, Lacks-digits, not_lacking, no_plus}
use Rattle.cidr.proofs.OctetReading.{four_joined, ipv4_spelled}
use Rattle.cidr.proofs.JoinedReading.{joined_octets, joined_map}
use Rattle.cidr.proofs.Ipv4Grammar.{ipv4_grammar, one_joined, Lacks-joined}
use Rattle.cidr.proofs.Ipv6Grammar.{ipv6_grammar}
use Rattle.cidr.proofs.LooseReading.{MayFollowPlus, hex_cut, octal_cut, decimal_cut, no_letter_x}

-- a byte that is no digit, no plus and no letter x
pub record IsApart (c : ℕ) : Type 0 where
  pub digit : 16 ≤ digit_value c
  pub sign : plus ≢ c
  pub letter : ¬ (IsLetterX c)

dot_apart : IsApart dot
dot_apart = record { digit = omega arith; sign = omega arith; letter = not_x }
  where
    not_x : ¬ (IsLetterX dot)
    not_x (inl e) = omega arith
    not_x (inr e) = omega arith

colon_apart : IsApart colon
colon_apart = record { digit = omega arith; sign = omega arith; letter = not_x }
  where
    not_x : ¬ (IsLetterX colon)
    not_x (inl e) = omega arith
    not_x (inr e) = omega arith

Lacks-loose : (c : ℕ) (text : List ℕ) (n : ℕ) → IsApart c → IsLoosePart text n → Lacks c text
Lacks-loose c text n apart (inl (x, digits, e, letter, number)) =
    let zero_first : digit_zero ≢ c = λ same. let small : digit_value c ≡ 0 = rw (← same) refl in omega (arith, apart.digit) in
    rw e (Lacks-cons c digit_zero (x ∷ digits) zero_first (Lacks-cons c x digits (λ same. apart.letter (subst IsLetterX same letter)) (Lacks-digits 16 c digits apart.digit number.0.1)))
Lacks-loose c text n apart (inr (inl (_, number))) = Lacks-digits 8 c text (omega (arith, apart.digit)) number.0.1
Lacks-loose c text n apart (inr (inr (inl (_, number)))) = Lacks-digits 10 c text (omega (arith, apart.digit)) number.0.1
Lacks-loose c text n apart (inr (inr (inr (digits, e, number)))) =
    rw e (Lacks-cons c plus digits apart.sign (Lacks-digits 10 c digits (omega (arith, apart.digit)) number.0.1))

-- an octal number has no letter x in second place
octal_second : (text : List ℕ) (n : ℕ) → IsU32Text 8 text n → ¬ (IsLetterX (get_or text 1 0))
octal_second [] n number letter = omega (arith, number.0.0)
octal_second (d ∷ []) n number (inl e) = omega arith
octal_second (d ∷ []) n number (inr e) = omega arith
octal_second (d ∷ x ∷ ds) n number letter = no_letter_x x letter number.0.1.1.0

one_loose : (text : List ℕ) (m n : ℕ) → IsLoosePart text m → IsLoosePart text n → m ≡ n
one_loose text m n (inl (x, digits, e, letter, number)) k =
    let (u, a, other) = hex_cut text digits x letter e text [] n (sym (append-nil text)) (inl refl) k in
    sym number.1 ∙ ap (λ t. digits_value 16 (drop 2 t)) (sym e ∙ a) ∙ other.1
one_loose [] m n (inr (inl (_, number))) k = absurd (omega (arith, number.0.0))
one_loose (d ∷ ds) m n (inr (inl (zero_first, number))) k =
    let begins : d ∷ ds ≡ digit_zero ∷ ds = ap (λ z. z ∷ ds) zero_first in
    let other = octal_cut (d ∷ ds) ds begins (octal_second (d ∷ ds) m number) (d ∷ ds) [] n (sym (append-nil (d ∷ ds))) k in
    sym number.1 ∙ other.1
one_loose text m n (inr (inr (inl (first, number)))) k =
    same (decimal_cut text (λ rest e. first (ap (λ t. get_or t 0 0) e)) text [] n (sym (append-nil text)) k)
  where
    same : MayFollowPlus text n → m ≡ n
    same (inl other) = sym number.1 ∙ other.1
    same (inr (u, e, other)) = absurd (no_plus text u number.0 e)
one_loose text m n (inr (inr (inr (digits, e, number)))) k =
    same (decimal_cut text not_zero text [] n (sym (append-nil text)) k)
  where
    not_zero : (rest : List ℕ) → text ≢ digit_zero ∷ rest
    not_zero rest z = let clash : plus ≡ digit_zero = ap (λ t. get_or t 0 0) (sym e ∙ z) in omega arith

    same : MayFollowPlus text n → m ≡ n
    same (inl other) = absurd (no_plus text digits other.0 e)
    same (inr (u, a, other)) = sym number.1 ∙ ap (λ t. digits_value 10 (drop 1 t)) (sym e ∙ a) ∙ other.1

-- ---- loose texts
-- the numbers of a text that is joined so
one_list : (text ms ns : List ℕ) → IsJoined IsLoosePart text ms → IsJoined IsLoosePart text ns → ms ≡ ns
one_list = one_joined IsLoosePart (λ text n h. Lacks-loose dot text n dot_apart h) one_loose

pub one_loose_text : (text : List ℕ) (a b : List Bool) → IsLooseText text a → IsLooseText text b → a ≡ b
one_loose_text text a b h k =
    let (octets, last) = same_from_push h.octets k.octets h.last k.last (one_list text _ _ h.joined k.joined) in
    h.value ∙ ap₂ (λ o n. octet_bits o ++ bits (32 - 8 * length o) n) octets last ∙ sym k.value

-- what the reader makes of the parts
pub loose_value : (text : List ℕ) (front count last : ℕ) → JoinsParts IsLoosePart text front count last → last / 2 ^ (32 - 8 * count) ≡ 0
    → IsLooseText text (bits 32 (front * 2 ^ (32 - 8 * count) + last))
loose_value text front count last h fits =
    let free = 32 - 8 * length h.octets in
    let same : 32 - 8 * count ≡ free = omega (arith, h.many) in
    let small : last < 2 ^ free = rw same at (below last (32 - 8 * count) fits) in
    let width : 32 ≡ 8 * length h.octets + free = omega (arith, h.fit.0) in
    record {
      octets = h.octets;
      last = last;
      few = h.fit.0;
      fit = h.fit.1;
      last_fits = small;
      joined = h.joined;
      value = rw same (ap (λ w. bits w (front * 2 ^ free + last)) width ∙ bits-cat (8 * length h.octets) free front last small ∙ ap (λ t. t ++ bits free last) h.number.value);
    }
  where
    below : (n k : ℕ) → n / 2 ^ k ≡ 0 → n < 2 ^ k
    below n k e =
        let split : 0 * 2 ^ k + n % 2 ^ k ≡ n = rw e at (shr_split n k) in
        omega (arith, mod_below n (2 ^ k) (pow_pos k))

-- ---- strict texts
octet_is_loose : (text : List ℕ) (n : ℕ) → IsOctetText text n → IsLoosePart text n
octet_is_loose text n h =
    elim (cases_eq (get_or text 0 0) digit_zero) [
      | inl zero_first ↦ inr (inl (zero_first, lone_zero text n h zero_first))
      | inr other ↦ inr (inr (inl (other, (h.digits, h.value, omega (arith, h.fits)))))
    ]
  where
    lone_zero : (text : List ℕ) (n : ℕ) → IsOctetText text n → get_or text 0 0 ≡ digit_zero → IsU32Text 8 text n
    lone_zero [] n h z = absurd (omega arith)
    lone_zero (d ∷ []) n h z =
        let zero_value : digits_value 10 (d ∷ []) ≡ 0 = rw z refl in
        ((omega arith, rw z (omega arith, tt)), rw z (sym zero_value ∙ h.value), omega (arith, h.fits))
    lone_zero (d ∷ x ∷ ds) n h z = absurd (omega (arith, h.no_leading_zero z))

-- the last of four octets as the last number
last_octet : (a b c d : ℕ) → octet_bits (a ∷ b ∷ c ∷ d ∷ []) ≡ octet_bits (a ∷ b ∷ c ∷ []) ++ bits 8 d
last_octet a b c d = simp (append_assoc, append-nil)

pub strict_is_loose : (text : List ℕ) (a : List Bool) → IsIpv4Text text a → IsLooseText text a
strict_is_loose text a h =
    let (i, j, k, l, joined) = four_joined text a h in
    let (octets, last) = joined_octets IsOctetText (λ n. n < 256) (λ t n p. p.fits) text (i ∷ j ∷ k ∷ []) l joined in
    let same = ipv4_grammar.one_value text a _ h (ipv4_spelled text i j k l joined) in
    record {
      octets = i ∷ j ∷ k ∷ [];
      last = l;
      few = omega arith;
      fit = octets;
      last_fits = last;
      joined = joined_map IsOctetText IsLoosePart octet_is_loose text (i ∷ j ∷ k ∷ l ∷ []) joined;
      value = same ∙ last_octet i j k l;
    }

-- ---- either family
-- an IPv6 text has a colon
pub has_colon : (text : List ℕ) (a : List Bool) → IsIpv6Text text a → ¬ (Lacks colon text)
has_colon text a h lacks = whole h.eight
  where
    between : (front back : List ℕ) → text ≢ front ++ colon ∷ back
    between front back e = not_lacking colon front back (subst (Lacks colon) e lacks)

    groups : (gs : List ℕ) → IsGroups text gs → length gs ≢ 8
    groups [] g e = g
    groups (x ∷ []) g e = omega arith
    groups (x ∷ y ∷ gs) (front, back, split, _, _) e = between front back split

    run : (gs : List ℕ) → IsRun text gs → length gs ≢ 8
    run gs (inl g) e = groups gs g e
    run gs (inr (before, g, k, all, inl (none, pair))) e = omega (arith, ap length all, ap length none, length-append before (g ∷ k ∷ []))
    run gs (inr (before, g, k, all, inr (front, back, split, _, _))) e = between front back split

    whole : ¬ (IsEightGroups text h.groups)
    whole (inl (r, eight)) = run h.groups r eight
    whole (inr e) = between e.front (colon ∷ e.back) e.spelled

Lacks-loose_text : (text : List ℕ) (a : List Bool) → IsLooseText text a → Lacks colon text
Lacks-loose_text text a h = Lacks-joined IsLoosePart colon (λ t n part. Lacks-loose colon t n colon_apart part) (omega arith) text (h.octets ++ h.last ∷ []) h.joined

pub one_loose_ip : (text : List ℕ) (a b : IpAddr) → IsLooseIpText text a → IsLooseIpText text b → a ≡ b
one_loose_ip text (V4 a) (V4 b) h k = ap V4 (one_loose_text text a b h k)
one_loose_ip text (V4 a) (V6 b) h k = absurd (has_colon text b k (Lacks-loose_text text a h))
one_loose_ip text (V6 a) (V4 b) h k = absurd (has_colon text a h (Lacks-loose_text text b k))
one_loose_ip text (V6 a) (V6 b) h k = ap V6 (ipv6_grammar.one_value text a b h k)

-- a strict text of either family
pub strict_ip_is_loose : (text : List ℕ) (a : IpAddr) → IsIpText text a → IsLooseIpText text a
strict_ip_is_loose text (V4 a) h = strict_is_loose text a h
strict_ip_is_loose text (V6 a) h = h

pub no_loose_ip : (text : List ℕ) → ((a : IpAddr) → ¬ (IsIpText text a)) → ((a : List Bool) → ¬ (IsLooseText text a)) → (a : IpAddr) → ¬ (IsLooseIpText text a)
no_loose_ip text strict loose (V4 a) = loose a
no_loose_ip text strict loose (V6 a) = strict (V6 a)
