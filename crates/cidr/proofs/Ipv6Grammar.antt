-- IPv6 texts are those of std's grammar.
use Rattle.std.proofs.Common.{◌≡◌, ℕ, ◌+◌, ◌-◌, ◌*◌, ◌<◌, ◌⊎◌, Bool, true, false, List, [], ◌∷◌, ◌++◌, length, replicate, decimal, refl, sym, ap, ap₂, ◌∙◌, subst, arith, inl, inr, append_assoc, append-nil, true≢false}
use Rattle.std.specs.Char.{digit_value}
use Rattle.std.specs.Str.Parse.{AllDigits}
use Rattle.std.specs.Net.Addr.{segments_of}
use Rattle.std.specs.Net.Text.{dotted_text}
use Rattle.std.specs.Net.Grammar.{IsDotted, IsGroup, IsGroupsAfter, IsColonHex}
use Rattle.std.specs.Net.Grammar as Std
use Rattle.std.proofs.NetLemmas.Options.{same_parts}
use Rattle.std.proofs.NetLemmas.Ipv6.{read_ipv6_complete, EndsGroups-nil, IsDotted-not_colon_hex}
use Rattle.cidr.specs.model.Address.{group_bits}
use Rattle.cidr.specs.texts.Ipv4Text.{dot, IsIpv4Text}
use Rattle.cidr.specs.texts.Ipv6Text.{colon, IsGroupText, IsGroups, IsDottedPair, IsRun, IsNothing, IsEightGroups, IsIpv6Text}
use Rattle.cidr.specs.texts.NetworkText.{slash}
use Rattle.cidr.specs.texts.Refusal.{Lacks}
use Rattle.cidr.proofs.OctetReading.{IsOctetText-decimal, decimal-IsOctetText, four_joined}
use Rattle.cidr.proofs.Cuts.{Lacks-append, Lacks-cons}
use Rattle.cidr.proofs.Ipv4Grammar.{IsGrammar, Lacks-octets}

-- ---- from std's grammar
group_text : (text : List ℕ) (s : ℕ) → IsGroup text s → IsGroupText text s
group_text text s h = (h.0.0, h.1, h.0.1)

dotted_text-joined : (a b c d : ℕ) → dotted_text a b c d ≡ decimal a ++ dot ∷ (decimal b ++ dot ∷ (decimal c ++ dot ∷ decimal d))
dotted_text-joined a b c d = simp append_assoc

-- the two groups of four octets
abbrev first_group : (text octets : List ℕ) → IsDotted text octets → ℕ
first_group text octets d = d.a * 256 + d.b

abbrev second_group : (text octets : List ℕ) → IsDotted text octets → ℕ
second_group text octets d = d.c * 256 + d.d

two_groups : (text octets : List ℕ) (d : IsDotted text octets) → segments_of octets ≡ first_group text octets d ∷ second_group text octets d ∷ []
two_groups text octets d = ap segments_of d.value

pub dotted_pair : (text octets : List ℕ) (d : IsDotted text octets) → IsDottedPair text (first_group text octets d) (second_group text octets d)
dotted_pair text octets d =
    let shown = d.spelled ∙ dotted_text-joined d.a d.b d.c d.d in (
      d.a,
      d.b,
      d.c,
      d.d,
      (
        decimal d.a,
        _,
        shown,
        IsOctetText-decimal d.a d.fit.0,
        (decimal d.b, _, refl, IsOctetText-decimal d.b d.fit.1, (decimal d.c, decimal d.d, refl, IsOctetText-decimal d.c d.fit.2, IsOctetText-decimal d.d d.fit.3)),
      ),
      refl,
      refl,
    )

-- one more group in front of groups, and of a run
more_groups : (front back : List ℕ) (s : ℕ) (groups : List ℕ) → IsGroupText front s → IsGroups back groups → IsGroups (front ++ colon ∷ back) (s ∷ groups)
more_groups front back s [] g h = absurd h
more_groups front back s (t ∷ groups) g h = (front, back, refl, g, h)

more_run : (front back : List ℕ) (s : ℕ) (groups : List ℕ) → IsGroupText front s → IsRun back groups → IsRun (front ++ colon ∷ back) (s ∷ groups)
more_run front back s groups g (inl h) = inl (more_groups front back s groups g h)
more_run front back s groups g (inr (before, x, y, e, inl (nothing, pair))) =
    inr (s ∷ [], x, y, ap (λ t. s ∷ t) (e ∙ ap (λ b. b ++ x ∷ y ∷ []) nothing), inr (front, back, refl, g, pair))
more_run front back s groups g (inr (before, x, y, e, inr (f, b, split, h, pair))) =
    let shown : front ++ colon ∷ back ≡ (front ++ colon ∷ f) ++ colon ∷ b = ap (λ t. front ++ colon ∷ t) split ∙ sym (append_assoc front (colon ∷ f) (colon ∷ b)) in
    inr (s ∷ before, x, y, ap (λ t. s ∷ t) e, inr (front ++ colon ∷ f, b, shown, more_groups front f s before g h, pair))

groups_from_first : (group rest : List ℕ) (s : ℕ) (segments : List ℕ) → IsGroup group s → IsGroupsAfter false (58 ∷ []) rest segments → IsGroups (group ++ rest) (s ∷ segments)
groups_from_first group rest s [] g h = rw (h, append-nil group) (group_text group s g)
groups_from_first group rest s (t ∷ segments) g (inl (next, more, split, n, later)) =
    rw split (more_groups group (next ++ more) s (t ∷ segments) (group_text group s g) (groups_from_first next more t segments n later))
groups_from_first group rest s (t ∷ segments) g (inr h) = absurd (true≢false (sym h.2))

run_from_first : (group rest : List ℕ) (s : ℕ) (segments : List ℕ) → IsGroup group s → IsGroupsAfter true (58 ∷ []) rest segments → IsRun (group ++ rest) (s ∷ segments)
run_from_first group rest s [] g h = rw (h, append-nil group) (inl (group_text group s g))
run_from_first group rest s (t ∷ segments) g (inl (next, more, split, n, later)) =
    rw split (more_run group (next ++ more) s (t ∷ segments) (group_text group s g) (run_from_first next more t segments n later))
run_from_first group rest s (t ∷ segments) g (inr (last, octets, allowed, split, d, e)) =
    rw split (inr (
      s ∷ [],
      first_group last octets d,
      second_group last octets d,
      ap (λ t. s ∷ t) (e ∙ two_groups last octets d),
      inr (group, last, refl, group_text group s g, dotted_pair last octets d),
    ))

groups_from_std : (text groups : List ℕ) → Std.IsGroups false text groups → IsNothing text groups ⊎ IsGroups text groups
groups_from_std text [] h = inl (h, refl)
groups_from_std text (s ∷ groups) (inl (group, rest, split, g, more)) = inr (rw split (groups_from_first group rest s groups g more))
groups_from_std text (s ∷ groups) (inr h) = absurd (true≢false (sym h.2))

run_from_std : (text groups : List ℕ) → Std.IsGroups true text groups → IsNothing text groups ⊎ IsRun text groups
run_from_std text [] h = inl (h, refl)
run_from_std text (s ∷ groups) (inl (group, rest, split, g, more)) = inr (rw split (run_from_first group rest s groups g more))
run_from_std text (s ∷ groups) (inr (last, octets, allowed, split, d, e)) =
    inr (rw split (inr ([], first_group last octets d, second_group last octets d, e ∙ two_groups last octets d, inl (refl, dotted_pair last octets d))))

missing : (groups head tail : List ℕ) → groups ≡ head ++ replicate (8 - length head - length tail) 0 ++ tail → groups ≡ head ++ replicate (8 - (length head + length tail)) 0 ++ tail
missing groups head tail e =
    let same : 8 - length head - length tail ≡ 8 - (length head + length tail) = omega arith in
    e ∙ ap (λ n. head ++ replicate n 0 ++ tail) same

eight_from_std : (text groups : List ℕ) → IsColonHex text groups → IsEightGroups text groups
eight_from_std text groups (inl (h, eight)) = elim (run_from_std text groups h) [
  | inl none ↦ absurd (omega (arith, ap length none.1))
  | inr run ↦ inl (run, eight)
]
eight_from_std text groups (inr h) = inr (record {
  front = h.head_text;
  back = h.tail_text;
  head = h.head;
  tail = h.tail;
  spelled = h.spelled ∙ append_assoc h.head_text (colon ∷ colon ∷ []) h.tail_text;
  front_text = groups_from_std h.head_text h.head h.head_groups;
  back_text = run_from_std h.tail_text h.tail h.tail_groups;
  room = omega (arith, h.room);
  value = missing groups h.head h.tail h.value;
})

pub IsIpv6Text-from_colon_hex : (text groups : List ℕ) → IsColonHex text groups → IsIpv6Text text (group_bits groups)
IsIpv6Text-from_colon_hex text groups h = record { groups = groups; eight = eight_from_std text groups h; value = refl }

-- ---- to std's grammar
std_group : (text : List ℕ) (s : ℕ) → IsGroupText text s → IsGroup text s
std_group text s h = ((h.0, h.2), h.1)

pub std_dotted : (text : List ℕ) (g h : ℕ) → IsDottedPair text g h → (octets : List ℕ) × IsDotted text octets × (g ∷ h ∷ [] ≡ segments_of octets)
std_dotted text g h (a, b, c, d, (ta, after_a, split_a, octet_a, (tb, after_b, split_b, octet_b, (tc, td, split_c, octet_c, octet_d))), first, second) =
    let shown : text ≡ decimal a ++ dot ∷ (decimal b ++ dot ∷ (decimal c ++ dot ∷ decimal d)) =
    rw (split_a, split_b, split_c, decimal-IsOctetText ta a octet_a, decimal-IsOctetText tb b octet_b, decimal-IsOctetText tc c octet_c, decimal-IsOctetText td d octet_d) refl in (
      a ∷ b ∷ c ∷ d ∷ [],
      record {
        a = a;
        b = b;
        c = c;
        d = d;
        fit = (octet_a.fits, octet_b.fits, octet_c.fits, octet_d.fits);
        value = refl;
        spelled = shown ∙ sym (dotted_text-joined a b c d);
      },
      ap₂ (λ x y. x ∷ y ∷ []) first second,
    )

std_groups : (ipv4 : Bool) (lead text groups : List ℕ) → IsGroups text groups → IsGroupsAfter ipv4 lead (lead ++ text) groups
std_groups ipv4 lead text [] h = absurd h
std_groups ipv4 lead text (s ∷ []) h = inl (text, [], sym (append-nil (lead ++ text)), std_group text s h, refl)
std_groups ipv4 lead text (s ∷ t ∷ groups) (front, back, split, g, more) =
    inl (front, colon ∷ back, ap (λ x. lead ++ x) split ∙ sym (append_assoc lead front (colon ∷ back)), std_group front s g, std_groups ipv4 (colon ∷ []) back (t ∷ groups) more)

std_dotted_last : (lead text : List ℕ) (g h : ℕ) → IsDottedPair text g h → IsGroupsAfter true lead (lead ++ text) (g ∷ h ∷ [])
std_dotted_last lead text g h pair =
    let (octets, d, e) = std_dotted text g h pair in
    inr (text, octets, refl, refl, d, e)

std_dotted_run : (lead front back before : List ℕ) (g h : ℕ) → IsGroups front before → IsDottedPair back g h → IsGroupsAfter true lead (lead ++ (front ++ colon ∷ back)) (before ++ g ∷ h ∷ [])
std_dotted_run lead front back [] g h groups pair = absurd groups
std_dotted_run lead front back (s ∷ []) g h groups pair =
    inl (front, colon ∷ back, sym (append_assoc lead front (colon ∷ back)), std_group front s groups, std_dotted_last (colon ∷ []) back g h pair)
std_dotted_run lead front back (s ∷ t ∷ before) g h (f, b, split, group, more) pair =
    let shown : lead ++ (front ++ colon ∷ back) ≡ lead ++ f ++ (colon ∷ (b ++ colon ∷ back)) = rw split (simp append_assoc) in
    inl (f, colon ∷ (b ++ colon ∷ back), shown, std_group f s group, std_dotted_run (colon ∷ []) b back (t ∷ before) g h more pair)

std_run : (text groups : List ℕ) → IsRun text groups → Std.IsGroups true text groups
std_run text groups (inl h) = std_groups true [] text groups h
std_run text groups (inr (before, g, h, e, inl (none, pair))) =
    subst (Std.IsGroups true text) (sym (e ∙ ap (λ b. b ++ g ∷ h ∷ []) none)) (std_dotted_last [] text g h pair)
std_run text groups (inr (before, g, h, e, inr (front, back, split, more, pair))) =
    rw split (subst (Std.IsGroups true (front ++ colon ∷ back)) (sym e) (std_dotted_run [] front back before g h more pair))

std_nothing : (ipv4 : Bool) (text groups : List ℕ) → IsNothing text groups → Std.IsGroups ipv4 text groups
std_nothing ipv4 text groups (none, empty) = subst (Std.IsGroups ipv4 text) (sym empty) none

std_front : (text groups : List ℕ) → IsNothing text groups ⊎ IsGroups text groups → Std.IsGroups false text groups
std_front text groups (inl h) = std_nothing false text groups h
std_front text groups (inr h) = std_groups false [] text groups h

std_back : (text groups : List ℕ) → IsNothing text groups ⊎ IsRun text groups → Std.IsGroups true text groups
std_back text groups (inl h) = std_nothing true text groups h
std_back text groups (inr h) = std_run text groups h

std_missing : (groups head tail : List ℕ) → groups ≡ head ++ replicate (8 - (length head + length tail)) 0 ++ tail → groups ≡ head ++ replicate (8 - length head - length tail) 0 ++ tail
std_missing groups head tail e =
    let same : 8 - (length head + length tail) ≡ 8 - length head - length tail = omega arith in
    e ∙ ap (λ n. head ++ replicate n 0 ++ tail) same

pub std_eight : (text groups : List ℕ) → IsEightGroups text groups → IsColonHex text groups
std_eight text groups (inl (run, eight)) = inl (std_run text groups run, eight)
std_eight text groups (inr h) = inr (record {
  head_text = h.front;
  tail_text = h.back;
  head = h.head;
  tail = h.tail;
  spelled = h.spelled ∙ sym (append_assoc h.front (colon ∷ colon ∷ []) h.back);
  head_groups = std_front h.front h.head h.front_text;
  tail_groups = std_back h.back h.tail h.back_text;
  room = omega (arith, h.room);
  value = std_missing groups h.head h.tail h.value;
})

pub colon_hex-from_IsIpv6Text : (text : List ℕ) (a : List Bool) → IsIpv6Text text a → (groups : List ℕ) × IsColonHex text groups × (a ≡ group_bits groups)
colon_hex-from_IsIpv6Text text a h = (h.groups, std_eight text h.groups h.eight, h.value)

-- ---- the grammar of IPv6 addresses
Lacks-hex : (ds : List ℕ) → AllDigits 16 ds → Lacks slash ds
Lacks-hex [] all = λ i l. absurd (omega arith)
Lacks-hex (c ∷ ds) all =
    Lacks-cons slash c ds (λ e. let digit : digit_value 47 < 16 = rw e at all.0 in absurd (omega arith)) (Lacks-hex ds all.1)

-- two parts and what stands between them
Lacks-between : (text front back : List ℕ) → text ≡ front ++ colon ∷ back → Lacks slash front → Lacks slash back → Lacks slash text
Lacks-between text front back e h k = rw e (Lacks-append slash front (colon ∷ back) h (Lacks-cons slash colon back (omega arith) k))

Lacks-nothing : (text groups : List ℕ) → IsNothing text groups → Lacks slash text
Lacks-nothing text groups h = rw h.0 (λ i l. absurd (omega arith))

Lacks-groups : (text groups : List ℕ) → IsGroups text groups → Lacks slash text
Lacks-groups text [] h = absurd h
Lacks-groups text (g ∷ []) h = Lacks-hex text h.0.1
Lacks-groups text (g ∷ t ∷ groups) (front, back, split, h, more) =
    Lacks-between text front back split (Lacks-hex front h.0.1) (Lacks-groups back (t ∷ groups) more)

Lacks-pair : (text : List ℕ) (g h : ℕ) → IsDottedPair text g h → Lacks slash text
Lacks-pair text g h (i, j, k, l, joined, _, _) = Lacks-octets text (i ∷ j ∷ k ∷ l ∷ []) joined

Lacks-run : (text groups : List ℕ) → IsRun text groups → Lacks slash text
Lacks-run text groups (inl h) = Lacks-groups text groups h
Lacks-run text groups (inr (before, g, h, e, inl (_, pair))) = Lacks-pair text g h pair
Lacks-run text groups (inr (before, g, h, e, inr (front, back, split, more, pair))) =
    Lacks-between text front back split (Lacks-groups front before more) (Lacks-pair back g h pair)

Lacks-front : (text groups : List ℕ) → IsNothing text groups ⊎ IsGroups text groups → Lacks slash text
Lacks-front text groups (inl h) = Lacks-nothing text groups h
Lacks-front text groups (inr h) = Lacks-groups text groups h

Lacks-back : (text groups : List ℕ) → IsNothing text groups ⊎ IsRun text groups → Lacks slash text
Lacks-back text groups (inl h) = Lacks-nothing text groups h
Lacks-back text groups (inr h) = Lacks-run text groups h

Lacks-eight : (text groups : List ℕ) → IsEightGroups text groups → Lacks slash text
Lacks-eight text groups (inl h) = Lacks-run text groups h.0
Lacks-eight text groups (inr h) =
    Lacks-between text h.front (colon ∷ h.back) h.spelled (Lacks-front h.front h.head h.front_text) (Lacks-cons slash colon h.back (omega arith) (Lacks-back h.back h.tail h.back_text))

-- a text spells one list of groups
one_groups : (text groups others : List ℕ) → IsColonHex text groups → IsColonHex text others → groups ≡ others
one_groups text groups others h k =
    (same_parts _ _ _ _ (sym (read_ipv6_complete text groups [] h EndsGroups-nil) ∙ read_ipv6_complete text others [] k EndsGroups-nil)).0

pub ipv6_grammar : IsGrammar IsIpv6Text
ipv6_grammar = record {
  no_slash = λ text a h. Lacks-eight text h.groups h.eight;
  one_value = λ text a b h k. h.value ∙ ap group_bits (one_groups text h.groups k.groups (std_eight text h.groups h.eight) (std_eight text k.groups k.eight)) ∙ sym k.value;
}

-- no text spells an address of each family
pub not_both : (text : List ℕ) (a b : List Bool) → IsIpv4Text text a → ¬ (IsIpv6Text text b)
not_both text a b h k =
    let (i, j, m, n, joined) = four_joined text a h in
    let (octets, d, _) = std_dotted text (i * 256 + j) (m * 256 + n) (i, j, m, n, joined, refl, refl) in
    IsDotted-not_colon_hex text octets k.groups d (std_eight text k.groups k.eight)
