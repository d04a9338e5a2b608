-- A line of prefix lists says one thing at most.
use Rattle.std.proofs.Common.{◌≡◌, ◌≢◌, refl, sym, ◌∙◌, ap, ap₂, subst, arith, get_or, ℕ, List, [], ◌∷◌, codes, Option, Some, None}
use Rattle.std.specs.List.{AllZip, before_first}
use Rattle.std.specs.Str.{IsTrimAscii}
use Rattle.std.specs.Str.Parse.{digits_value, without_leading_plus}
use Rattle.cidr.specs.declared.cidr.combined.IpCidr.{IpCidr}
use Rattle.cidr.specs.declared.family.Family.{Family}
use Rattle.cidr.specs.declared.family.Family.TheVariants.{Ipv4, Ipv6}
use Rattle.cidr_sets.specs.declared.access.Action.{Action}
use Rattle.cidr_sets.specs.declared.access.Action.TheVariants.{Permit, Deny}
use Rattle.cidr_lists.specs.Fields.{AreFirstAndRest}
use Rattle.cidr_lists.specs.Lists.{IsNetworkBy}
use Rattle.cidr_lists.specs.ListTexts.{RowLineSays}
use Rattle.cidr_lists.specs.PrefixLists.{CiscoSays, ClearedSays, IsNoRow, IsSomeRow, LengthsSay, ListWordsSay, NameSays, NetworkSays, NumberSays, OptionSays, RowSays, family_word, high_of, is_mark, low_of}
use Rattle.cidr_lists.specs.Rules.{action_text}
use Rattle.cidr_lists.specs.declared.lines.HostBits.TheVariants.{Refused}
use Rattle.cidr_lists.specs.declared.prefix_lists.ListChange.{ListChange}
use Rattle.cidr_lists.specs.declared.prefix_lists.ListChange.TheVariants.{AddRow, Clear}
use Rattle.cidr_lists.specs.declared.prefix_lists.ListRow.{ListRow}
use Rattle.cidr_lists.proofs.PrintedLines.{one_by}
use Rattle.cidr_lists.proofs.WordRows.{one_first, one_trimmed}

-- ---- words
one_family : (f g : Family) → family_word f ≡ family_word g → f ≡ g
one_family Ipv4 Ipv4 e = refl
one_family Ipv4 Ipv6 e = cc
one_family Ipv6 Ipv4 e = cc
one_family Ipv6 Ipv6 e = refl

one_action : (a b : Action) → action_text a ≡ action_text b → a ≡ b
one_action Permit Permit e = refl
one_action Permit Deny e = cc
one_action Deny Permit e = cc
one_action Deny Deny e = refl

one_option : (word text : List ℕ) (m n : Option ℕ) (r s : List ℕ) → OptionSays word text m r → OptionSays word text n s → (m ≡ n) × (r ≡ s)
one_option word text None None r s (e, _, _, _, _) (f, _, _, _, _) = (refl, e ∙ sym f)
one_option word text None (Some n) r s (e, first, behind, h, other) (b, digits, k, _, _, _) = absurd (other (one_first text first word behind b h k).0)
one_option word text (Some m) None r s (b, digits, h, _, _, _) (e, first, behind, k, other) = absurd (other (one_first text first word behind b k h).0)
one_option word text (Some m) (Some n) r s (b, digits, h, first, is, _) (c, others, k, next, also, _) =
    let same : b ≡ c = (one_first text word word b c h k).1 in
    let cut = one_first b digits others r s first (subst (λ (t : List ℕ). AreFirstAndRest t others s) (sym same) next) in
    (ap Some (is.1 ∙ (ap (λ (ds : List ℕ). digits_value 10 (without_leading_plus ds)) cut.0 ∙ sym also.1)), cut.1)

one_lengths : (network : IpCidr) (text : List ℕ) (low high other_low other_high : ℕ) → LengthsSay network text low high → LengthsSay network text other_low other_high
    → (low ≡ other_low) × (high ≡ other_high)
one_lengths network text low high other_low other_high (ge, le, rest, a, b, p, q, _) (others_ge, others_le, behind, c, d, r, s, _) =
    let one = one_option (codes "ge") text ge others_ge rest behind a c in
    let two = one_option (codes "le") rest le others_le [] [] b (subst (λ (t : List ℕ). OptionSays (codes "le") t others_le []) (sym one.1) d) in
    (p ∙ (ap (low_of network) one.0 ∙ sym r), q ∙ (ap₂ (high_of network) one.0 two.0 ∙ sym s))

-- ---- a row
abbrev row_by : Option ℕ → Action → IpCidr → ℕ → ℕ → ListRow
row_by number action network low high = record { number = number; action = action; network = network; low = low; high = high }

one_network : (family : Family) (text : List ℕ) (u v : ListRow) → NetworkSays family text u → NetworkSays family text v
    → (u.network ≡ v.network) × (u.low ≡ v.low) × (u.high ≡ v.high)
one_network family text u v (word, rest, a, is, _, l) (other, behind, b, also, _, k) =
    let cut = one_first text word other rest behind a b in
    let same : u.network ≡ v.network = one_by Refused word u.network v.network is (subst (λ (t : List ℕ). IsNetworkBy Refused t v.network) (sym cut.0) also) in
    let lengths = one_lengths u.network rest u.low u.high v.low v.high l
    (subst (λ (n : IpCidr). LengthsSay n rest v.low v.high) (sym same) (subst (λ (t : List ℕ). LengthsSay v.network t v.low v.high) (sym cut.1) k)) in
    (same, lengths.0, lengths.1)

one_number : (family : Family) (text : List ℕ) (u v : ListRow) → NumberSays family text u → NumberSays family text v → u ≡ v
one_number family text u v (rest, a, (more, b, h)) (behind, c, (others, d, k)) =
    let number = one_option (codes "seq") text u.number v.number rest behind a c in
    let cut = one_first rest (action_text u.action) (action_text v.action) more others b
    (subst (λ (t : List ℕ). AreFirstAndRest t (action_text v.action) others) (sym number.1) d) in
    let network = one_network family more u v h (subst (λ (t : List ℕ). NetworkSays family t v) (sym cut.1) k) in
    ap (λ (n : Option ℕ). row_by n u.action u.network u.low u.high) number.0
    ∙ (ap (λ (a : Action). row_by v.number a u.network u.low u.high) (one_action u.action v.action cut.0)
    ∙ (ap (λ (n : IpCidr). row_by v.number v.action n u.low u.high) network.0
    ∙ (ap (λ (n : ℕ). row_by v.number v.action v.network n u.high) network.1
    ∙ ap (λ (n : ℕ). row_by v.number v.action v.network v.low n) network.2)))

one_name : (family : Family) (text : List ℕ) (u v : ListRow) (a b : List ℕ) → NameSays family text (u, a) → NameSays family text (v, b) → (u ≡ v) × (a ≡ b)
one_name family text u v a b (rest, h, _, says) (behind, k, _, tells) =
    let cut = one_first text a b rest behind h k in
    (one_number family rest u v says (subst (λ (t : List ℕ). NumberSays family t v) (sym cut.1) tells), cut.0)

one_words : (text : List ℕ) (f g : Family) (r s : List ℕ) → ListWordsSay text f r → ListWordsSay text g s → (f ≡ g) × (r ≡ s)
one_words text f g r s (behind, h, k) (others, i, j) =
    let first = one_first text (family_word f) (family_word g) behind others h i in
    let second = one_first behind (codes "prefix-list") (codes "prefix-list") r s k
    (subst (λ (t : List ℕ). AreFirstAndRest t (codes "prefix-list") s) (sym first.1) j) in
    (one_family f g first.0, second.1)

one_row : (text : List ℕ) (u v : ListRow) (a b : List ℕ) → RowSays text u a → RowSays text v b → (u ≡ v) × (a ≡ b)
one_row text u v a b (family, rest, words, says) (another, more, others, tells) =
    let same = one_words text family another rest more words others in
    one_name family rest u v a b says
    (subst (λ (f : Family). NameSays f rest (v, b)) (sym same.0) (subst (λ (t : List ℕ). NameSays another t (v, b)) (sym same.1) tells))

one_cleared : (text : List ℕ) (f g : Family) (a b : List ℕ) → ClearedSays text f a → ClearedSays text g b → (f ≡ g) × (a ≡ b)
one_cleared text f g a b (rest, words, first, _) (more, others, also, _) =
    let same = one_words text f g rest more words others in
    (same.0, (one_first rest a b [] [] first (subst (λ (t : List ℕ). AreFirstAndRest t b []) (sym same.1) also)).0)

no_some : (line text : List ℕ) → IsNoRow line → IsSomeRow line text → ⊥
no_some line text (other, also, none) (trimmed, some) = some (ap (before_first is_mark) (one_trimmed line text other trimmed also) ∙ none)

no_word : (f : Family) → family_word f ≢ codes "no"
no_word Ipv4 e = absurd (omega (arith, ap (λ (l : List ℕ). get_or l 0 0) e))
no_word Ipv6 e = absurd (omega (arith, ap (λ (l : List ℕ). get_or l 0 0) e))

row_or_no : (line text other behind name : List ℕ) (row : ListRow) → IsTrimAscii line text → IsTrimAscii line other → RowSays text row name
    → AreFirstAndRest other (codes "no") behind → ⊥
row_or_no line text other behind name row h k (family, rest, (more, first, _), _) first_no =
    let same : text ≡ other = one_trimmed line text other h k in
    no_word family (one_first text (family_word family) (codes "no") more behind first (subst (λ (t : List ℕ). AreFirstAndRest t (codes "no") behind) (sym same) first_no)).0

one_line : (line : List ℕ) (a b : Option (List ℕ) × Option ListChange) → CiscoSays line a.0 a.1 → CiscoSays line b.0 b.1 → a ≡ b
one_line line (None, None) (None, None) h k = refl
one_line line (None, Some x) b h k = absurd h
one_line line (Some m, None) b h k = absurd h
one_line line a (None, Some x) h k = absurd k
one_line line a (Some m, None) h k = absurd k
one_line line (None, None) (Some n, Some (AddRow v)) h (other, some, _) = absurd (no_some line other h some)
one_line line (None, None) (Some n, Some (Clear g)) h (other, behind, some, _, _) = absurd (no_some line other h some)
one_line line (Some m, Some (AddRow u)) (None, None) (text, some, _) k = absurd (no_some line text k some)
one_line line (Some m, Some (Clear f)) (None, None) (text, behind, some, _, _) k = absurd (no_some line text k some)
one_line line (Some m, Some (AddRow u)) (Some n, Some (AddRow v)) (text, some, says) (other, also, tells) =
    let one = one_row text u v m n says (subst (λ (t : List ℕ). RowSays t v n) (one_trimmed line other text also.0 some.0) tells) in
    ap₂ (λ (r : ListRow) (k : List ℕ). (Some k, Some (AddRow r))) one.0 one.1
one_line line (Some m, Some (AddRow u)) (Some n, Some (Clear g)) (text, some, says) (other, behind, also, first, _) =
    absurd (row_or_no line text other behind m u some.0 also.0 says first)
one_line line (Some m, Some (Clear f)) (Some n, Some (AddRow v)) (text, behind, some, first, _) (other, also, tells) =
    absurd (row_or_no line other text behind n v also.0 some.0 tells first)
one_line line (Some m, Some (Clear f)) (Some n, Some (Clear g)) (text, behind, some, first, says) (other, others, also, second, tells) =
    let same : other ≡ text = one_trimmed line other text also.0 some.0 in
    let next = one_first text (codes "no") (codes "no") behind others first (subst (λ (t : List ℕ). AreFirstAndRest t (codes "no") others) same second) in
    let one = one_cleared behind f g m n says (subst (λ (t : List ℕ). ClearedSays t g n) (sym next.1) tells) in
    ap₂ (λ (x : Family) (k : List ℕ). (Some k, Some (Clear x))) one.0 one.1

pub one_text : (lines : List (List ℕ)) (a b : List (Option (List ℕ) × Option ListChange)) → AllZip RowLineSays lines a → AllZip RowLineSays lines b → a ≡ b
one_text [] [] [] h k = refl
one_text [] [] (y ∷ b) h k = absurd k
one_text [] (x ∷ a) b h k = absurd h
one_text (line ∷ lines) [] b h k = absurd h
one_text (line ∷ lines) (x ∷ a) [] h k = absurd k
one_text (line ∷ lines) (x ∷ a) (y ∷ b) h k =
    ap₂ (λ (z : Option (List ℕ) × Option ListChange) (c : List (Option (List ℕ) × Option ListChange)). z ∷ c) (one_line line x y h.0.1 k.0.1) (one_text lines a b h.1 k.1)
