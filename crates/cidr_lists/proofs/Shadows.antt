-- Rules that no address reaches, as they are told.
use Rattle.std.proofs.Common.{◌≡◌, ◌↔◌, refl, sym, ◌∙◌, ap, subst, ℕ, ◌+◌, ◌<◌, Bool, List, [], ◌∷◌, ◌++◌, map, length, take, get_or, append_assoc, codes}
use Rattle.std.specs.List.{All, Contains, flat_map}
use Rattle.std.specs.List.Sorted.{IsStrictlyIncreasing}
use Rattle.std.proofs.lemmas.List.{flat_map_more, take_more}
use Rattle.std.proofs.lemmas.List.Elements.{All-map}
use Rattle.std.proofs.lemmas.List.Folds.{flat_map-map}
use Rattle.std.proofs.lemmas.Simd.{map-map}
use Rattle.cidr.specs.declared.family.Family.{Family}
use Rattle.cidr.specs.declared.family.Family.TheVariants.{Ipv4, Ipv6}
use Rattle.cidr_io.specs.Shown.{shown}
use Rattle.cidr_sets.specs.model.FirstRules.{AreDecidingRules, IsShadowed}
use Rattle.cidr_sets.specs.declared.access.Rule.{Rule}
use Rattle.cidr_sets.specs.declared.access.Shadow.{Shadow}
use Rattle.cidr_lists.specs.Printing.{line}
use Rattle.cidr_lists.specs.Rules.{AreShadowLines, AreShadows, plain_rule, rule_numbers, rule_place, rules_of, shadow_line}
use Rattle.cidr_lists.specs.declared.rules.Rules.{Rules}
use Rattle.cidr_lists.specs.declared.rules.Ruling.{Ruling}
use Rattle.cidr_lists.proofs.PrintedTexts.{AreAppended}

-- a rule that no address reaches, by indices
abbrev pub shadow_in : Shadow → ℕ × List ℕ
shadow_in shadow = (shadow.rule, shadow.by.items)

pub are_shadows : (networks : List (List Bool)) (shadows : List Shadow)
    → ((i : ℕ) → Contains (map (λ s. s.rule) shadows) i ↔ IsShadowed 129 networks i) → IsStrictlyIncreasing (map (λ s. s.rule) shadows)
    → All (λ s. AreDecidingRules 129 networks s.rule s.by.items) shadows → AreShadows networks (map shadow_in shadows)
are_shadows networks shadows exact ascending by =
    let rules : map (λ s. s.rule) shadows ≡ map (λ shadow. shadow.0) (map shadow_in shadows) = sym (map-map (λ (shadow : ℕ × List ℕ). shadow.0) shadow_in shadows) in
    record {
      exact = λ i. subst (λ (k : List ℕ). Contains k i ↔ IsShadowed 129 networks i) rules (exact i);
      ascending = subst IsStrictlyIncreasing rules ascending;
      by = All-map (λ (shadow : ℕ × List ℕ). AreDecidingRules 129 networks shadow.0 shadow.1) shadow_in shadows by;
    }

-- those of a family, behind what was told before
abbrev pub TellsShadows : {C : Type 0} → (C → List Bool) → List ℕ → List (C × Ruling) → List ℕ → List ℕ → Type 0
TellsShadows {C} bits name rules old new = (shadows : List (ℕ × List ℕ)) × AreShadows (map (λ (k : C × Ruling). bits k.0) rules) shadows
    × (new ≡ old ++ flat_map (shadow_line name (map (λ (k : C × Ruling). k.1.number) rules)) shadows)

pub tells_shadows : {C : Type 0} (bits : C → List Bool) (name : List ℕ) (rules : List (C × Ruling)) (plain : List (Rule C)) (shadows : List Shadow) (old new : List ℕ)
    → plain ≡ map plain_rule rules
    → ((i : ℕ) → Contains (map (λ s. s.rule) shadows) i ↔ IsShadowed 129 (map (λ (k : Rule C). bits k.network) plain) i)
    → IsStrictlyIncreasing (map (λ s. s.rule) shadows)
    → All (λ s. AreDecidingRules 129 (map (λ (k : Rule C). bits k.network) plain) s.rule s.by.items) shadows
    → new ≡ old ++ flat_map (λ (s : Shadow). shadow_line name (map (λ (k : C × Ruling). k.1.number) rules) (s.rule, s.by.items)) shadows
    → TellsShadows bits name rules old new
tells_shadows {C} bits name rules plain shadows old new is exact ascending by told =
    let networks : map (λ (k : Rule C). bits k.network) plain ≡ map (λ (k : C × Ruling). bits k.0) rules =
    ap (map (λ (k : Rule C). bits k.network)) is ∙ map-map (λ (k : Rule C). bits k.network) plain_rule rules in (
      map shadow_in shadows,
      subst (λ (k : List (List Bool)). AreShadows k (map shadow_in shadows)) networks
          (are_shadows (map (λ (k : Rule C). bits k.network) plain) shadows exact ascending by),
      told ∙ ap (λ (k : List ℕ). old ++ k) (sym (flat_map-map (shadow_line name (map (λ (k : C × Ruling). k.1.number) rules)) shadow_in shadows)),
    )

-- those of both families
pub both_told : (file name none one text : List ℕ) (rules : Rules) → name ≡ shown file → none ≡ []
    → TellsShadows (λ (p : List Bool). p) name rules.v4.items none one → TellsShadows (λ (p : List Bool). p) name rules.v6.items one text
    → (lines : Family → List ℕ) × ((family : Family) → AreShadowLines file (rules_of rules family) (lines family)) × (text ≡ lines Ipv4 ++ lines Ipv6)
both_told file name none one text rules named empty (four, of_four, first) (six, of_six, second) =
    let line_of : List (List Bool × Ruling) → ℕ × List ℕ → List ℕ = λ (k : List (List Bool × Ruling)). shadow_line (shown file) (rule_numbers k) in
    let begun : one ≡ flat_map (line_of rules.v4.items) four =
    first ∙ (ap (λ (k : List ℕ). k ++ flat_map (shadow_line name (rule_numbers rules.v4.items)) four) empty
    ∙ ap (λ (k : List ℕ). flat_map (shadow_line k (rule_numbers rules.v4.items)) four) named) in
    let lines : Family → List ℕ = elim [ Ipv4 ↦ flat_map (line_of rules.v4.items) four | Ipv6 ↦ flat_map (line_of rules.v6.items) six ] in (
      lines,
      elim [ Ipv4 ↦ (four, of_four, refl) | Ipv6 ↦ (six, of_six, refl) ],
      second ∙ (ap (λ (k : List ℕ). k ++ flat_map (shadow_line name (rule_numbers rules.v6.items)) six) begun
          ∙ ap (λ (k : List ℕ). flat_map (line_of rules.v4.items) four ++ flat_map (shadow_line k (rule_numbers rules.v6.items)) six) named),
    )

-- the places in their pieces
pub index_appended : (f : ℕ → List ℕ) (old all : List ℕ) (i : ℕ) (now new : List ℕ) → i < length all → AreAppended f old all i now
    → new ≡ now ++ f (get_or all i 0) → AreAppended f old all (i + 1) new
index_appended f old all i now new within before step =
    step ∙ (ap (λ (k : List ℕ). k ++ f (get_or all i 0)) before
    ∙ (flat_map_more f old (take i all) (get_or all i 0) ∙ ap (λ (k : List ℕ). old ++ flat_map f k) (sym (take_more all i 0 within))))

-- the line in its pieces
pub shadow_pushed : (file : List ℕ) (numbers : List ℕ) (i : ℕ) (by old one two three new : List ℕ) → one ≡ old ++ rule_place file numbers i
    → two ≡ one ++ codes ": shadowed by" → three ≡ two ++ flat_map (λ j. codes " " ++ rule_place file numbers j) by → new ≡ three ++ 10 ∷ []
    → new ≡ old ++ shadow_line file numbers (i, by)
shadow_pushed file numbers i by old one two three new p q r s =
    let places = flat_map (λ j. codes " " ++ rule_place file numbers j) by in
    s ∙ (ap (λ (k : List ℕ). k ++ 10 ∷ []) r
    ∙ (append_assoc two places (10 ∷ [])
    ∙ (ap (λ (k : List ℕ). k ++ line places) (q ∙ ap (λ (k : List ℕ). k ++ codes ": shadowed by") p)
    ∙ (append_assoc (old ++ rule_place file numbers i) (codes ": shadowed by") (line places)
    ∙ append_assoc old (rule_place file numbers i) (codes ": shadowed by" ++ line places)))))
