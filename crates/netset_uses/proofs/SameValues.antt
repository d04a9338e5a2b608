-- Tables of which `netset same` tells no difference.
use Rattle.std.proofs.Common.{◌≡◌, ◌≢◌, ◌⊎◌, ◌∙◌, refl, sym, ap, subst, inl, inr, ℕ, Bool, List, [], ◌∷◌, ◌++◌, codes, Contains, Option, Some, None}
use Rattle.std.specs.Cmp.{tied_itself}
use Rattle.std.specs.Cmp.Lexicographic.{slice_cmp}
use Rattle.std.specs.List.{flat_map}
use Rattle.std.specs.Option.{IfSome}
use Rattle.std.specs.Ordering.{nat_cmp}
use Rattle.std.specs.declared.cmp.Ordering.{Ordering}
use Rattle.std.specs.declared.cmp.Ordering.TheVariants.{Less, Equal, Greater}
use Rattle.std.proofs.lemmas.Cmp.{nat_list_cmp_total}
use Rattle.std.proofs.lemmas.Map.Lookups.{exact_bytes}
use Rattle.cidr.specs.model.Network.{HasWidth, width_of}
use Rattle.cidr.specs.texts.Printed.{plain_text}
use Rattle.cidr.specs.declared.family.Family.{Family}
use Rattle.cidr.specs.declared.family.Family.TheVariants.{Ipv4, Ipv6}
use Rattle.cidr_lists.specs.Changes.{sign_text}
use Rattle.cidr_lists.specs.Lists.{Text, text_by}
use Rattle.netset_commands.specs.Rows.{row_text}
use Rattle.cidr_lists.specs.declared.changes.Sign.TheVariants.{Plus, Minus}
use Rattle.cidr_lists.specs.declared.formats.LineFormat.TheVariants.{Plain}
use Rattle.cidr_lists.specs.declared.lines.HostBits.TheVariants.{Refused}
use Rattle.cidr_table.proofs.MapLaws.{contains_cases, contains_nothing}
use Rattle.netset_commands.specs.Commands.{Same}
use Rattle.netset_commands.specs.Same.{IsSame, value_line, value_lines}
use Rattle.netset_commands.specs.declared.output.answers.Verdict.TheVariants.{Yes}
use Rattle.netset_commands.proofs.Changed.{both_empty}
use Rattle.netset_uses.specs.Runs.{GiveSameValues, HasPrinted, HasRun, by_words}
use Rattle.netset_uses.specs.declared.runs.Finished.{Finished}
use Rattle.netset_uses.proofs.Telling.{printed_by, told_text}

-- ---- values
module _ (v w : List ℕ) where
  by_order : (o : Ordering) → slice_cmp nat_cmp v w ≡ o → (v ≡ w) ⊎ (v ≢ w)
  by_order Equal e = inl (exact_bytes v w e)
  by_order Less e = inr (λ same.
      let f : Equal ≡ Less = sym (tied_itself nat_list_cmp_total w) ∙ ap (λ x. slice_cmp nat_cmp x w) (sym same) ∙ e in
      cc)
  by_order Greater e = inr (λ same.
      let f : Equal ≡ Greater = sym (tied_itself nat_list_cmp_total w) ∙ ap (λ x. slice_cmp nat_cmp x w) (sym same) ∙ e in
      cc)

same_or_not : (x y : Option (List ℕ)) → (x ≡ y) ⊎ (x ≢ y)
same_or_not None None = inl refl
same_or_not None (Some w) = inr (λ e. cc)
same_or_not (Some v) None = inr (λ e. cc)
same_or_not (Some v) (Some w) = elim (by_order v w (slice_cmp nat_cmp v w) refl) [
  | inl e ↦ inl (ap Some e)
  | inr differ ↦ inr (λ e. differ (cc))
]

-- ---- lines
no_line : {X : Type 0} (f : X → List ℕ) (xs : List X) (x : X) → Contains xs x → flat_map f xs ≡ [] → f x ≡ []
no_line f [] x m e = absurd (contains_nothing x m)
no_line f (y ∷ xs) x m e =
    let parts = both_empty (f y) (flat_map f xs) e in
    elim (contains_cases y x xs m) [
      | inl same ↦ subst (λ z. f z ≡ []) same parts.0
      | inr later ↦ no_line f xs x later parts.1
    ]

no_values : (network : List ℕ) (values : Option (List ℕ) × Option (List ℕ)) → value_lines network values ≡ [] → values.0 ≡ values.1
no_values network (None, None) e = refl
no_values network (None, Some value) e =
    let none : codes "+" ≡ [] = (both_empty (sign_text Plus) (row_text network value) e).0 in
    cc
no_values network (Some value, new) e =
    let first = (both_empty (value_line Minus network (Some value)) (value_line Plus network new) e).0 in
    let none : codes "-" ≡ [] = (both_empty (sign_text Minus) (row_text network value) first).0 in
    cc

-- ---- no difference is told
told_same : (old new : Text) (answer : List ℕ) → IsSame (by_words Plain) old new answer Yes → GiveSameValues old new answer
told_same old new answer (before, after, says, says_too, listed, are, is, clean) =
    let parts = both_empty (flat_map (λ (row : List Bool × (Option (List ℕ) × Option (List ℕ))). value_lines (plain_text Ipv4 row.0) row.1) (listed Ipv4))
    (flat_map (λ (row : List Bool × (Option (List ℕ) × Option (List ℕ))). value_lines (plain_text Ipv6 row.0) row.1) (listed Ipv6)) (sym is ∙ clean) in
    let none : (family : Family) → flat_map (λ (row : List Bool × (Option (List ℕ) × Option (List ℕ))). value_lines (plain_text family row.0) row.1) (listed family) ≡ [] =
    elim [ Ipv4 ↦ parts.0 | Ipv6 ↦ parts.1 ] in (
      before,
      after,
      says,
      says_too,
      λ family a wide values found. elim (same_or_not values.0 values.1) [
        | inl e ↦ e
        | inr differ ↦
            let (network, b, m) = (are family).complete a wide values found differ in
            no_values (plain_text family network) values
            (no_line (λ (row : List Bool × (Option (List ℕ) × Option (List ℕ))). value_lines (plain_text family row.0) row.1) (listed family) (network, values) m (none family))
      ],
      clean,
    )

-- ---- the run
abbrev same_words : List (List ℕ)
same_words = codes "same" ∷ codes "old" ∷ codes "new" ∷ []

pub same_printed : (words : List (List ℕ)) (contents : List ℕ → Option (List ℕ)) (old new : List ℕ) (r : Option Finished) → words ≡ same_words
    → contents (codes "old") ≡ Some old → contents (codes "new") ≡ Some new → IfSome r (HasRun words contents)
    → IfSome r (λ run. run.status ≡ 0 → HasPrinted (GiveSameValues (text_by Refused old) (text_by Refused new)) run)
same_printed words contents old new None same first second h = tt
same_printed words contents old new (Some run) same first second h = λ ended.
    let (answered, runs) = subst (λ (k : List (List ℕ)). HasRun k contents run) same h in
    let (answer, is, whole, quiet) = answered same_words [] (Same (by_words Plain) (codes "old") (codes "new")) Yes refl (refl, tt, (refl, refl, refl, refl, refl)) ended in
    printed_by (GiveSameValues (text_by Refused old) (text_by Refused new)) run answer
    (told_same (text_by Refused old) (text_by Refused new) answer
    (is (text_by Refused old) (text_by Refused new) (told_text contents (codes "old") old first) (told_text contents (codes "new") new second))) whole quiet
