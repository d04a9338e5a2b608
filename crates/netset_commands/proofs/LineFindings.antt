-- The findings of lines, one after another.
use Rattle.std.proofs.Common.{◌≡◌, refl, sym, ◌∙◌, ap, subst, arith, inl, inr, ℕ, zero, suc, ◌+◌, ◌*◌, ◌<◌, ◌≤◌, List, [], ◌∷◌, ◌++◌, length, map, get_or, Some, None, slice_get}
use Rattle.std.specs.List.{Contains}
use Rattle.std.specs.List.Sorted.{IsStrictlyIncreasing}
use Rattle.std.proofs.lemmas.Bool.{cases_lt}
use Rattle.std.proofs.lemmas.List.{get_or-map, length-map, map_push}
use Rattle.std.proofs.lemmas.List.Elements.{Contains-append_left, Contains-get_or, Contains-push, Contains-push_cases}
use Rattle.std.proofs.lemmas.Option.{same_Some, slice_get_within}
use Rattle.cidr_sets.proofs.FirstRules.{increasing_push}
use Rattle.cidr_table.proofs.MapLaws.{contains_nothing}
use Rattle.cidr_lists.specs.Findings.{AreNotes, IsFinding, IsNote, IsOnlyNote, kind_rank, order, rank}
use Rattle.netset_commands.specs.Findings.{AreNotesBelow}
use Rattle.cidr_lists.specs.declared.entries.Entry.{Entry}
use Rattle.cidr_lists.specs.declared.entries.Place.{Place}
use Rattle.cidr_lists.specs.declared.findings.Finding.{Finding}
use Rattle.cidr_lists.specs.declared.findings.Finding.TheVariants.{HostBits, NotCanonical, Repeats, Inside, Mergeable}
use Rattle.cidr_lists.specs.declared.findings.FindingKind.{FindingKind}
use Rattle.cidr_lists.specs.declared.findings.FindingKind.TheVariants as kind
use Rattle.cidr_lists.specs.declared.findings.Note.{Note}

rank_below : (f : Finding) → rank f < 5
rank_below HostBits = omega arith
rank_below (NotCanonical host) = omega arith
rank_below (Repeats place) = omega arith
rank_below (Inside outer place) = omega arith
rank_below (Mergeable place) = omega arith

note_same : (a b : Note) → a.index ≡ b.index → a.place ≡ b.place → a.finding ≡ b.finding → a ≡ b
note_same a b i p f =
    ap (λ (k : ℕ). record { index = k; place = a.place; finding = a.finding }) i
    ∙ (ap (λ (k : Place). record { index = b.index; place = k; finding = a.finding }) p
    ∙ ap (λ (k : Finding). record { index = b.index; place = b.place; finding = k }) f)

-- a number of an order below a bound
order_there : (notes : List Note) (m : ℕ) → Contains (map order notes) m → (note : Note) × Contains notes note × (order note ≡ m)
order_there [] m c = absurd (contains_nothing m c)
order_there (n ∷ notes) m c =
    let within : c.0 < length (n ∷ notes) = omega (arith, c.1, length-map (n ∷ notes) order) in (
      get_or (n ∷ notes) c.0 n,
      Contains-get_or (n ∷ notes) c.0 n within,
      sym (get_or-map order (n ∷ notes) c.0 n m within) ∙ c.2,
    )

pub no_notes : (entries : List Entry) (bound : ℕ) (notes : List Note) → bound ≡ 0 → notes ≡ [] → AreNotesBelow entries bound notes
no_notes entries bound notes start none =
    subst (AreNotesBelow entries bound) (sym none) (record {
      all = λ note. (λ c. absurd (contains_nothing note c), λ h. absurd (omega (arith, start, h.1)));
      ordered = λ k within. absurd (omega (arith, within));
    })

module _ (entries : List Entry) (index : ℕ) (entry : Entry) (here : slice_get entries index ≡ Some entry) (place : ℕ) (below : place < 5) where
  -- the note is of this line, and of this kind
  of_kind : (note : Note) → IsNote entries note → order note ≡ index * 5 + place
      → (note.index ≡ index) × (note.place ≡ entry.place) × (rank note.finding ≡ place) × IsFinding entries index entry note.finding
  of_kind note (one, there, stands, finds) at =
      let low = rank_below note.finding in
      let same_index : note.index ≡ index = omega (arith, at, low, below) in
      let same_rank : rank note.finding ≡ place = omega (arith, at, same_index) in
      let same : one ≡ entry = same_Some one entry (sym there ∙ (ap (slice_get entries) same_index ∙ here)) in (
        same_index,
        stands ∙ ap (λ (e : Entry). e.place) same,
        same_rank,
        subst (λ (e : Entry). IsFinding entries index e note.finding) same
            (subst (λ (k : ℕ). IsFinding entries k one note.finding) same_index finds),
      )

  is_new : (new : Note) → new.index ≡ index → new.place ≡ entry.place → IsFinding entries index entry new.finding → IsNote entries new
  is_new new i p finds = (
    entry,
    ap (slice_get entries) i ∙ here,
    p,
    subst (λ (k : ℕ). IsFinding entries k entry new.finding) (sym i) finds,
  )

  pub none_noted : (notes : List Note) → IsOnlyNote entries index entry place None → AreNotesBelow entries (index * 5 + place) notes
      → AreNotesBelow entries (index * 5 + place + 1) notes
  none_noted notes only h = record {
    all = λ note. (
      λ c. let k = (h.all note).0 c in (k.0, omega (arith, k.1)),
      λ k. elim (cases_lt (order note) (index * 5 + place)) [
        | inl lt ↦ (h.all note).1 (k.0, lt)
        | inr le ↦
            let (i, p, r, finds) = of_kind note k.0 (omega (arith, k.1, le)) in
            absurd (only note.finding r finds)
      ],
    );
    ordered = h.ordered;
  }

  pub one_noted : (new : Note) (notes : List Note) → IsOnlyNote entries index entry place (Some new) → AreNotesBelow entries (index * 5 + place) notes
      → AreNotesBelow entries (index * 5 + place + 1) (notes ++ new ∷ [])
  one_noted new notes (same_index, same_place, only) h =
      let at : order new ≡ index * 5 + place = omega (arith, only.0, same_index) in
      record {
        all = λ note. (
          λ c. elim (Contains-push_cases notes new note c) [
            | inl before ↦ let k = (h.all note).0 before in (k.0, omega (arith, k.1))
            | inr is ↦ subst (λ (n : Note). IsNote entries n × (order n < index * 5 + place + 1)) is
                (is_new new same_index same_place ((only.1 new.finding only.0).1 refl), omega (arith, at))
          ],
          λ k. elim (cases_lt (order note) (index * 5 + place)) [
            | inl lt ↦ Contains-append_left notes (new ∷ []) note ((h.all note).1 (k.0, lt))
            | inr le ↦
                let (i, p, r, finds) = of_kind note k.0 (omega (arith, k.1, le)) in
                let same : note ≡ new = note_same note new (i ∙ sym same_index) (p ∙ sym same_place) ((only.1 note.finding r).0 finds) in
                subst (Contains (notes ++ new ∷ [])) (sym same) (Contains-push notes new)
          ],
        );
        ordered = subst IsStrictlyIncreasing (sym (map_push order notes new))
            (increasing_push (map order notes) (order new) h.ordered (λ m c.
            let (note, there, is) = order_there notes m c in
            omega (arith, is, at, ((h.all note).0 there).1)));
      }

-- the findings of all lines
pub all_noted : (entries : List Entry) (bound i : ℕ) (notes : List Note) → length entries ≤ i → bound ≡ i * 5 → AreNotesBelow entries bound notes
    → AreNotes entries notes
all_noted entries bound i notes past is h = record {
  all = λ note. (
    λ c. ((h.all note).0 c).0,
    λ k.
        let within = slice_get_within entries note.index k.0 k.1 in
        let low = rank_below note.finding in
        (h.all note).1 (k, omega (arith, within, low, past, is)),
  );
  ordered = h.ordered;
}

pub kind_below : (k : FindingKind) → kind_rank k < 5
kind_below kind.HostBits = omega arith
kind_below kind.Form = omega arith
kind_below kind.Same = omega arith
kind_below kind.Outer = omega arith
kind_below kind.Half = omega arith

-- each rank is that of a kind
pub kind_at : (r : ℕ) → r < 5 → (k : FindingKind) × (kind_rank k ≡ r)
kind_at zero low = (kind.HostBits, omega arith)
kind_at (suc zero) low = (kind.Form, omega arith)
kind_at (suc (suc zero)) low = (kind.Same, omega arith)
kind_at (suc (suc (suc zero))) low = (kind.Outer, omega arith)
kind_at (suc (suc (suc (suc zero)))) low = (kind.Half, omega arith)
kind_at (suc (suc (suc (suc (suc r))))) low = absurd (omega (arith, low))
