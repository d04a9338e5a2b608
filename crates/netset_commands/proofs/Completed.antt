-- The findings behind some of them.
use Rattle.std.proofs.Common.{◌≡◌, sym, subst, arith, ℕ, zero, suc, ◌+◌, ◌*◌, ◌/◌, ◌%◌, ◌<◌, List, [], ◌∷◌, ◌++◌, length, map, Option, Some, None, slice_get, append_assoc}
use Rattle.std.proofs.lemmas.List.{append-nil}
use Rattle.std.proofs.lemmas.Option.{slice_get_within}
use Rattle.cidr_lists.specs.Findings.{AreNotes, IsOnlyNote, entry_network}
use Rattle.netset_commands.specs.Findings.{AreNotesBelow}
use Rattle.cidr_lists.specs.Nearness.{AreNear, IsNear}
use Rattle.cidr_lists.specs.declared.entries.Entry.{Entry}
use Rattle.cidr_lists.specs.declared.findings.Note.{Note}
use Rattle.cidr_lists.specs.declared.near.Near.{Near}
use Rattle.cidr_lists.proofs.Found.{network_of, some_found}
use Rattle.netset_commands.proofs.LineFindings.{all_noted, kind_at, none_noted, one_noted}
use Rattle.cidr_lists.proofs.NumberedRows.{element, first_within, near_line}

module _ (entries : List Entry) (near : List Near) (are : AreNear (map entry_network entries) near) where
  near_entry : (i : ℕ) (entry : Entry) → slice_get entries i ≡ Some entry → (one : Near) × IsNear (map entry_network entries) (entry_network entry) one
  near_entry i entry here =
      let networks : List _ = map entry_network entries in
      let there : slice_get networks i ≡ Some (entry_network entry) = network_of entries i entry here in
      let (one, at) = element near i (omega (arith, slice_get_within networks i (entry_network entry) there, are.size)) in
      let (two, at_first) = element near one.first (first_within networks near are i one at) in
      (two, near_line networks near are i one at two (entry_network entry) at_first there)

  -- one kind more in a line
  module _ (i : ℕ) (entry : Entry) (here : slice_get entries i ≡ Some entry) (r : ℕ) (low : r < 5) (notes : List Note)
      (below : AreNotesBelow entries (i * 5 + r) notes) where
    with_note : (note : Option Note) → IsOnlyNote entries i entry r note → (some : List Note) × AreNotesBelow entries (i * 5 + r + 1) (notes ++ some)
    with_note None only =
        ([], subst (AreNotesBelow entries (i * 5 + r + 1)) (sym (append-nil notes)) (none_noted entries i entry here r low notes only below))
    with_note (Some note) only = (note ∷ [], one_noted entries i entry here r low note notes only below)

    one_more : (some : List Note) × AreNotesBelow entries (i * 5 + r + 1) (notes ++ some)
    one_more =
        let (one, stands) = near_entry i entry here in
        let (k, is) = kind_at r low in
        let (note, only) = some_found entries i entry one stands k in
        with_note note (subst (λ (n : ℕ). IsOnlyNote entries i entry n note) is only)

  pub completed : (left bound : ℕ) (notes : List Note) → bound + left ≡ length entries * 5 → AreNotesBelow entries bound notes
      → (more : List Note) × AreNotes entries (notes ++ more)
  completed zero bound notes all h =
      ([], subst (AreNotes entries) (sym (append-nil notes)) (all_noted entries bound (length entries) notes (omega arith) (omega (arith, all)) h))
  completed (suc left) bound notes all h =
      let i : ℕ = bound / 5 in
      let r : ℕ = bound % 5 in
      let at : bound ≡ i * 5 + r = omega arith in
      let low : r < 5 = omega arith in
      let within : i < length entries = omega (arith, all) in
      let (entry, here) = element entries i within in
      let (some, below) = one_more i entry here r low notes (subst (λ (n : ℕ). AreNotesBelow entries n notes) at h) in
      let next : i * 5 + r + 1 ≡ bound + 1 = omega (arith, at) in
      let (more, whole) = completed left (bound + 1) (notes ++ some) (omega (arith, all)) (subst (λ (n : ℕ). AreNotesBelow entries n (notes ++ some)) next below) in
      (some ++ more, subst (AreNotes entries) (append_assoc notes some more) whole)
