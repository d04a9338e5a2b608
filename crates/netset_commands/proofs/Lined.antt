-- Lines that are collected one by one.
use Rattle.std.proofs.Common.{◌≡◌, refl, sym, ◌∙◌, ap, subst, ℕ, List, [], ◌∷◌, ◌++◌, Ok, Err, append_assoc, append-nil}
use Rattle.std.specs.List.{flat_map}
use Rattle.std.proofs.lemmas.List.{flat_map_more}
use Rattle.std.proofs.lemmas.List.Concat.{flat_map-append}
use Rattle.cidr_io.proofs.Chains.{part_more}
use Rattle.cidr_io.proofs.Collected.{collected_more, none_collected}
use Rattle.cidr_io.specs.Collecting.{Collects}
use Rattle.cidr_io.specs.Writing.{State, Part}
use Rattle.cidr_io.specs.declared.sink.OutputFailed.{OutputFailed}

module _ {X : Type 0} (f : X → List ℕ) where
  -- the first of the lines came behind a block
  pub record Lined (all left : List X) (s t : State) (block rest : List ℕ) : Type 0 where
    pub done : List X
    pub split : all ≡ done ++ left
    pub collected : Collects s t block rest (flat_map f done) (Ok tt)

  pub none_lined : (all : List X) (s : State) (block : List ℕ) → Lined all all s s block block
  none_lined all s block = record { done = []; split = refl; collected = none_collected s block }

  pub lined_on : (all left rest : List X) (s t u : State) (b c d text : List ℕ) (x : X) → left ≡ x ∷ rest → text ≡ f x → Lined all left s t b c
      → Collects t u c d text (Ok tt) → Lined all rest s u b d
  lined_on all left rest s t u b c d text x is shows g more = record {
    done = g.done ++ x ∷ [];
    split = g.split ∙ (ap (λ (k : List X). g.done ++ k) is ∙ sym (append_assoc g.done (x ∷ []) rest));
    collected = subst (λ (k : List ℕ). Collects s u b d k (Ok tt))
        (ap (λ (k : List ℕ). flat_map f g.done ++ k) shows ∙ flat_map_more f [] g.done x)
        (collected_more s t u b c d (flat_map f g.done) text (Ok tt) g.collected more);
  }

  pub lined_lost : (all left rest : List X) (s t u : State) (b c d text : List ℕ) (x : X) (e : OutputFailed) → left ≡ x ∷ rest → text ≡ f x
      → Lined all left s t b c → Part t u (c ++ text) → Collects s u b d (flat_map f all) (Err e)
  lined_lost all left rest s t u b c d text x e is shows g part =
      let front : List ℕ = flat_map f g.done ++ text in
      let shown : Part s u (b ++ front) = collected_more s t u b c d (flat_map f g.done) text (Err e) g.collected part in
      let whole : front ++ flat_map f rest ≡ flat_map f all =
      ap (λ (k : List ℕ). (flat_map f g.done ++ k) ++ flat_map f rest) shows
      ∙ (append_assoc (flat_map f g.done) (f x) (flat_map f rest)
      ∙ (sym (flat_map-append f g.done (x ∷ rest)) ∙ ap (flat_map f) (ap (λ (k : List X). g.done ++ k) (sym is) ∙ sym g.split))) in
      subst (λ (k : List ℕ). Part s u k) (append_assoc b front (flat_map f rest) ∙ ap (λ (k : List ℕ). b ++ k) whole)
      (part_more s u (b ++ front) (flat_map f rest) shown)

  pub all_lined : (all left : List X) (s t : State) (b c : List ℕ) → left ≡ [] → Lined all left s t b c → Collects s t b c (flat_map f all) (Ok tt)
  all_lined all left s t b c none g =
      subst (λ (k : List X). Collects s t b c (flat_map f k) (Ok tt))
      (sym (g.split ∙ (ap (λ (k : List X). g.done ++ k) none ∙ append-nil g.done))) g.collected
