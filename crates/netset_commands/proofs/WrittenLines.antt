-- Lines that are written one by one.
use Rattle.std.proofs.Common.{◌≡◌, refl, sym, ◌∙◌, ap, subst, ℕ, ◌+◌, ◌<◌, ◌≤◌, length, drop, get_or, List, [], ◌∷◌, ◌++◌, Result, Ok, Err, append_assoc}
use Rattle.std.specs.List.{flat_map}
use Rattle.std.proofs.lemmas.List.{append-nil, drop_all, drop_more, flat_map_more}
use Rattle.std.proofs.lemmas.List.Concat.{flat_map-append}
use Rattle.cidr_io.specs.Writing.{State, Part, Writes}
use Rattle.cidr_io.specs.declared.sink.OutputFailed.{OutputFailed}
use Rattle.cidr_io.proofs.Chains.{part_more}
use Rattle.cidr_io.specs.Collecting.{Collects, Holds}
use Rattle.netset_commands.proofs.Blocks.{nothing_held, last_block}
use Rattle.cidr_io.proofs.Collected.{held_then, held_lost}

module _ {X : Type 0} (f : X → List ℕ) where
  -- the first of the lines are written or in the block
  pub record Walked (all left : List X) (s t : State) (block : List ℕ) : Type 0 where
    pub done : List X
    pub split : all ≡ done ++ left
    pub collected : Holds s t block (flat_map f done)

  pub walk_started : (all : List X) (s : State) (block : List ℕ) → block ≡ [] → Walked all all s s block
  walk_started all s block none = record { done = []; split = refl; collected = subst (λ (k : List ℕ). Holds s s k []) (sym none) (nothing_held s) }

  pub walked_on : (all left rest : List X) (s t u : State) (block next text : List ℕ) (x : X) → left ≡ x ∷ rest → text ≡ f x
      → Walked all left s t block → Collects t u block next text (Ok tt) → Walked all rest s u next
  walked_on all left rest s t u block next text x is shows w more = record {
    done = w.done ++ x ∷ [];
    split = w.split ∙ (ap (λ (k : List X). w.done ++ k) is ∙ sym (append_assoc w.done (x ∷ []) rest));
    collected = subst (λ (k : List ℕ). Holds s u next k)
        (ap (λ (k : List ℕ). flat_map f w.done ++ k) shows ∙ flat_map_more f [] w.done x)
        (held_then s t u block next (flat_map f w.done) text w.collected more);
  }

  pub walk_lost : (all left rest : List X) (s t u : State) (block text : List ℕ) (x : X) (r : Result (Unit {0}) OutputFailed) (y : OutputFailed) → r ≡ Err y
      → left ≡ x ∷ rest → text ≡ f x → Walked all left s t block → Part t u (block ++ text) → Writes s u (flat_map f all) r
  walk_lost all left rest s t u block text x r y fails is shows w part =
      let shown : Part s u (flat_map f w.done ++ f x) =
      subst (λ (k : List ℕ). Part s u (flat_map f w.done ++ k)) shows (held_lost s t u block (flat_map f w.done) text w.collected part) in
      let whole : (flat_map f w.done ++ f x) ++ flat_map f rest ≡ flat_map f all =
      append_assoc (flat_map f w.done) (f x) (flat_map f rest)
      ∙ (sym (flat_map-append f w.done (x ∷ rest)) ∙ ap (flat_map f) (ap (λ (k : List X). w.done ++ k) (sym is) ∙ sym w.split)) in
      subst (Writes s u (flat_map f all)) (sym fails) (subst (Part s u) whole (part_more s u (flat_map f w.done ++ f x) (flat_map f rest) shown))

  pub walk_ended : (all left : List X) (s t u : State) (block : List ℕ) (r : Result (Unit {0}) OutputFailed) → left ≡ []
      → Walked all left s t block → Writes t u block r → Writes s u (flat_map f all) r
  walk_ended all left s t u block r none w wrote =
      subst (λ (k : List ℕ). Writes s u k r)
      (ap (flat_map f) (sym (w.split ∙ (ap (λ (k : List X). w.done ++ k) none ∙ append-nil w.done))))
      (last_block s t u block (flat_map f w.done) r w.collected wrote)

  -- the same of a slice by its indices
  module _ (all : List X) (i : ℕ) (s t u : State) (block next : List ℕ) where
    first_left : (x : X) → i < length all → x ≡ get_or all i x → drop i all ≡ x ∷ drop (i + 1) all
    first_left x within is = drop_more all i x within ∙ ap (λ (k : X). k ∷ drop (i + 1) all) (sym is)

    pub walked_at : (x : X) → i < length all → x ≡ get_or all i x → Walked all (drop i all) s t block → Collects t u block next (f x) (Ok tt)
        → Walked all (drop (i + 1) all) s u next
    walked_at x within is w more =
        walked_on all (drop i all) (drop (i + 1) all) s t u block next (f x) x (first_left x within is) refl w more

    pub walk_lost_at : (x : X) (r : Result (Unit {0}) OutputFailed) (y : OutputFailed) → r ≡ Err y → i < length all → x ≡ get_or all i x → Walked all (drop i all) s t block
        → Part t u (block ++ f x) → Writes s u (flat_map f all) r
    walk_lost_at x r y fails within is w part =
        walk_lost all (drop i all) (drop (i + 1) all) s t u block (f x) x r y fails (first_left x within is) refl w part

    pub walk_ended_at : (r : Result (Unit {0}) OutputFailed) → length all ≤ i → Walked all (drop i all) s t block → Writes t u block r
        → Writes s u (flat_map f all) r
    walk_ended_at r past w wrote = walk_ended all (drop i all) s t u block r (drop_all i all past) w wrote
