-- Bytes that are collected in blocks.
use Rattle.std.proofs.Common.{◌≡◌, refl, inl, inr, Bool, true, false, sym, ◌∙◌, ap, subst, ℕ, ◌+◌, ◌<◌, ◌≤◌, List, [], ◌∷◌, ◌++◌, length, take, drop, get_or, Result, Ok, Err, append_assoc}
use Rattle.std.specs.List.{flat_map}
use Rattle.std.proofs.lemmas.List.{take_more, take_all, take-append-drop, append-nil}
use Rattle.std.proofs.lemmas.List.Concat.{flat_map-append}
use Rattle.cidr_io.specs.Writing.{State, Whole, Part, Writes, Tells}
use Rattle.cidr_io.specs.declared.sink.OutputFailed.{OutputFailed}
use Rattle.cidr_io.proofs.Chains.{answered, part_none, then_writes, whole_none, whole_whole, whole_part, part_more}
use Rattle.cidr_io.specs.Collecting.{Collects, Holds, HasSaid}

-- both were written
pub written_behind : (s t u : State) (block emptied bytes : List ℕ) (r : Result (Unit {0}) OutputFailed) → Whole s t block → emptied ≡ [] → Writes t u bytes r
    → Collects s u block emptied bytes r
written_behind s t u block emptied bytes (Ok _) whole empty wrote = (
  block ++ bytes,
  whole_whole s t u block bytes whole wrote,
  sym (ap (λ k. (block ++ bytes) ++ k) empty ∙ append-nil (block ++ bytes)),
)
written_behind s t u block emptied bytes (Err e) whole empty wrote = whole_part s t u block bytes whole wrote

-- nothing was collected
pub none_collected : (s : State) (block : List ℕ) → Collects s s block block [] (Ok tt)
none_collected s block = ([], whole_none s, append-nil block)

-- more behind what was collected
pub collected_more : (s t u : State) (b c d x y : List ℕ) (r : Result (Unit {0}) OutputFailed) → Collects s t b c x (Ok tt) → Collects t u c d y r
    → Collects s u b d (x ++ y) r
collected_more s t u b c d x y (Ok _) (first, whole, is) (second, next, split) = (
  first ++ second,
  whole_whole s t u first second whole next,
  sym (append_assoc b x y) ∙ (ap (λ k. k ++ y) is ∙ (append_assoc first c y ∙ (ap (λ k. first ++ k) split ∙ sym (append_assoc first second d)))),
)
collected_more s t u b c d x y (Err e) (first, whole, is) part =
    subst (Part s u) (sym (append_assoc first c y) ∙ (ap (λ k. k ++ y) (sym is) ∙ append_assoc b x y)) (whole_part s t u first (c ++ y) whole part)

-- parts one by one
part_taken : {X : Type 0} (f : X → List ℕ) (parts : List X) (i : ℕ) (d : X) → i < length parts
    → flat_map f (take (i + 1) parts) ≡ flat_map f (take i parts) ++ f (get_or parts i d)
part_taken {X} f parts i d within =
    ap (flat_map f) (take_more parts i d within)
    ∙ (flat_map-append f (take i parts) (get_or parts i d ∷ []) ∙ ap (λ k. flat_map f (take i parts) ++ k) (append-nil (f (get_or parts i d))))

pub part_collected : {X : Type 0} (f : X → List ℕ) (s t u : State) (b c d : List ℕ) (parts : List X) (i : ℕ) (x : X) → i < length parts
    → Collects s t b c (flat_map f (take i parts)) (Ok tt) → Collects t u c d (f (get_or parts i x)) (Ok tt)
    → Collects s u b d (flat_map f (take (i + 1) parts)) (Ok tt)
part_collected {X} f s t u b c d parts i x within before more =
    subst (λ (k : List ℕ). Collects s u b d k (Ok tt)) (sym (part_taken f parts i x within))
    (collected_more s t u b c d (flat_map f (take i parts)) (f (get_or parts i x)) (Ok tt) before more)

pub part_lost : {X : Type 0} (f : X → List ℕ) (s t u : State) (b c d : List ℕ) (parts : List X) (i : ℕ) (x : X) (r : Result (Unit {0}) OutputFailed) (y : OutputFailed)
    → r ≡ Err y → i < length parts → Collects s t b c (flat_map f (take i parts)) (Ok tt) → Part t u (c ++ f (get_or parts i x))
    → Collects s u b d (flat_map f parts) r
part_lost {X} f s t u b c d parts i x r y is within before part =
    let front : Part s u (b ++ (flat_map f (take i parts) ++ f (get_or parts i x))) =
    collected_more s t u b c d (flat_map f (take i parts)) (f (get_or parts i x)) (Err y) before part in
    let some : Part s u (b ++ flat_map f (take (i + 1) parts)) =
    subst (λ (k : List ℕ). Part s u (b ++ k)) (sym (part_taken f parts i x within)) front in
    let all : flat_map f (take (i + 1) parts) ++ flat_map f (drop (i + 1) parts) ≡ flat_map f parts =
    sym (flat_map-append f (take (i + 1) parts) (drop (i + 1) parts)) ∙ ap (flat_map f) (take-append-drop (i + 1) parts) in
    subst (Collects s u b d (flat_map f parts)) (sym is)
    (subst (λ (k : List ℕ). Part s u k)
    (append_assoc b (flat_map f (take (i + 1) parts)) (flat_map f (drop (i + 1) parts)) ∙ ap (λ k. b ++ k) all)
    (part_more s u (b ++ flat_map f (take (i + 1) parts)) (flat_map f (drop (i + 1) parts)) some))

pub all_collected : {X : Type 0} (f : X → List ℕ) (s t : State) (b c : List ℕ) (parts : List X) (i : ℕ) → length parts ≤ i
    → Collects s t b c (flat_map f (take i parts)) (Ok tt) → Collects s t b c (flat_map f parts) (Ok tt)
all_collected {X} f s t b c parts i past h = subst (λ (k : List X). Collects s t b c (flat_map f k) (Ok tt)) (take_all i parts past) h

-- what was held and written, with more behind it
pub held_then : (s t u : State) (block rest text bytes : List ℕ) → Holds s t block text → Collects t u block rest bytes (Ok tt) → Holds s u rest (text ++ bytes)
held_then s t u block rest text bytes (done, whole, is) (written, next, split) = (
  done ++ written,
  whole_whole s t u done written whole next,
  ap (λ k. k ++ bytes) is ∙ (append_assoc done block bytes ∙ (ap (λ k. done ++ k) split ∙ sym (append_assoc done written rest))),
)

pub held_lost : (s t u : State) (block text bytes : List ℕ) → Holds s t block text → Part t u (block ++ bytes) → Part s u (text ++ bytes)
held_lost s t u block text bytes (done, whole, is) part =
    subst (Part s u) (sym (append_assoc done block bytes) ∙ ap (λ k. k ++ bytes) (sym is)) (whole_part s t u done (block ++ bytes) whole part)

-- ---- lines that are written as far as a sink takes them
both_ways : (s : State) → s.failed ≡ true → s.failed ≡ false → ⊥
both_ways s h k = let e : true ≡ false = sym h ∙ k in cc

still_fine : (start s : State) (written : List ℕ) → start.failed ≡ false → Whole start s written → s.failed ≡ true → ⊥
still_fine start s written fine whole failed = both_ways s failed (whole.fine ∙ fine)

fine_before : (start s : State) → start.failed ≡ false → start.failed ≡ true → s ≡ start
fine_before start s fine failed = absurd (both_ways start failed fine)

nothing_by : (start : State) (block : List ℕ) → block ≡ [] → (b : Bool) → start.failed ≡ b → HasSaid start start block []
nothing_by start block none false fine = inl (fine, ([], whole_none start, sym none))
nothing_by start block none true failed = inr (part_none start [] failed, λ h. refl)

-- nothing yet
pub nothing_said : (start : State) (block : List ℕ) → block ≡ [] → HasSaid start start block []
nothing_said start block none = nothing_by start block none start.failed refl

-- one line more, to a sink that has not failed
pub said_more : (start s t : State) (block rest text bytes : List ℕ) (r : Result (Unit {0}) OutputFailed) → s.failed ≡ false → HasSaid start s block text
    → Collects s t block rest bytes r → HasSaid start t rest (text ++ bytes)
said_more start s t block rest text bytes (Ok _) fine (inl (begun, held)) more = inl (begun, held_then start s t block rest text bytes held more)
said_more start s t block rest text bytes (Err e) fine (inl (begun, held)) part =
    inr (held_lost start s t block text bytes held part, fine_before start t begun)
said_more start s t block rest text bytes r fine (inr (part, same)) more = absurd (both_ways s part.failed fine)

-- none to one that has failed
pub said_past : (start s : State) (block rest text bytes : List ℕ) → s.failed ≡ true → HasSaid start s block text → HasSaid start s rest (text ++ bytes)
said_past start s block rest text bytes failed (inl (begun, (written, whole, is))) = absurd (still_fine start s written begun whole failed)
said_past start s block rest text bytes failed (inr (part, same)) = inr (part_more start s text bytes part, same)

-- the last block
pub said_all : (start s t : State) (block text : List ℕ) (r : Result (Unit {0}) OutputFailed) → s.failed ≡ false → HasSaid start s block text → Writes s t block r
    → Tells start t text
said_all start s t block text r fine (inl (begun, (written, whole, is))) wrote =
    (r, answered start t text r begun (subst (λ (k : List ℕ). Writes start t k r) (sym is) (then_writes start s t written block r whole wrote)))
said_all start s t block text r fine (inr (part, same)) wrote = absurd (both_ways s part.failed fine)

pub said_part : (start s : State) (block text : List ℕ) → s.failed ≡ true → HasSaid start s block text → Tells start s text
said_part start s block text failed (inl (begun, (written, whole, is))) = absurd (still_fine start s written begun whole failed)
said_part start s block text failed (inr (part, same)) = (Err (record {}), (part, same))
