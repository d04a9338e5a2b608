-- Lines that are written in blocks.
use Rattle.std.proofs.Common.{◌≡◌, refl, sym, ◌∙◌, ap, subst, ℕ, false, List, [], ◌++◌, Result, Ok, Err}
use Rattle.cidr_io.specs.Writing.{State, Whole, Part, Writes, Answered}
use Rattle.cidr_io.specs.declared.sink.OutputFailed.{OutputFailed}
use Rattle.cidr_io.proofs.Chains.{whole_none, whole_whole, whole_part, part_more, then_writes, then_flushed, answered}
use Rattle.cidr_io.specs.Collecting.{Collects, Holds}

pub nothing_held : (s : State) → Holds s s [] []
nothing_held s = ([], whole_none s, refl)

-- the last block
pub last_block : (s t u : State) (block text : List ℕ) (r : Result (Unit {0}) OutputFailed) → Holds s t block text → Writes t u block r → Writes s u text r
last_block s t u block text r (done, whole, is) wrote =
    subst (λ (k : List ℕ). Writes s u k r) (sym is) (then_writes s t u done block r whole wrote)

-- a text to a sink that had not failed
pub text_written : (s t u : State) (text : List ℕ) (r : Result (Unit {0}) OutputFailed) → s.failed ≡ false → Whole s t text → Writes t u [] r → Answered s u text r
text_written s t u text r fine whole flushed = answered s u text r fine (then_flushed s t u text r whole flushed)

-- what was collected behind nothing, and then written
pub line_written : (s t u : State) (block rest text : List ℕ) (r : Result (Unit {0}) OutputFailed) → s.failed ≡ false → block ≡ [] → Collects s t block rest text (Ok tt)
    → Writes t u rest r → Answered s u text r
line_written s t u block rest text r fine none (written, whole, split) wrote =
    let all : text ≡ written ++ rest = ap (λ (k : List ℕ). k ++ text) (sym none) ∙ split in
    answered s u text r fine (subst (λ (k : List ℕ). Writes s u k r) (sym all) (then_writes s t u written rest r whole wrote))

pub line_lost : (s t : State) (block text : List ℕ) (r : Result (Unit {0}) OutputFailed) (y : OutputFailed) → r ≡ Err y → s.failed ≡ false → block ≡ []
    → Part s t (block ++ text) → Answered s t text r
line_lost s t block text r y is fine none part =
    subst (Answered s t text) (sym is) (answered s t text (Err y) fine (subst (λ (k : List ℕ). Part s t (k ++ text)) none part))

-- two texts to a sink that had not failed
pub first_failed : (s t : State) (a b : List ℕ) (r : Result (Unit {0}) OutputFailed) (y : OutputFailed) → r ≡ Err y → s.failed ≡ false
    → Part s t a → Answered s t (a ++ b) r
first_failed s t a b r y is fine part =
    subst (Answered s t (a ++ b)) (sym is) (answered s t (a ++ b) (Err y) fine (part_more s t a b part))

pub second_failed : (s t u : State) (a b : List ℕ) (r : Result (Unit {0}) OutputFailed) (y : OutputFailed) → r ≡ Err y → s.failed ≡ false
    → Whole s t a → Part t u b → Answered s u (a ++ b) r
second_failed s t u a b r y is fine whole part =
    subst (Answered s u (a ++ b)) (sym is) (answered s u (a ++ b) (Err y) fine (whole_part s t u a b whole part))

pub both_written : (s t u v : State) (a b : List ℕ) (r : Result (Unit {0}) OutputFailed) → s.failed ≡ false
    → Whole s t a → Whole t u b → Writes u v [] r → Answered s v (a ++ b) r
both_written s t u v a b r fine first second flushed =
    answered s v (a ++ b) r fine (then_flushed s u v (a ++ b) r (whole_whole s t u a b first second) flushed)
