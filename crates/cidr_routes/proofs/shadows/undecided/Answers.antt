use Rattle.std.proofs.Common.{◌≡◌, ◌↔◌, false, Some, Result, Ok, Err}
use Rattle.std.specs.List.{Contains, slice_get}
use Rattle.std.specs.Result.{IfOk}
use Rattle.cidr_routes.proofs.shadows.undecided.Goals as goal

if_ok_then : {X E : Type 0} (r : Result X E) (P Q : X → Type 0) → ((x : X) → P x → Q x) → IfOk r P → IfOk r Q
if_ok_then (Ok x) P Q f h = f x h
if_ok_then (Err e) P Q f h = h

pub returns-clause-indices : goal.returns-clause-indices
returns-clause-indices g c =
    if_ok_then c.unmarked.result _ _
    (λ out k i.
    let told = c.in_ok-mark_all.ensures i in
    let listed : Contains out.items i ↔ (slice_get c.mark_all.new.marks i ≡ Some false) = k i in (
      λ d. told.0 (listed.0 d),
      λ s. listed.1 (told.1 s),
    ))
    c.unmarked.ensures.indices
