-- The networks of payloads, each once.
use Rattle.std.proofs.Common.{◌↔◌, subst, ap, ◌∙◌, ℕ, ◌-◌, List, Some}
use Rattle.std.proofs.lemmas.Option.{slice_get-get_or}
use Rattle.std.specs.List.{Contains}
use Rattle.std.specs.List.Sorted.{IsStrictlySortedBy}
use Rattle.std.specs.Map.{keys_of}
use Rattle.std.specs.declared.cmp.Ordering.{Ordering}
use Rattle.cidr.proofs.BothEnds.{contains_got}
use Rattle.cidr_routes.specs.Links.{AreEnds}
use Rattle.cidr_routes.specs.Origins.{AreRowsOf}
use Rattle.cidr_routes.specs.declared.origins.Payload.{Payload}

-- the rows of the ends of payloads that are kept are those of the payloads given
pub rows_of : {C : Type 0} (cmp : C → C → Ordering) (vrps kept : List (Payload C)) (rows : List (C × ℕ))
    → ((v : Payload C) → Contains kept v ↔ Contains vrps v) → IsStrictlySortedBy cmp (keys_of rows) → AreEnds kept rows → AreRowsOf cmp vrps rows
rows_of cmp vrps kept rows same once ends = record {
  once = once;
  each = λ n. (
    λ r. let u = ends.row n r.0 r.1 in (u.0, (same u.0).0 (contains_got kept (r.0 - 1) u.0 u.2), u.3),
    λ v.
        let c = (same v.0).1 v.1 in
        let l = ends.each c.0 v.0 (slice_get-get_or kept c.0 v.0 c.1 ∙ ap Some c.2) in
        subst (λ (m : _). (l : ℕ) × Contains rows (m, l)) v.2 l,
  );
}
