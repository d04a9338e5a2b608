use Rattle.std.proofs.Common.{◌≡◌, ◌↔◌, ◌<◌, ℕ, true, false, get_or, length, map, take}
use Rattle.std.specs.List.{Contains}
use Rattle.std.specs.List.Sorted.{IsStrictlyIncreasing}
use Rattle.cidr_sets.proofs.Deciding.{AreMarked}
use Rattle.cidr_sets.proofs.decisions.unreached_in.Given as goal

-- the indices of the parts so far are marked
abbrev pub invariant-loop-part : goal.invariant-loop-part
invariant-loop-part g l = record {
  size : length l.reached.items ≡ l.count;
  marked : AreMarked l.count l.reached.items (map (λ part. part.1) (take l.part-index l.parts));
}

-- the indices so far without a mark
abbrev pub invariant-loop-index : goal.invariant-loop-index
invariant-loop-index g l = record {
  indices : (j : ℕ) → Contains l.out.items j ↔ ((j < l.index) × ¬ (get_or l.is_reached-items j false ≡ true));
  ascending : IsStrictlyIncreasing l.out.items;
}
