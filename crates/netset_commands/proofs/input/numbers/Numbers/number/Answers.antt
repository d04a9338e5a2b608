use Rattle.std.proofs.Common.{of_calls, rules, subst, sym, ap, ◌≡◌, ◌∙◌, ◌≤◌, ℕ, Bool, true, false, List, length}
use Rattle.std.specs.Cmp.Lexicographic.{slice_cmp}
use Rattle.std.specs.Ordering.{is_lt, nat_cmp}
use Rattle.std.specs.List.Sorted.{IsPartitionedBy, IsPartitionPoint}
use Rattle.netset_commands.specs.Numbers.{number_in}
use denote.Ref.{Bor}
use Rattle.std.proofs.lemmas.List.Sorted.{IsPartitionPoint-from_clause}
use Rattle.netset_commands.proofs.Numbering.{number_at, slices_parted}
use Rattle.netset_commands.proofs.input.numbers.Numbers.number.Goals as goal

pub returns : goal.returns
returns c =
    let values = c.self.inside.values.items in
    let value = c.args.value.now in
    let less : Bor (List ℕ) → Bool = λ other. is_lt (slice_cmp nat_cmp other.now value) in
    let same : c.as_slice.result.now ≡ values = c.as_slice.ensures.value in
    let point = IsPartitionPoint-from_clause less c.as_slice.result.now c.partition_point.result c.partition_point.ensures.partitioned
    (subst (IsPartitionedBy less) (sym same) (slices_parted values value c.self.invariant)) (λ a r f k. search (rules, of_calls)) in
    let bound = c.partition_point.ensures.bound in
    let moved = subst (λ l. (c.partition_point.result ≤ length l) × IsPartitionPoint (λ other. less other ≡ true) (λ other. less other ≡ false) l c.partition_point.result) same (bound, point) in
    number_at values value c.partition_point.result moved.0 moved.1 ∙ ap (λ l. number_in l value) c.self.view_is
