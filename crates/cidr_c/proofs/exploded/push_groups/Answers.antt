use Rattle.std.proofs.Common.{◌≡◌, ◌+◌, ◌-◌, ℕ, List, [], ◌∷◌, ◌++◌, ap, arith, drop, get_or, length, map, sym, take, ◌∙◌}
use Rattle.std.proofs.lemmas.List.{take_more}
use Rattle.std.specs.List.{join_with_byte}
use Rattle.cidr_c.specs.model.Texts.{group_digits}
use Rattle.cidr_c.proofs.GroupDigits.{digits_more}
use Rattle.cidr_c.proofs.exploded.push_groups.Goals as goal

pub loop-group-preserved : goal.loop-group-preserved
loop-group-preserved c =
    let groups = c.args.groups.now in
    let old = c.args.text.now.items in
    let i = c.loop-group.group-index in
    let rest : List ℕ = take (length groups - 1) (drop 1 groups) in
    let first : ℕ = get_or groups 0 0 in
    let group : ℕ = get_or rest i 0 in
    let more : take (i + 1) rest ≡ take i rest ++ group ∷ [] = take_more rest i 0 c.loop-group-test.true in
    let pushed : c.push_group-in-loop-group.new.text.items ≡ c.push.new.self.items ++ group_digits group = c.push_group-in-loop-group.ensures.bytes in
    record {
      bytes = pushed ∙ ap (λ (t : List ℕ). t ++ group_digits group) (c.push.ensures.items ∙ ap (λ (t : List ℕ). t ++ 58 ∷ []) c.loop-group.invariant.bytes)
          ∙ digits_more first (take i rest) group old
          ∙ ap (λ (front : List ℕ). old ++ join_with_byte 58 (map group_digits (first ∷ front))) (sym more);
      len = omega arith;
    }
