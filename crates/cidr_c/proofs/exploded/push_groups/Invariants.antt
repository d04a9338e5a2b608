-- The groups so far are printed.
use Rattle.std.proofs.Common.{◌≡◌, ◌+◌, ◌*◌, ◌∷◌, ◌++◌, get_or, map, take}
use Rattle.std.specs.List.{join_with_byte}
use Rattle.arrayvec.specs.ArrayVec.{array_vec_len}
use Rattle.cidr.specs.texts.Ipv6Text.{colon}
use Rattle.cidr_c.specs.model.Texts.{group_digits}
use Rattle.cidr_c.proofs.exploded.push_groups.Given as goal

abbrev pub invariant-loop-group : goal.invariant-loop-group
invariant-loop-group l = record {
  bytes : l.text.items ≡ l.fn.text.items ++ join_with_byte colon (map group_digits (get_or l.groups 0 0 ∷ take l.group-index l.rest));
  len : array_vec_len l.text ≡ array_vec_len l.fn.text + 4 + 5 * l.group-index;
}
