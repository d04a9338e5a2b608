-- The networks of one length inside a network part its addresses, and the first is below the others.
use Rattle.std.proofs.Common.{◌≡◌, ◌≤◌, ℕ, suc, Bool, List, ◌∷◌, length, take, sym, ◌∙◌, ap, arith, refl, get_or, length-take, Option, Some, None, IfSome}
use Rattle.std.proofs.lemmas.List.{take-take}
use Rattle.std.proofs.lemmas.Option.{slice_get-get_or}
use Rattle.std.specs.List.{All}
use Rattle.std.specs.declared.cmp.Ordering.TheVariants.{Less}
use Rattle.cidr.specs.model.Bits.{bit_cmp}
use Rattle.cidr.specs.declared.family.Family.{Family}
use Rattle.cidr.specs.model.Network.{BeginsWith}
use Rattle.cidr_uses.specs.Parts.{IsPartition}
use Rattle.cidr_ext.specs.model.Subnets.{AscendEachOnce, HasExactlySubnets}

pair_one : (p q : Family × List Bool) → p.0 ≡ q.0 → p.1 ≡ q.1 → p ≡ q
pair_one (x, y) (v, z) e f = cc

pub are_parts : (family : Family) (w n : ℕ) (network : List Bool) (parts : List (Family × List Bool))
    → HasExactlySubnets family network n parts → length network ≤ n → n ≤ w → IsPartition w network parts
are_parts family w n network parts h low high a la b =
    let size : length (take n a) ≡ n = omega (arith, length-take n a) in
    let front : BeginsWith (take n a) network = take-take (length network) n a low ∙ b in
    let own : BeginsWith a (take n a) = ap (λ k. take k a) size in (
      (family, take n a),
      (h (family, take n a)).1 (refl, size, front),
      own,
      λ p c k.
          let d = (h p).0 c in
          let e : p.1 ≡ take n a = sym k ∙ ap (λ j. take j a) d.1 in
          pair_one p (family, take n a) d.0 e,
    )

pub parts_of : (family : Family) (w n : ℕ) (network : List Bool) (r : Option (List (Family × List Bool)))
    → IfSome r (HasExactlySubnets family network n) → IfSome r (λ _. (length network ≤ n) × (n ≤ w)) → IfSome r (IsPartition w network)
parts_of family w n network None h l = tt
parts_of family w n network (Some parts) h l = are_parts family w n network parts h l.0 l.1

pub below_others : (first : Family × List Bool) (others : List (Family × List Bool)) → AscendEachOnce (first ∷ others)
    → All (λ part. bit_cmp first.1 part.1 ≡ Less) others
below_others first others ascends k d within =
    ascends 0 (suc k) first (get_or others k d) (omega arith) refl (slice_get-get_or others k d within)
