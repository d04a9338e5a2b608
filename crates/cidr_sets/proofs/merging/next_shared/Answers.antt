use Rattle.std.proofs.Common.{◌∷◌, Some, None, map, sym, ◌∙◌, subst}
use Rattle.std.proofs.lemmas.Bool.Decides.{not_from_Decides}
use Rattle.cidr_sets.specs.internal.Steps.{Ascend}
use Rattle.cidr_sets.proofs.Steps.{not_less, shared_first, shared_none, shared_swap}
use Rattle.cidr_sets.proofs.merging.next_shared.Goals as goal

pub returns-then-is_inside : goal.returns-then-is_inside
returns-then-is_inside g c =
    let f = g.C.BitString.bits in
    let p = c.in_ok-first.first.now in
    let q = c.in_ok-second.second.now in
    let left = c.in_ok-first.ensures.cases.0 in
    let right = c.in_ok-second.ensures.cases.0 in
    rw (left, right)
    (shared_first (f p) (map f c.in_ok-first.behind.now) (subst (λ xs. Ascend (map f xs)) left c.requires.left)
    (f q) (map f c.in_ok-second.rest.now) (subst (λ xs. Ascend (map f xs)) right c.requires.right)
    (c.is_inside.ensures.0 c.if-is_inside.true))

pub returns-then-is_inside-2 : goal.returns-then-is_inside-2
returns-then-is_inside-2 g c =
    let f = g.C.BitString.bits in
    let p = c.in_ok-first.first.now in
    let q = c.in_ok-second.second.now in
    let left = c.in_ok-first.ensures.cases.0 in
    let right = c.in_ok-second.ensures.cases.0 in
    rw (left, right)
    (shared_swap (map f (q ∷ c.in_ok-second.rest.now)) (map f (p ∷ c.in_ok-first.behind.now)) (Some (f q))
    (map f c.in_ok-second.rest.now) (map f (p ∷ c.in_ok-first.behind.now))
    (shared_first (f q) (map f c.in_ok-second.rest.now) (subst (λ xs. Ascend (map f xs)) right c.requires.right)
    (f p) (map f c.in_ok-first.behind.now) (subst (λ xs. Ascend (map f xs)) left c.requires.left)
    (c.is_inside-2.ensures.0 c.if-is_inside-2.true)))

pub returns-in-Less : goal.returns-in-Less
returns-in-Less g c =
    let f = g.C.BitString.bits in
    let p = c.in_ok-first.first.now in
    let q = c.in_ok-second.second.now in
    let left = c.in_ok-first.ensures.cases.0 in
    let right = c.in_ok-second.ensures.cases.0 in
    rw (left, right)
    (shared_none (f p) (map f c.in_ok-first.behind.now) (subst (λ xs. Ascend (map f xs)) left c.requires.left)
    (f q) (map f c.in_ok-second.rest.now) (subst (λ xs. Ascend (map f xs)) right c.requires.right)
    (not_from_Decides c.is_inside.result c.is_inside.ensures c.if-is_inside.false)
    (not_from_Decides c.is_inside-2.result c.is_inside-2.ensures c.if-is_inside-2.false)
    (sym (c.cmp.ensures ∙ g.met.C.NetworkBits.ordered p q) ∙ c.in-Less.is))

pub returns-in_default : goal.returns-in_default
returns-in_default g c =
    let f = g.C.BitString.bits in
    let p = c.in_ok-first.first.now in
    let q = c.in_ok-second.second.now in
    let left = c.in_ok-first.ensures.cases.0 in
    let right = c.in_ok-second.ensures.cases.0 in
    let hp = subst (λ xs. Ascend (map f xs)) left c.requires.left in
    let hq = subst (λ xs. Ascend (map f xs)) right c.requires.right in
    let outside = not_from_Decides c.is_inside.result c.is_inside.ensures c.if-is_inside.false in
    let apart = not_from_Decides c.is_inside-2.result c.is_inside-2.ensures c.if-is_inside-2.false in
    rw (left, right)
    (shared_swap (map f (q ∷ c.in_ok-second.rest.now)) (map f (p ∷ c.in_ok-first.behind.now)) None
    (map f c.in_ok-second.rest.now) (map f (p ∷ c.in_ok-first.behind.now))
    (shared_none (f q) (map f c.in_ok-second.rest.now) hq (f p) (map f c.in_ok-first.behind.now) hp apart outside
    (not_less (f p) (map f c.in_ok-first.behind.now) hp (f q) (map f c.in_ok-second.rest.now) hq apart
    (λ e. c.in_default.not-Less (c.cmp.ensures ∙ g.met.C.NetworkBits.ordered p q ∙ e)))))
