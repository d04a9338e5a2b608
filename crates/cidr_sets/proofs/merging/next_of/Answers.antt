use Rattle.std.proofs.Common.{◌∷◌, [], map, sym, ◌∙◌, subst}
use Rattle.cidr_table.proofs.Beginnings.{bits_exact}
use Rattle.cidr_sets.specs.internal.Steps.{Ascend}
use Rattle.cidr_sets.proofs.Joining.{nothing}
use Rattle.cidr_sets.proofs.Steps.{next_alone, next_both, next_first, next_swap, turned}
use Rattle.cidr_sets.proofs.merging.next_of.Goals as goal

pub returns-in-Less : goal.returns-in-Less
returns-in-Less g c =
    let f = g.C.BitString.bits in
    let p = c.in-Some.first.now in
    let q = c.in-Some-split_first.second.now in
    let left = c.in-Some.ensures.cases.0 in
    let right = c.in-Some-split_first.ensures.cases.0 in
    rw (left, right)
    (next_first (f p) (map f c.in-Some.behind.now) (subst (λ xs. Ascend (map f xs)) left c.requires.left)
    (f q) (map f c.in-Some-split_first.rest.now) (subst (λ xs. Ascend (map f xs)) right c.requires.right)
    (sym (c.cmp.ensures ∙ g.met.C.NetworkBits.ordered p q) ∙ c.in-Less.is))

pub returns-in-Equal : goal.returns-in-Equal
returns-in-Equal g c =
    let f = g.C.BitString.bits in
    let p = c.in-Some.first.now in
    let q = c.in-Some-split_first.second.now in
    let left = c.in-Some.ensures.cases.0 in
    let right = c.in-Some-split_first.ensures.cases.0 in
    rw (left, right)
    (next_both (f p) (map f c.in-Some.behind.now) (subst (λ xs. Ascend (map f xs)) left c.requires.left)
    (f q) (map f c.in-Some-split_first.rest.now) (subst (λ xs. Ascend (map f xs)) right c.requires.right)
    (bits_exact (f p) (f q) (sym (c.cmp.ensures ∙ g.met.C.NetworkBits.ordered p q) ∙ c.in-Equal.is)))

pub returns-in-Greater : goal.returns-in-Greater
returns-in-Greater g c =
    let f = g.C.BitString.bits in
    let p = c.in-Some.first.now in
    let q = c.in-Some-split_first.second.now in
    let ps = map f c.in-Some.behind.now in
    let qs = map f c.in-Some-split_first.rest.now in
    let left = c.in-Some.ensures.cases.0 in
    let right = c.in-Some-split_first.ensures.cases.0 in
    rw (left, right)
    (next_swap (f q ∷ qs) (f p ∷ ps) (f q) qs (f p ∷ ps)
    (next_first (f q) qs (subst (λ xs. Ascend (map f xs)) right c.requires.right)
    (f p) ps (subst (λ xs. Ascend (map f xs)) left c.requires.left)
    (turned (f p) (f q) (sym (c.cmp.ensures ∙ g.met.C.NetworkBits.ordered p q) ∙ c.in-Greater.is))))

pub returns-in-None-split_first : goal.returns-in-None-split_first
returns-in-None-split_first g c =
    let f = g.C.BitString.bits in
    let left = c.in-Some.ensures.cases.0 in
    rw (left, nothing c.args.right.now c.in-None-split_first.ensures.cases)
    (next_alone (f c.in-Some.first.now) (map f c.in-Some.behind.now) (subst (λ xs. Ascend (map f xs)) left c.requires.left))

pub returns-in-Some-split_first-2 : goal.returns-in-Some-split_first-2
returns-in-Some-split_first-2 g c =
    let f = g.C.BitString.bits in
    let q = f c.in-Some-split_first-2.second.now in
    let qs = map f c.in-Some-split_first-2.rest.now in
    let right = c.in-Some-split_first-2.ensures.cases.0 in
    rw (nothing c.args.left.now c.in-None.ensures.cases, right)
    (next_swap (q ∷ qs) [] q qs [] (next_alone q qs (subst (λ xs. Ascend (map f xs)) right c.requires.right)))
