use Rattle.std.proofs.Common.{◌∙◌, ap}
use Rattle.std.specs.List.{slice_get}
use Rattle.cidr_uses.proofs.AccessLists.{first_contained, none_contained}
use Rattle.cidr_uses.proofs.prefix_lists.first_shadowed.Goals as goal

pub returns-in-Some : goal.returns-in-Some
returns-in-Some g c =
    (c.in_ok-out.ensures.indices c.in-Some.index.now).0
    (first_contained c.in_ok-out.out.items c.in-Some.index.now (c.in-Some.ensures.value ∙ ap (λ xs. slice_get xs 0) c.deref.ensures.value))

pub returns : goal.returns
returns g c i s =
    none_contained c.in_ok-out.out.items (c.in-None.ensures.value ∙ ap (λ xs. slice_get xs 0) c.deref.ensures.value) i
    ((c.in_ok-out.ensures.indices i).1 s)
