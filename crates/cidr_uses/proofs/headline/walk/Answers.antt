-- Any calls at both ends of the walk of a network.
use Rattle.std.proofs.Common.{◌≡◌, ◌≤◌, Bool, length, ap, ◌∙◌, arith, length-append}
use Rattle.std.proofs.lemmas.List.{length-replicate}
use Rattle.cidr.specs.model.Network.{width_of, first_of, last_of}
use Rattle.cidr.specs.model.Walk.{addresses_of, network_hosts, answers_to}
use Rattle.cidr_uses.proofs.WalkCalls.{walks}
use Rattle.cidr_uses.proofs.headline.walk.Goals as goal

pub returns : goal.returns
returns g c =
    let family = g.C.PrivCidr.family_of c.args.network.now in
    let p = g.C.PrivCidr.prefix c.args.network.now in
    let w = width_of family in
    let ends = c.args.ends.now in
    let items = addresses_of (network_hosts family p) in
    let fits : length p ≤ w = omega (arith, c.network_length-len.ensures.value, c.network_length-len.ensures.fits) in
    let first : length (first_of w p) ≡ w = omega (arith, length-append {A = Bool}, length-replicate {A = Bool}) in
    let last : length (last_of w p) ≡ w = omega (arith, length-append {A = Bool}, length-replicate {A = Bool}) in
    let up = c.walk_ascends.ensures w (first_of w p) (last_of w p) first last in
    let is = c.drive.ensures.answers ∙ ap (λ t. answers_to t ends) (c.addresses-left.ensures ∙ ap addresses_of c.iter.ensures.walk) in
    walks family p ends _ is c.iter.ensures.exactly up (c.calls_return_items_once.ensures items ends) (c.enough_calls_return_each_item.ensures items ends)
    (c.calls_return_from_the_ends.ensures items ends)
