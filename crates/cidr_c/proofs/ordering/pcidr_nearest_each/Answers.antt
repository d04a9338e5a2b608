use Rattle.std.proofs.Common.{◌≡◌, ◌≤◌, arith, subst, drop, length, List, map, ℕ}
use Rattle.std.proofs.lemmas.List.{length-map}
use Rattle.cidr.specs.declared.cidr.any.AnyIpCidr.{AnyIpCidr}
use Rattle.cidr_c.specs.calls.Ordering.{IsNearestIndex}
use Rattle.cidr_c.specs.model.Values.{network_in}
use Rattle.cidr_c.proofs.Indexes.{all_done, all_nearest}
use Rattle.cidr_c.proofs.ordering.pcidr_nearest_each.Goals as goal

pub put_nearest_in-requires : goal.put_nearest_in-requires
put_nearest_in-requires c =
    let values = c.args.networks.now in
    let fits : length (map network_in values) ≤ length c.args.out.now = omega (arith, length-map values network_in) in
    (map network_in values, c.in-Ok.ensures.1, fits)

pub returns : goal.returns
returns c =
    let values = c.args.networks.now in
    let networks : List AnyIpCidr = map network_in values in
    let out = c.put_nearest_in.new.out in
    let behind : drop (length values) out ≡ drop (length values) c.args.out.now =
    subst (λ (n : ℕ). drop n out ≡ drop n c.args.out.now) (length-map values network_in) (c.put_nearest_in.ensures.behind networks c.in-Ok.ensures.1) in
    all_done (IsNearestIndex networks) values values c.args.out.now out c.in-Ok.ensures.0
    (all_nearest values out c.in-Ok.ensures.0 (c.put_nearest_in.ensures.put networks c.in-Ok.ensures.1)) behind
