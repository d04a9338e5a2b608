use Rattle.std.proofs.Common.{arith, ◌≡◌, ◌-◌, ◌^◌, ◌<◌, length, subst, ap, ◌∙◌}
use Rattle.cidr.specs.model.Network.{width_of}
use Rattle.cidr_ext.specs.model.Subnets.{NoSubnetAt}
use Rattle.cidr_ext.proofs.Indexes.{is_there, step_below, subnet_made, where_some}
use Rattle.cidr_ext.proofs.subnets.subnet_at.Goals as goal

pub shifted-requires : goal.shifted-requires
shifted-requires g c =
    step_below (g.C.PrivCidr.family_of c.args.network.now) c.network_length.result c.args.len c.args.index c.in_ok-more.more c.in_ok-behind.behind
    c.in_ok-more.ensures.0 c.in_ok-more.ensures.1 (omega (arith, ap width_of c.family.ensures, c.len.ensures, c.in_ok-behind.ensures.0))
    (c.in_ok-behind.ensures.1 ∙ ap (λ k. k - c.args.len) (c.len.ensures ∙ ap width_of c.family.ensures))
    (c.fits.ensures.0 c.if-not-fits.false)

pub returns-clause-value : goal.returns-clause-value
returns-clause-value g c =
    subnet_made g.C.PrivCidr.family_of g.C.PrivCidr.prefix (g.C.PrivCidr.family_of c.args.network.now) (g.C.PrivCidr.prefix c.args.network.now)
    c.args.len c.args.index c.network_length.result c.in_ok-more.more c.in_ok-behind.behind c.shifted.result
    (g.C.Address.Inet.PrivInet.host c.first.result) (g.C.Address.Inet.PrivInet.host c.overflowing_add-host.result.0)
    (g.C.Address.Inet.PrivInet.family_of c.first.result) (g.C.Address.Inet.PrivInet.family_of c.overflowing_add-host.result.0)
    (g.C.Address.PrivUnspecAddress.family_of c.address.result) (g.C.Address.PrivUnspecAddress.bits c.address.result)
    c.new.result c.ok.result
    c.network_length.ensures.value c.in_ok-more.ensures.0 c.in_ok-more.ensures.1 (omega (arith, ap width_of c.family.ensures, c.len.ensures, c.in_ok-behind.ensures.0))
    (c.in_ok-behind.ensures.1 ∙ ap (λ k. k - c.args.len) (c.len.ensures ∙ ap width_of c.family.ensures))
    (c.fits.ensures.0 c.if-not-fits.false)
    c.shifted.ensures c.first.ensures.family c.first.ensures.value c.overflowing_add-host.ensures.family c.overflowing_add-host.ensures.stepped
    c.address.ensures.family c.address.ensures.value c.new.ensures.value c.new.ensures.family c.ok.ensures.value

pub returns-clause-within : goal.returns-clause-within
returns-clause-within g c =
    let f = g.C.PrivCidr.family_of c.args.network.now in
    let p = g.C.PrivCidr.prefix c.args.network.now in
    let short : c.args.index < 2 ^ c.in_ok-more.more = c.fits.ensures.0 c.if-not-fits.false in
    let bits : c.in_ok-more.more ≡ c.args.len - length p = c.in_ok-more.ensures.1 ∙ ap (λ k. c.args.len - k) c.network_length.ensures.value in
    let below : c.args.index < 2 ^ (c.args.len - length p) = subst (λ k. c.args.index < 2 ^ k) bits short in
    where_some c.ok.result (¬ (NoSubnetAt (width_of f) p c.args.len c.args.index))
    (is_there (width_of f) c.args.len c.args.index p (omega (arith, c.network_length.ensures.value, c.in_ok-more.ensures.0))
    (omega (arith, ap width_of c.family.ensures, c.len.ensures, c.in_ok-behind.ensures.0)) below)
