use Rattle.std.proofs.Common.{subst, sym, ◌∙◌, ◌≤◌}
use Rattle.cidr.specs.declared.family.Family.TheVariants.{Ipv4}
use Rattle.cidr_ext.specs.texts.Reverse.{IsReverseName}
use Rattle.cidr_uses.proofs.names_and_subnets.network_named.Goals as goal

pub returns : goal.returns
returns c =
    let net = c.args.network.now in
    let e = c.as_str.ensures.value ∙ c.in_ok-name.ensures.0 in
    let fits = subst (λ n. n ≤ 32) c.network_length.ensures.value c.network_length.ensures.fits in
    let read = c.printed_name_is_read.ensures Ipv4 net fits c.in_ok-name.ensures.1 in
    c.from_reverse_name.ensures.only net (subst (λ text. IsReverseName Ipv4 text net) (sym e) read)
