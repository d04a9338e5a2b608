use Rattle.std.proofs.Common.{◌≡◌, ◌+◌, ◌<◌, ℕ, ap, arith, drop, inl, inr, length, subst, sym, ◌∙◌}
use Rattle.std.proofs.lemmas.List.{drop-drop, drop-set-lt, length-set}
use Rattle.cidr.specs.declared.cidr.combined.IpCidr.{IpCidr}
use Rattle.cidr.specs.either.IpNetwork.{network_family, network_prefix}
use Rattle.cidr_ext.specs.model.Subnets.{IsSubnetAt}
use Rattle.cidr_c.specs.model.Values.{IsIpNetworkValue, family_in, prefix_in}
use Rattle.cidr_c.specs.declared.values.CValue.{CValue}
use Rattle.cidr_c.proofs.SubnetLists.{one_made}
use Rattle.cidr_c.proofs.subnets.put_subnets.Goals as goal

pub loop-n-preserved : goal.loop-n-preserved
loop-n-preserved c =
    let network = c.args.network.now in
    let out = c.loop-n.out in
    let n = c.loop-n.n in
    let made = c.put_ip_network.new.out in
    let told = c.in-Some.ensures in
    let e = c.put_ip_network.ensures.network in
    let fits : n < length out = omega arith in
    let rest : drop (n + 1) out ≡ drop (n + 1) c.args.out.now =
    sym (drop-drop 1 n out) ∙ (ap (drop 1) c.loop-n.invariant.2 ∙ drop-drop 1 n c.args.out.now) in (
      length-set out n made ∙ c.loop-n.invariant.0,
      one_made (λ (i : ℕ) (v : CValue). IsIpNetworkValue v × (family_in v ≡ network_family network)
          × IsSubnetAt (network_prefix network) c.args.len (c.args.index + i) (prefix_in v)) n out made c.loop-n.invariant.1 fits (
            c.put_ip_network.ensures.is_network,
            ap network_family e ∙ told.0,
            subst (λ (m : IpCidr). IsSubnetAt (network_prefix network) c.args.len (c.args.index + n) (network_prefix m)) (sym e) told.1,
          ),
      drop-set-lt (n + 1) out n made (omega arith) ∙ rest,
    )

pub returns-in_default : goal.returns-in_default
returns-in_default c = record {
  networks = c.loop-n.invariant.1;
  fits = omega (arith, c.loop-n.invariant.0, c.loop-n-test.true);
  all = inr c.in_default.ensures;
  behind = c.loop-n.invariant.2;
}

pub returns : goal.returns
returns c =
    let out = c.loop-n.out in
    let old = c.args.out.now in
    let whole : c.loop-n.n ≡ length out = omega (arith, c.loop-n.invariant.0, c.loop-n-test.false) in
    record {
      networks = λ i v lt found. c.loop-n.invariant.1 i v (omega (arith, lt, whole)) found;
      fits = omega (arith, c.loop-n.invariant.0);
      all = inl c.loop-n.invariant.0;
      behind = subst (λ (k : ℕ). drop k out ≡ drop k old) whole c.loop-n.invariant.2;
    }
