use Rattle.std.proofs.Common.{◌<◌, ◌∙◌, List, length, map, arith, subst}
use Rattle.std.proofs.lemmas.List.{drop-set-lt, length-set}
use Rattle.cidr.specs.declared.cidr.any.AnyIpCidr.{AnyIpCidr}
use Rattle.cidr_c.specs.calls.Lookups.{IsLongestIndex}
use Rattle.cidr_c.specs.model.Values.{network_in}
use Rattle.cidr_c.proofs.Answering.{all, one_more}
use Rattle.cidr_c.proofs.Indexes.{all_done}
use Rattle.cidr_c.proofs.lookups.pcidr_longest_match_each.Goals as goal

pub longest_in-requires : goal.longest_in-requires
longest_in-requires c = (map network_in c.args.networks.now, c.in-Ok.ensures.1)

pub loop-i-preserved : goal.loop-i-preserved
loop-i-preserved c =
    let told = c.in-Some.ensures in
    let networks : List AnyIpCidr = map network_in c.args.networks.now in
    let fits : c.loop-i.i < length c.loop-i.out = omega arith in (
      length-set c.loop-i.out c.loop-i.i c.longest_in.result ∙ c.loop-i.invariant.0,
      one_more (IsLongestIndex networks) c.loop-i.i (record { high = 0; low = 0; tag = 0; zero_17 = 0; zero_18 = 0; zero_20 = 0 }) c.args.asked.now c.loop-i.out c.longest_in.result
          c.loop-i.invariant.1 fits told.0 (subst (λ (n : AnyIpCidr). IsLongestIndex networks n c.longest_in.result) told.1 (c.longest_in.ensures networks c.in-Ok.ensures.1)),
      drop-set-lt (length c.args.asked.now) c.loop-i.out c.loop-i.i c.longest_in.result (omega arith) ∙ c.loop-i.invariant.2,
    )

pub returns : goal.returns
returns c =
    let networks : List AnyIpCidr = map network_in c.args.networks.now in
    all_done (IsLongestIndex networks) c.args.networks.now c.args.asked.now c.args.out.now c.loop-i.out c.in-Ok.ensures.0
    (all (IsLongestIndex networks) c.loop-i.i c.args.asked.now c.loop-i.out (omega arith) c.loop-i.invariant.1) c.loop-i.invariant.2
