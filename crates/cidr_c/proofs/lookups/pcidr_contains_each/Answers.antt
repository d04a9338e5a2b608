use Rattle.std.proofs.Common.{◌<◌, ◌∙◌, ℕ, length, map, arith, subst}
use Rattle.std.proofs.lemmas.List.{drop-set-lt, length-set}
use Rattle.cidr.specs.either.IpNetwork.{any_bits}
use Rattle.cidr.specs.declared.cidr.any.AnyIpCidr.{AnyIpCidr}
use Rattle.cidr_table.specs.model.Cover.{IsFull}
use Rattle.cidr_c.specs.calls.Calls.{IsYesOrNo}
use Rattle.cidr_c.proofs.Answering.{one_more, contained}
use Rattle.cidr_c.proofs.lookups.pcidr_contains_each.Goals as goal

pub loop-i-preserved : goal.loop-i-preserved
loop-i-preserved c =
    let told = c.in-Some.ensures in
    let Answers : AnyIpCidr → ℕ → Type 0 = λ n answer. IsYesOrNo answer (IsFull 129 (map any_bits c.in-Ok.set) (any_bits n)) in
    let fits : c.loop-i.i < length c.loop-i.out = omega arith in (
      length-set c.loop-i.out c.loop-i.i c.held.result ∙ c.loop-i.invariant.0,
      one_more Answers c.loop-i.i (record { high = 0; low = 0; tag = 0; zero_17 = 0; zero_18 = 0; zero_20 = 0 }) c.args.asked.now c.loop-i.out c.held.result c.loop-i.invariant.1 fits told.0
          (subst (λ (n : AnyIpCidr). Answers n c.held.result) told.1 c.held.ensures),
      drop-set-lt (length c.args.asked.now) c.loop-i.out c.loop-i.i c.held.result (omega arith) ∙ c.loop-i.invariant.2,
    )

pub returns : goal.returns
returns c =
    contained c.args.networks.now c.args.asked.now c.in-Ok.set c.args.out.now c.loop-i.out c.loop-i.i c.in-Ok.ensures.0 c.in-Ok.ensures.1 (omega arith) c.loop-i.invariant.1 c.loop-i.invariant.2
