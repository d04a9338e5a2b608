use Rattle.std.proofs.Common.{◌∙◌, inl, inr, refl, sym, option_map}
use Rattle.std.proofs.lemmas.Bool.{true≢false}
use Rattle.cidr_lists.specs.Formats.{style_in}
use Rattle.netset_commands.specs.Single.{HasNone}
use Rattle.netset_commands.proofs.Pools.{subnets_written}
use Rattle.netset_commands.proofs.commands.split.split_network.Goals as goal

pub returns-then-has_none : goal.returns-then-has_none
returns-then-has_none g c = inl (refl, _, refl, (refl, c.has_none.ensures.0 c.if-has_none.true))

pub returns : goal.returns
returns g c =
    let some : ¬ (HasNone c.args.network.now c.args.len) = λ none. true≢false (sym (c.has_none.ensures.1 none) ∙ c.if-has_none.false) in
    inr (
      some,
      c.write_subnets.result,
      subnets_written (option_map (λ s. style_in s) c.args.style) c.args.network.now c.args.len (g.S.Sink.state c.args.out.now)
          (g.S.Sink.state c.write_subnets.new.out) c.write_subnets.result some c.write_subnets.ensures,
      c.by_output.ensures,
    )
