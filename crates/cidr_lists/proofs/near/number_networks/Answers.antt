use Rattle.std.proofs.Common.{◌≡◌, ◌∙◌, ap, sym, map, refl, Some, slice_get, arith}
use Rattle.std.proofs.lemmas.List.{length-map}
use Rattle.cidr.specs.declared.cidr.combined.IpCidr.TheVariants.{V4, V6}
use Rattle.cidr_lists.specs.Findings.{entry_network}
use Rattle.cidr_lists.proofs.Found.{network_of}
use Rattle.cidr_lists.proofs.NumberedRows.{all_below, none_below, none_more_below, one_below, v4_apart, v6_apart, v4_no_v6}
use Rattle.cidr_lists.proofs.near.number_networks.Goals as goal
use Rattle.cidr_lists.proofs.near.number_networks.Goals.{in-V4+in_ok-push-in-V4, in-V6+in_ok-push-in-V6}

pub loop-index-init : goal.loop-index-init
loop-index-init c = (
  none_below V4 (map entry_network c.args.entries.now) 0 _ refl c.new-v4.ensures.items,
  none_below V6 (map entry_network c.args.entries.now) 0 _ refl c.new-v6.ensures.items,
)

pub loop-index-preserved : goal.loop-index-preserved
loop-index-preserved c =
    let networks = map entry_network c.args.entries.now in
    let i = c.loop-index.index in
    elim c.match-network.branch [
      | in-V4+in_ok-push-in-V4 w ↦
          let there : slice_get networks i ≡ Some (V4 w.in-V4.network) =
          network_of c.args.entries.now i c.entry_at.result.now c.entry_at.ensures ∙ ap Some (sym c.network.ensures ∙ w.in-V4.is) in
          rw (w.v4-is, w.v6-is, w.in_ok-push-in-V4.ensures.items) (
            one_below V4 networks v4_apart i c.loop-index.v4.items w.in-V4.network there c.loop-index.invariant.0,
            none_more_below V6 networks i c.loop-index.v6.items (V4 w.in-V4.network) there (λ q. v4_no_v6 w.in-V4.network q) c.loop-index.invariant.1,
          )
      | in-V6+in_ok-push-in-V6 w ↦
          let there : slice_get networks i ≡ Some (V6 w.in-V6.network) =
          network_of c.args.entries.now i c.entry_at.result.now c.entry_at.ensures ∙ ap Some (sym c.network.ensures ∙ w.in-V6.is) in
          rw (w.v4-is, w.v6-is, w.in_ok-push-in-V6.ensures.items) (
            none_more_below V4 networks i c.loop-index.v4.items (V6 w.in-V6.network) there (λ q e. v4_no_v6 q w.in-V6.network (sym e)) c.loop-index.invariant.0,
            one_below V6 networks v6_apart i c.loop-index.v6.items w.in-V6.network there c.loop-index.invariant.1,
          )
    ]

pub returns : goal.returns
returns c =
    let networks = map entry_network c.args.entries.now in (
      all_below V4 networks c.loop-index.index c.loop-index.v4.items (omega (arith, c.loop-index-test.false, length-map c.args.entries.now entry_network)) c.loop-index.invariant.0,
      all_below V6 networks c.loop-index.index c.loop-index.v6.items (omega (arith, c.loop-index-test.false, length-map c.args.entries.now entry_network)) c.loop-index.invariant.1,
    )
