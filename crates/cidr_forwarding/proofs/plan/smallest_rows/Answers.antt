use Rattle.std.proofs.Common.{◌∙◌, ap}
use Rattle.std.proofs.lemmas.List.{take_all}
use Rattle.cidr_forwarding.specs.Forwarding.{in_bits}
use Rattle.cidr_forwarding.proofs.Smallest.{strip}
use Rattle.cidr_forwarding.proofs.Final.{smallest_width, smallest_ip, smallest_sorted, smallest_fits, smallest_kept, smallest_kept_ip, more_some, more_none}
use Rattle.cidr_forwarding.proofs.plan.smallest_rows.Goals as goal
use Rattle.cidr_forwarding.proofs.plan.smallest_rows.Goals.{in-Some+in_ok-push-in-Some, in-None}

pub loop-row-init : goal.loop-row-init
loop-row-init g c = ap (in_bits g.C.BitString.bits) c.in_ok-out.ensures.items

pub loop-row-preserved : goal.loop-row-preserved
loop-row-preserved g c =
    let f = g.C.BitString.bits in
    elim c.match-row.branch [
      | in-Some+in_ok-push-in-Some w ↦
          more_some f c.deref-row-items.result.now c.loop-row.row-index c.row-item.result c.loop-row-test.true c.row-item.is c.loop-row.out.items c.loop-row.invariant
          w.in-Some.value c.match-row.out.items w.in-Some.is (ap (λ v. v.items) w.out-is ∙ w.in_ok-push-in-Some.ensures.items)
      | in-None w ↦
          ap (λ v. in_bits f v.items) w.out-is
          ∙ more_none f c.deref-row-items.result.now c.loop-row.row-index c.row-item.result c.loop-row-test.true c.row-item.is c.loop-row.out.items c.loop-row.invariant w.in-None.is
    ]

pub returns : goal.returns
returns g c =
    let f = g.C.BitString.bits in
    let eq = g.V.PartialEq.eq in
    let rows = c.args.rows.now in
    let node = c.smallest.ensures.node in
    let out = c.loop-row.out.items in
    let is =
    c.loop-row.invariant ∙ ap (λ l. strip (in_bits f l)) (take_all c.loop-row.row-index c.deref-row-items.result.now c.loop-row-test.false ∙ c.deref-row-items.ensures.value)
    ∙ ap strip c.in_ok-smallest.ensures.rows in
    record {
      width = smallest_width f eq c.requires.tells rows node (in_bits f out) is;
      ip = smallest_ip f eq c.requires.tells rows node (in_bits f out) is;
      kept = smallest_kept f eq c.requires.tells rows node out is;
      kept_ip = smallest_kept_ip f eq c.requires.tells rows node out is;
      sorted = smallest_sorted f eq c.requires.tells rows node g.C.Ord.cmp g.met.C.NetworkBits.ordered out is;
      fits = smallest_fits f eq c.requires.tells rows node out is;
    }
