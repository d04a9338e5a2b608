use Rattle.std.proofs.Common.{◌<◌, ap, arith, length, Some, sym, ◌∙◌}
use Rattle.std.proofs.lemmas.List.{drop-set-lt}
use Rattle.cidr_lists.specs.Reading.{listed}
use Rattle.cidr_c.specs.calls.Lists.{of_both}
use Rattle.cidr_c.proofs.ListsRead.{one_put}
use Rattle.cidr_c.proofs.lists.put_all.Goals as goal

pub loop-i-preserved : goal.loop-i-preserved
loop-i-preserved c =
    let l = c.loop-i in
    let networks = of_both (listed c.args.lists.now) in
    let fits : l.i < length l.out = omega arith in
    let lt : l.i < length networks = omega arith in
    let more = one_put networks l.out l.i c.put_network.new.out fits lt l.invariant.0 l.invariant.1 c.put_network.ensures.is_network
    (c.network_at.ensures ∙ ap Some (sym c.put_network.ensures.network)) in
    (more.0, more.1, drop-set-lt c.args.count l.out l.i c.put_network.new.out (omega arith) ∙ l.invariant.2)
