use Rattle.std.specs.List.{flat_map}
use Rattle.std.proofs.lemmas.Result.{err_from_is_err_and}
use Rattle.cidr_lists.specs.Formats.{layout_in}
use Rattle.netset_commands.specs.Free.{inside_of}
use Rattle.netset_commands.specs.Networks.{ip_of}
use Rattle.netset_commands.proofs.LaidOut.{layout_end_lost, layout_lost, layout_taken}
use Rattle.netset_commands.proofs.commands.free.push_layout.Goals as goal

pub returns-in_err-left : goal.returns-in_err-left
returns-in_err-left g c =
    let (y, is, same) = err_from_is_err_and c.from_residual.result c.from_residual.ensures.1 in
    rw is (layout_lost (layout_in c.args.layout) c.args.most (flat_map (λ network. inside_of c.args.len (ip_of g.C.FamilyCidr.FAMILY (g.C.BitString.bits network))) c.args.networks.now)
    (g.S.Sink.state c.args.out.now) (g.S.Sink.state c.push_inside.new.out) c.args.block.now c.push_inside.new.block c.push_inside.new.block y c.in_err-left.ensures)

pub returns-in_err-push_last : goal.returns-in_err-push_last
returns-in_err-push_last g c =
    let (y, is, same) = err_from_is_err_and c.from_residual-in_err-push_last.result c.from_residual-in_err-push_last.ensures.1 in
    rw is (layout_end_lost (layout_in c.args.layout) c.args.most c.in_ok-left.left c.in_ok-left.last
    (flat_map (λ network. inside_of c.args.len (ip_of g.C.FamilyCidr.FAMILY (g.C.BitString.bits network))) c.args.networks.now) (g.S.Sink.state c.args.out.now)
    (g.S.Sink.state c.push_inside.new.out) (g.S.Sink.state c.push_last.new.out) c.args.block.now c.push_inside.new.block c.push_last.new.block y
    c.in_ok-left.ensures c.in_err-push_last.ensures)

pub returns : goal.returns
returns g c =
    layout_taken (layout_in c.args.layout) c.args.most c.in_ok-left.left c.in_ok-left.last
    (flat_map (λ network. inside_of c.args.len (ip_of g.C.FamilyCidr.FAMILY (g.C.BitString.bits network))) c.args.networks.now) (g.S.Sink.state c.args.out.now)
    (g.S.Sink.state c.push_inside.new.out) (g.S.Sink.state c.push_last.new.out) c.args.block.now c.push_inside.new.block c.push_last.new.block
    c.in_ok-left.ensures c.in_ok-push_last.ensures
