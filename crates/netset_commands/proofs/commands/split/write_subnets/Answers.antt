use Rattle.std.proofs.Common.{◌∙◌, [], ◌++◌, append-nil, subst, option_map}
use Rattle.cidr_io.specs.Writing.{Answered}
use Rattle.cidr.specs.declared.cidr.combined.IpCidr.TheVariants.{V4, V6}
use Rattle.cidr_lists.specs.Formats.{printed_walk, style_in}
use Rattle.netset_commands.specs.Free.{inside_of}
use Rattle.netset_commands.proofs.Taken.{Walk}
use Rattle.netset_commands.proofs.commands.split.write_subnets.Goals as goal

pub returns-in-V4 : goal.returns-in-V4
returns-in-V4 g c =
    let all : Walk = inside_of c.args.len (V4 c.in-V4.network) in
    rw c.in-V4.is (subst (λ (k : Walk). Answered (g.S.Sink.state c.args.out.now) (g.S.Sink.state c.write_inside.new.out)
    (printed_walk (option_map (λ s. style_in s) c.args.style) k) c.write_inside.result) (append-nil (all ++ []) ∙ append-nil all) c.write_inside.ensures)

pub returns-in-V6 : goal.returns-in-V6
returns-in-V6 g c =
    let all : Walk = inside_of c.args.len (V6 c.in-V6.network) in
    rw c.in-V6.is (subst (λ (k : Walk). Answered (g.S.Sink.state c.args.out.now) (g.S.Sink.state c.write_inside-in-V6.new.out)
    (printed_walk (option_map (λ s. style_in s) c.args.style) k) c.write_inside-in-V6.result) (append-nil all) c.write_inside-in-V6.ensures)
