use Rattle.std.proofs.Common.{refl, subst, [], option_map}
use Rattle.cidr_io.specs.Writing.{Answered}
use Rattle.cidr_lists.specs.Formats.{printed_walk, style_in}
use Rattle.cidr_lists.specs.Sets.{networks_of}
use Rattle.netset_commands.specs.Free.{all_told, inside_of, taken}
use Rattle.netset_commands.specs.declared.output.answers.Verdict.TheVariants.{Yes, No}
use Rattle.netset_commands.proofs.Taken.{Walk, taken_none}
use Rattle.netset_commands.proofs.commands.free.tell_free.Goals as goal

pub returns-in-Some : goal.returns-in-Some
returns-in-Some g c = (
  printed_walk (option_map (λ s. style_in s) c.args.style) (taken c.args.most (all_told (inside_of c.args.len) (networks_of c.args.sets.now))),
  Yes,
  c.write_inside.result,
  (c.in-Some.field-0, c.in-Some.ensures, refl),
  rw (c.as_slice.ensures.networks, c.as_slice-in-Some.ensures.networks) at c.write_inside.ensures,
  c.by_output.ensures,
)

pub returns-in-None : goal.returns-in-None
returns-in-None g c = (
  printed_walk (option_map (λ s. style_in s) c.args.style) [],
  No,
  c.write_inside-in-None.result,
  (c.in-None.ensures, refl),
  subst (λ (k : Walk). Answered (g.S.Sink.state c.args.out.now) (g.S.Sink.state c.write_inside-in-None.new.out)
      (printed_walk (option_map (λ s. style_in s) c.args.style) k) c.write_inside-in-None.result) (taken_none c.args.most) c.write_inside-in-None.ensures,
  c.by_output-in-None.ensures,
)
