use Rattle.std.proofs.Common.{inr, refl, []}
use Rattle.cidr.specs.texts.PrintedAddress.{ip_text}
use Rattle.cidr_lists.specs.Printing.{line}
use Rattle.netset_commands.specs.declared.output.answers.Verdict.TheVariants.{Yes, No}
use Rattle.netset_commands.proofs.commands.single.nth.Goals as goal

pub returns-in-Some-nth : goal.returns-in-Some-nth
returns-in-Some-nth g c contents =
    inr (
      line (ip_text c.in-Some-nth.address),
      Yes,
      c.write_line.result,
      (c.in_ok-network.network, c.in-Some.index, c.in_ok-network.ensures, c.in-Some.ensures, (c.in-Some-nth.address, c.in-Some-nth.ensures.0, c.in-Some-nth.ensures.1, refl)),
      rw (c.as_str.ensures.value, c.to_text.ensures.text) at c.write_line.ensures,
      c.by_output.ensures,
    )

pub returns-in-None : goal.returns-in-None
returns-in-None g c contents =
    inr (
      [],
      No,
      c.write_text.result,
      (c.in_ok-network.network, c.in-Some.index, c.in_ok-network.ensures, c.in-Some.ensures, (c.in-None.ensures, refl)),
      c.write_text.ensures,
      c.by_output-in-None.ensures,
    )
