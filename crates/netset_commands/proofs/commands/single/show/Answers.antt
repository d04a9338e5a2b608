use Rattle.std.proofs.Common.{inr, refl}
use Rattle.cidr.specs.either.IpHost.{host_address, host_network}
use Rattle.cidr_lists.specs.Descriptions.{host_lines}
use Rattle.netset_commands.specs.declared.output.answers.Verdict.TheVariants.{Yes}
use Rattle.netset_commands.proofs.commands.single.show.Goals as goal

pub returns-in-Ok : goal.returns-in-Ok
returns-in-Ok g c contents =
    let class = c.class_text-class.result.0.bytes in
    inr (
      host_lines (host_network c.in-Ok.host) (host_address c.in-Ok.host) class,
      Yes,
      c.write_host.result,
      (
        c.in-Ok.host,
        c.in-Ok.ensures.value,
        (class, c.class_text-class.result.1, rw c.address.ensures.value at c.class_text-class.ensures.class, refl),
        refl,
      ),
      c.write_host.ensures,
      c.by_output.ensures,
    )
