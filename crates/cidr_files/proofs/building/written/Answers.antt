use Rattle.std.proofs.Common.{◌∙◌}
use Rattle.cidr_files.proofs.building.written.Goals as goal

pub returns-clause-ipv4_steps : goal.returns-clause-ipv4_steps
returns-clause-ipv4_steps c = c.in_ok-bytes.ensures.ipv4_steps ∙ c.contents_of-ipv4_contents.ensures.steps

pub returns-clause-ipv6_steps : goal.returns-clause-ipv6_steps
returns-clause-ipv6_steps c = c.in_ok-bytes.ensures.ipv6_steps ∙ c.contents_of-ipv6_contents.ensures.steps

pub returns-clause-all : goal.returns-clause-all
returns-clause-all c =
    let ipv4 = c.contents_of-ipv4_contents in
    let ipv6 = c.contents_of-ipv6_contents in
    record {
      ipv4_contents = ipv4.result;
      ipv6_contents = ipv6.result;
      ipv4_are = ipv4.ensures.contents;
      ipv6_are = ipv6.ensures.contents;
      ipv4_rows = ipv4.ensures.rows;
      ipv6_rows = ipv6.ensures.rows;
      ipv4_own = ipv4.ensures.steps;
      ipv6_own = ipv6.ensures.steps;
      bytes_are = c.in_ok-bytes.ensures.all;
    }
