use Rattle.cidr_lookup.specs.Tables.{ipv4_steps, ipv6_steps}
use Rattle.cidr_c.proofs.Checks.{accepted}
use Rattle.cidr_c.proofs.laws.built_tables_are_accepted.Goals as goal

pub returns-clause-ipv4 : goal.returns-clause-ipv4
returns-clause-ipv4 c = λ networks first words first_new words_new sizes sizes_new code.
    accepted 32 4 ipv4_steps networks first words first_new words_new sizes sizes_new code

pub returns-clause-ipv6 : goal.returns-clause-ipv6
returns-clause-ipv6 c = λ networks first words first_new words_new sizes sizes_new code.
    accepted 128 2 ipv6_steps networks first words first_new words_new sizes sizes_new code
