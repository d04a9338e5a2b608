use Rattle.std.proofs.Common.{◌<◌, ◌≤◌, rules}
use borrow.Author.Tests.{tests}
use Rattle.std.proofs.lemmas.Iterator.{IsFirst-from_position, YieldsList-from_slice}
use Rattle.cidr_c.proofs.Written.{rows_first}
use Rattle.cidr_c.proofs.writing.ipv4_rows.Goals as goal

pub returns-clause-rows : goal.returns-clause-rows
returns-clause-rows c =
    rows_first c.args.networks.now (record { high = 0; low = 0; tag = 0; zero_17 = 0; zero_18 = 0; zero_20 = 0 }) c.position.result c.unwrap_or.result
    (IsFirst-from_position _ _ c.position.result (λ v. 64 ≤ v.tag) (λ v. v.tag < 64) c.position.ensures.ran (YieldsList-from_slice c.args.networks.now cc)
    (λ x q k. search (rules, tests)) (λ x q k. search (rules, tests)))
    c.unwrap_or.ensures
