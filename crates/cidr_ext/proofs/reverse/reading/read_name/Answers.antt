-- A name has the one domain or the other.
use Rattle.std.proofs.Common.{rules}
use Rattle.cidr_ext.specs.internal.LabelReading.{IsWithoutDot}
use Rattle.cidr_ext.proofs.NameReading.{no_domain, name_found, ipv4_only, ipv6_only}
use Rattle.cidr.specs.declared.family.Family.TheVariants.{Ipv4}
use Rattle.cidr_ext.proofs.reverse.reading.read_name.Goals as goal

pub returns-in_err-before_domain-in-None-clause-only : goal.returns-in_err-before_domain-in-None-clause-only
returns-in_err-before_domain-in-None-clause-only c = λ f p h.
    let without : IsWithoutDot c.args.name.now c.without_final_dot-name.result.now = search rules in
    absurd (no_domain _ _ _ _ without c.domain.ensures c.domain-in-None.ensures c.in-None.ensures c.in_err-before_domain-in-None.ensures f p h)

pub returns-in-Some-clause-found : goal.returns-in-Some-clause-found
returns-in-Some-clause-found c =
    let without : IsWithoutDot c.args.name.now c.without_final_dot-name.result.now = search rules in
    name_found _ _ without Ipv4 _ _ c.domain.ensures c.in-Some.ensures _ c.read_family.ensures.found

pub returns-in-Some-clause-only : goal.returns-in-Some-clause-only
returns-in-Some-clause-only c =
    let without : IsWithoutDot c.args.name.now c.without_final_dot-name.result.now = search rules in
    ipv4_only _ _ c.domain.result.now c.domain.result.now without c.domain.ensures _ _ c.in-Some.ensures c.read_family.ensures.only

pub returns-in_ok-before_domain-in-None-clause-only : goal.returns-in_ok-before_domain-in-None-clause-only
returns-in_ok-before_domain-in-None-clause-only c =
    let without : IsWithoutDot c.args.name.now c.without_final_dot-name.result.now = search rules in
    ipv6_only _ _ _ _ without c.domain.ensures _ _ c.domain-in-None.ensures c.in-None.ensures c.in_ok-before_domain-in-None.ensures c.read_family-in-None.ensures.only
