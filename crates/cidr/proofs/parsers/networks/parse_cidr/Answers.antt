-- A network by a parser of its address: each way out at a slash.
use Rattle.std.proofs.Common.{inr}
use Rattle.cidr.proofs.Parsing.{asked_as, cut_refused, cut_made, seen_in_family}
use Rattle.cidr.proofs.parsers.networks.parse_cidr.Goals as goal

pub returns-in-Some-Ok : goal.returns-in-Some-Ok
returns-in-Some-Ok g c =
    inr (asked_as (λ t x h. record { shown = h.0; shows = h.2; says = record { met = h.1 } })
    (cut_made _ c.args.s.now c.in-Some-Ok.ensures _ _ _ c.in-Some-Ok.field-0-is (seen_in_family _ _ _ _ _ c.new.ensures.value c.new.ensures.family)))

pub returns : goal.returns
returns g c =
    inr (asked_as (λ t x h. record { shown = h.0; shows = h.2; says = record { met = h.1 } })
    (cut_refused _ c.args.s.now c.in-Some-Err.ensures _ _ c.in-Some-Err.field-0-is))
