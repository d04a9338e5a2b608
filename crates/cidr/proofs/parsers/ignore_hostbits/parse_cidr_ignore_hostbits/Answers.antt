-- The network that holds an address, by a parser of the address: each way out at a slash.
use Rattle.std.proofs.Common.{inr}
use Rattle.cidr.proofs.Parsing.{asked_as, cut_refused, cut_made}
use Rattle.cidr.proofs.parsers.ignore_hostbits.parse_cidr_ignore_hostbits.Goals as goal

pub returns-in-Some-Ok : goal.returns-in-Some-Ok
returns-in-Some-Ok g c =
    inr (asked_as (λ t x h. record { shown = h.0; shows = h.2; says = record { met = h.1 } })
    (cut_made _ c.args.s.now c.in-Some-Ok.ensures _ _ _ c.in-Some-Ok.field-0-is c.network_holding.ensures))

pub returns : goal.returns
returns g c =
    inr (asked_as (λ t x h. record { shown = h.0; shows = h.2; says = record { met = h.1 } })
    (cut_refused _ c.args.s.now c.in-Some-Err.ensures _ _ c.in-Some-Err.field-0-is))
