use Rattle.cidr_uses.proofs.forwarding.agrees_with_smallest.Goals as goal

pub returns-clause-width : goal.returns-clause-width
returns-clause-width g c w most rows =
    (c.forwards_same.ensures.width w most rows (c.in_ok-smallest.ensures.kept w rows)).1 (c.in_ok-smallest.ensures.lookups w most rows)

pub returns-clause-ip : goal.returns-clause-ip
returns-clause-ip g c rows =
    (c.forwards_same.ensures.ip rows (c.in_ok-smallest.ensures.kept_ip rows)).1 (c.in_ok-smallest.ensures.ip_lookups rows)
