use Rattle.cidr_uses.proofs.route_hits.count_hit.Goals as goal

pub returns-clause-hit : goal.returns-clause-hit
returns-clause-hit g c =
    let hit = rw c.in_ok-hits.was at (c.lookup_mut.follows.holds c.saturating_add.result) in
    record {
      network = hit.key;
      before = c.in_ok-hits.hits.now;
      route = record { there = hit.longest.here; begins = hit.longest.begins; longest = hit.longest.longest };
      counted = c.saturating_add.ensures;
      after = hit.written.rows;
    }

pub returns-clause-none : goal.returns-clause-none
returns-clause-none g c = (rw c.in_ok-hits.was at (c.lookup_mut.follows.holds c.saturating_add.result)).written.capacity
