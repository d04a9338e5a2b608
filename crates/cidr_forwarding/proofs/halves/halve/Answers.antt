use Rattle.cidr_forwarding.proofs.Passes.{planned_even, planned_of_halves, half_nodes}
use Rattle.cidr_forwarding.proofs.Reading.{lower_of, upper_of}
use Rattle.cidr_forwarding.proofs.halves.halve.Goals as goal

pub returns : goal.returns
returns g c =
    let r = c.longer-own.ensures.rest in
    let h = c.split.ensures in
    let nodes = half_nodes g.C.BitString.bits r h in
    record {
      ended = planned_even g.C.BitString.bits r;
      node = r.node;
      deep = r.deep;
      of = c.longer-own.ensures.of;
      low_node = nodes.0;
      high_node = nodes.1;
      low_of = λ q l k. lower_of h q l (c.longer-own.ensures.of q k);
      high_of = λ q l k. upper_of h q l (c.longer-own.ensures.of q k);
      plan = planned_of_halves g.C.BitString.bits r h;
    }
