use Rattle.std.proofs.Common.{refl, sym, ap, arith, ℕ, ◌*◌, ◌^◌, []}
use Rattle.cidr_lookup.proofs.Nodes.{no_marks, no_runs}
use Rattle.cidr_lookup.proofs.node.Runs.new.Goals as goal

pub returns : goal.returns
returns c = record {
  parts = refl;
  most = omega arith;
  marked = sym (ap (λ (m : ℕ). m * 2 ^ 64) (no_marks []));
  room = refl;
  few = omega arith;
  are_runs = sym (no_runs []);
}
