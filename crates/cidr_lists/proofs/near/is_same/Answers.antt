use Rattle.std.proofs.Common.{◌≡◌, rules, is_eq}
use Rattle.cidr_table.proofs.Beginnings.{cmp_exact}
use Rattle.cidr_lists.proofs.SameKeys.{same_by}
use Rattle.cidr_lists.proofs.near.is_same.Goals as goal

pub returns : goal.returns
returns g c =
    let is : c.is_eq.result ≡ is_eq (g.C.Ord.cmp c.args.one.now c.args.other.now) = search rules in
    same_by g.C.Ord.cmp g.met.C.Ord.total (cmp_exact g.C.Ord.cmp g.C.BitString.bits g.met.C.NetworkBits.ordered g.met.C.NetworkBits.determined) c.is_eq.result
    c.args.one.now c.args.other.now is
