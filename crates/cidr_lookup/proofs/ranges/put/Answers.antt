use Rattle.std.proofs.Common.{refl, sym, subst, arith, ◌<◌, length, map, get_or-set_other, get_or-set_same, length-set}
use Rattle.std.proofs.lemmas.List.{length-map, map-set}
use Rattle.cidr_lookup.specs.Passing.{IsPut}
use Rattle.cidr_lookup.proofs.ranges.put.Goals as goal

pub returns-clause-starts : goal.returns-clause-starts
returns-clause-starts g c =
    let f = g.A.Address.value in
    let xs = c.args.starts.now in
    let within : c.args.index < length (map f xs) = omega (arith, length-map xs f) in
    subst (λ l. IsPut (map f xs) l c.args.index c.args.start) (sym (map-set f xs c.args.index c.of.result))
    (record {
      put = rw get_or-set_same c.of.ensures;
      others = λ k ne. rw get_or-set_other refl;
      same = length-set (map f xs) c.args.index (f c.of.result);
    })
