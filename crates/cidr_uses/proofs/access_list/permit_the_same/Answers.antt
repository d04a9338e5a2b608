use Rattle.std.proofs.Common.{map, sym, ap, ◌∙◌}
use Rattle.cidr_uses.proofs.access_list.permit_the_same.Goals as goal

pub returns : goal.returns
returns g c =
    let f = g.C.BitString.bits in
    let set = c.in_ok-set.set in
    let other = c.in_ok-other.other in
    let told = c.equal_sets_are_the_same.ensures in
    let same = c.equal_sets_permit_the_same.ensures 129 (map (λ r. f r.network) c.args.rules.now) (map (λ r. f r.network) c.args.others.now)
    (map (λ r. r.action) c.args.rules.now) (map (λ r. r.action) c.args.others.now) (map f set) (map f other)
    c.in_ok-set.ensures c.in_ok-other.ensures in (
      λ t. same.0 (ap (map f) ((told.eq set other).0 (sym c.eq.ensures ∙ t))),
      λ p. c.eq.ensures ∙ (told.eq set other).1 (told.bits set other (same.1 p)),
    )
