use Rattle.std.proofs.Common.{map}
use Rattle.cidr_table.specs.model.Cover.{Covers}
use Rattle.cidr_sets.proofs.Addresses.{set_alike}
use Rattle.cidr_sets.proofs.set.NetworkSet.remove_all.Goals as goal

pub returns-clause-ok : goal.returns-clause-ok
returns-clause-ok g c =
    let f = g.C.BitString.bits in
    let s = map f c.args.self.now in
    let removed = map f c.in_ok-removed.removed in
    let networks = map f c.args.networks.now in
    let same = c.in_ok-removed.ensures.set.exact in
    rw c.drop.view_is
    (set_alike 129 (λ a. Covers s a × ¬ (Covers removed a)) (λ a. Covers s a × ¬ (Covers networks a)) (map f c.in_ok-set.set)
    (λ a la. (
      λ d. (d.0, λ e. d.1 ((same a la).1 e)),
      λ d. (d.0, λ e. d.1 ((same a la).0 e)),
    )) c.in_ok-set.ensures.set)
