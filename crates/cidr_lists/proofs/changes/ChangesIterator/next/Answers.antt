use Rattle.std.proofs.Common.{◌≡◌, [], sym, ◌∙◌}
use Rattle.cidr_sets.proofs.Joining.{nothing, progress_front}
use Rattle.cidr_lists.specs.declared.changes.Sign.TheVariants.{Plus, Minus}
use Rattle.cidr_lists.proofs.Merged.{minus_first, none_first, plus_first}
use Rattle.cidr_lists.proofs.changes.ChangesIterator.next.Goals as goal

pub returns-then-adds_first-clause-steps : goal.returns-then-adds_first-clause-steps
returns-then-adds_first-clause-steps g c =
    sym c.self.view_is
    ∙ plus_first g.C.BitString.bits c.self.inside.added.now c.self.inside.lacking.now c.in_ok-network.rest.now c.in_ok-network.network.now
    (sym c.adds_first.ensures ∙ c.if-adds_first.true) c.in_ok-network.ensures.cases.0

pub returns-then-adds_first-clause-goes : goal.returns-then-adds_first-clause-goes
returns-then-adds_first-clause-goes g c =
    progress_front (λ x. x) (λ s. tt) c.args.self.now _ (Plus, c.in_ok-network.network.now) (returns-then-adds_first-clause-steps g c)

pub returns-in_err-network-2-clause-steps : goal.returns-in_err-network-2-clause-steps
returns-in_err-network-2-clause-steps g c =
    let none : c.args.self.now ≡ [] = sym c.self.view_is
    ∙ none_first g.C.BitString.bits c.self.inside.added.now c.self.inside.lacking.now (sym c.adds_first.ensures ∙ c.if-adds_first.false)
    (nothing c.self.inside.lacking.now c.in_err-network-2.ensures.cases) in
    rw c.from_residual-in_err-network-2.ensures (none, none)

pub returns-clause-steps : goal.returns-clause-steps
returns-clause-steps g c =
    sym c.self.view_is
    ∙ minus_first g.C.BitString.bits c.self.inside.added.now c.self.inside.lacking.now c.in_ok-network-2.rest.now c.in_ok-network-2.network.now
    (sym c.adds_first.ensures ∙ c.if-adds_first.false) c.in_ok-network-2.ensures.cases.0

pub returns-clause-goes : goal.returns-clause-goes
returns-clause-goes g c =
    progress_front (λ x. x) (λ s. tt) c.args.self.now _ (Minus, c.in_ok-network-2.network.now) (returns-clause-steps g c)
