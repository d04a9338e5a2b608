use Rattle.cidr_sets.proofs.Addresses.{one_list}
use Rattle.cidr_sets.proofs.laws.sets_are_their_ranges.Goals as goal

pub returns : goal.returns
returns c w set again ranges reduced told h = one_list w again set h.reduced reduced
    (λ a la. (λ d. (told.exact a la).1 ((h.exact a la).0 d), λ d. (h.exact a la).1 ((told.exact a la).0 d)))
