use Rattle.std.proofs.Common.{◌≡◌, ◌≢◌, refl, sym, ◌∙◌, ap, subst, arith, inl, ◌+◌, ◌-◌, ◌^◌, ◌<◌, ◌≤◌, length, get_or, slice_set, get_or-set_other, get_or-set_same}
use Rattle.cidr_lookup.specs.Keys.{key_networks}
use Rattle.cidr_lookup.specs.Passing.{IsPassing, at, last_number_in}
use Rattle.cidr_lookup.proofs.Numbers.{length_networks, network_at}
use Rattle.cidr_lookup.proofs.Steps.{closed, closed_edge, closed_range, ended, opened, opened_range, room, two_open}
use Rattle.cidr_lookup.proofs.pass.goes_on.Goals as goal
use Rattle.cidr_lookup.proofs.pass.goes_on.Goals.{then-pass-keys+else-first-last, else-pass-keys}

pub bounds-pass-depth-then-first-last : goal.bounds-pass-depth-then-first-last
bounds-pass-depth-then-first-last g c =
    let p = c.args.pass.now in
    let networks = key_networks g.A.Address.value c.args.keys.now in
    let size = length_networks g.A.Address.value c.args.keys.now in
    let here = network_at g.A.Address.value c.args.keys.now p.index c.index-keys-pass.result c.index-keys-pass.is c.if-pass-keys.true in
    let inside : (at g.A.Address.width networks p.index).0 ≤ get_or p.lasts (p.depth - 1) 0 = omega (arith, ap (λ k. k.0) here, c.number-first.ensures.value, c.if-first-last.true) in
    omega (arith, room g.A.Address.width networks c.requires.keys p.index p.start p.lasts p.ends p.depth c.requires.passing (omega arith) inside, c.requires.passing.wide)

pub returns-then-first-last-clause-passing : goal.returns-then-first-last-clause-passing
returns-then-first-last-clause-passing g c = λ _.
    let p = c.args.pass.now in
    let w = g.A.Address.width in
    let networks = key_networks g.A.Address.value c.args.keys.now in
    let size = length_networks g.A.Address.value c.args.keys.now in
    let here = network_at g.A.Address.value c.args.keys.now p.index c.index-keys-pass.result c.index-keys-pass.is c.if-pass-keys.true in
    let first : (at w networks p.index).0 ≡ c.number-first.result = ap (λ k. k.0) here ∙ sym c.number-first.ensures.value in
    let some : p.index < length networks = omega arith in
    let inside : (at w networks p.index).0 ≤ get_or p.lasts (p.depth - 1) 0 = omega (arith, first, c.if-first-last.true) in
    let fits = room w networks c.requires.keys p.index p.start p.lasts p.ends p.depth c.requires.passing some inside in
    subst (λ s. IsPassing w networks (p.index + 1) s (slice_set p.lasts p.depth c.last.result) (slice_set p.ends p.depth (p.index + 1)) (p.depth + 1)) first
    (opened w networks c.requires.keys p.index p.start p.lasts p.ends p.depth c.requires.passing some inside c.last.result
    (slice_set p.lasts p.depth c.last.result) (slice_set p.ends p.depth (p.index + 1))
    (c.last.ensures ∙ sym (ap (λ k. last_number_in w k) here))
    (λ q l. let ne : q ≢ p.depth = omega arith in rw get_or-set_other refl)
    (λ q l. let ne : q ≢ p.depth = omega arith in rw get_or-set_other refl)
    (let within : p.depth < length p.lasts = omega (arith, fits, c.requires.passing.wide) in rw get_or-set_same refl)
    (let within : p.depth < length p.ends = omega (arith, fits, c.requires.passing.wide) in rw get_or-set_same refl))

pub returns-then-first-last-clause-edge : goal.returns-then-first-last-clause-edge
returns-then-first-last-clause-edge g c = λ _.
    let p = c.args.pass.now in
    let size = length_networks g.A.Address.value c.args.keys.now in
    let here = network_at g.A.Address.value c.args.keys.now p.index c.index-keys-pass.result c.index-keys-pass.is c.if-pass-keys.true in
    record { index = p.index; within = omega arith; edge = inl (c.number-first.ensures.value ∙ sym (ap (λ k. k.0) here)) }

pub returns-then-first-last-clause-further : goal.returns-then-first-last-clause-further
returns-then-first-last-clause-further g c = λ _.
    let p = c.args.pass.now in
    let size = length_networks g.A.Address.value c.args.keys.now in
    let here = network_at g.A.Address.value c.args.keys.now p.index c.index-keys-pass.result c.index-keys-pass.is c.if-pass-keys.true in
    omega (arith, c.requires.passing.ahead p.index (omega arith) (omega arith), ap (λ k. k.0) here, c.number-first.ensures.value)

pub returns-then-first-last-clause-range : goal.returns-then-first-last-clause-range
returns-then-first-last-clause-range g c = λ _ address from to.
    let p = c.args.pass.now in
    let w = g.A.Address.width in
    let networks = key_networks g.A.Address.value c.args.keys.now in
    let size = length_networks g.A.Address.value c.args.keys.now in
    let here = network_at g.A.Address.value c.args.keys.now p.index c.index-keys-pass.result c.index-keys-pass.is c.if-pass-keys.true in
    let first : (at w networks p.index).0 ≡ c.number-first.result = ap (λ k. k.0) here ∙ sym c.number-first.ensures.value in
    opened_range w networks c.requires.keys p.index p.start p.lasts p.ends p.depth c.requires.passing (omega arith) (omega (arith, first, c.if-first-last.true))
    address from (omega (arith, first))

pub returns-then-last-pass-clause-rest : goal.returns-then-last-pass-clause-rest
returns-then-last-pass-clause-rest g c = λ _ address from to.
    let p = c.args.pass.now in
    let w = g.A.Address.width in
    let networks = key_networks g.A.Address.value c.args.keys.now in
    let size = length_networks g.A.Address.value c.args.keys.now in
    let widest : get_or p.lasts (p.depth - 1) 0 ≡ 2 ^ w - 1 = c.if-last-pass.true ∙ c.requires.passing.widest in
    let all : length networks ≤ p.index = elim c.if-pass-keys.branch [
      | then-pass-keys+else-first-last v ↦ absurd (omega (arith, v.if-first-last.false, v.number-first.ensures.fits, widest))
      | else-pass-keys v ↦ omega (arith, v.if-pass-keys.false)
    ] in
    ended w networks c.requires.keys p.index p.start p.lasts p.ends p.depth c.requires.passing all (omega arith) address from to

pub returns-clause-passing : goal.returns-clause-passing
returns-clause-passing g c = λ _.
    let p = c.args.pass.now in
    let w = g.A.Address.width in
    let networks = key_networks g.A.Address.value c.args.keys.now in
    let size = length_networks g.A.Address.value c.args.keys.now in
    let h = c.requires.passing in
    let two = two_open w networks c.requires.keys p.index p.start p.lasts p.ends p.depth h c.if-last-pass.false in
    closed w networks c.requires.keys p.index p.start (get_or p.lasts (p.depth - 1) 0) p.lasts p.ends p.depth h two refl
    (omega (arith, c.if-last-pass.false, h.nested 0 (p.depth - 1) (omega arith) (omega arith), h.widest))
    (elim c.if-pass-keys.branch [
      | then-pass-keys+else-first-last v ↦ λ l.
          omega (arith, v.if-first-last.false, v.number-first.ensures.value, ap (λ k. k.0) (network_at g.A.Address.value c.args.keys.now p.index v.index-keys-pass.result v.index-keys-pass.is v.if-pass-keys.true))
      | else-pass-keys v ↦ λ l. absurd (omega (arith, v.if-pass-keys.false))
    ])

pub returns-clause-edge : goal.returns-clause-edge
returns-clause-edge g c = λ _.
    let p = c.args.pass.now in
    let networks = key_networks g.A.Address.value c.args.keys.now in
    let h = c.requires.passing in
    let two = two_open g.A.Address.width networks c.requires.keys p.index p.start p.lasts p.ends p.depth h c.if-last-pass.false in
    closed_edge g.A.Address.width networks c.requires.keys p.index p.start (get_or p.lasts (p.depth - 1) 0) p.lasts p.ends p.depth h two refl

pub returns-clause-range : goal.returns-clause-range
returns-clause-range g c = λ _ address from to.
    let p = c.args.pass.now in
    let networks = key_networks g.A.Address.value c.args.keys.now in
    let size = length_networks g.A.Address.value c.args.keys.now in
    closed_range g.A.Address.width networks c.requires.keys p.index p.start (get_or p.lasts (p.depth - 1) 0) p.lasts p.ends p.depth c.requires.passing refl
    (elim c.if-pass-keys.branch [
      | then-pass-keys+else-first-last v ↦ λ l.
          omega (arith, v.if-first-last.false, v.number-first.ensures.value, ap (λ k. k.0) (network_at g.A.Address.value c.args.keys.now p.index v.index-keys-pass.result v.index-keys-pass.is v.if-pass-keys.true))
      | else-pass-keys v ↦ λ l. absurd (omega (arith, v.if-pass-keys.false))
    ])
    address from to
