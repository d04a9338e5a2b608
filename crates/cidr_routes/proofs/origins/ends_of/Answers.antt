use Rattle.std.proofs.Common.{◌≡◌, ◌+◌, ◌<◌, ℕ, List, [], ◌∷◌, length, get_or, sym, ap, ◌∙◌, arith, rules, Some}
use Rattle.std.proofs.lemmas.Option.{slice_get-get_or, slice_get_within, get_or_from_slice_get}
use Rattle.cidr_table.proofs.Beginnings.{cmp_exact}
use Rattle.cidr_routes.specs.declared.origins.Payload.{Payload}
use Rattle.cidr_routes.proofs.Ends.{ends_of_rows}
use Rattle.cidr_routes.proofs.origins.ends_of.Goals as goal

-- an element of a list that has some
any : {X : Type 0} (xs : List X) (k : ℕ) → k < length xs → X
any [] k lt = absurd (omega (arith, lt))
any (x ∷ xs) k lt = x

pub returns-clause-ends : goal.returns-clause-ends
returns-clause-ends g c =
    let exact = cmp_exact g.C.Ord.cmp g.C.BitString.bits g.met.C.NetworkBits.ordered g.met.C.NetworkBits.determined in
    let vs = c.args.payloads.now in
    let l = c.loop-i in
    let len : length l.rows.items ≡ length vs = search rules in
    let at : (k : ℕ) (d : Payload g.row.C.Denot) (e : g.row.C.Denot × ℕ) → k < length vs → get_or l.rows.items k e ≡ ((get_or vs k d).network, k + 1) =
    λ k d e lt. l.invariant.rows k d e (omega (arith, lt, len, l.invariant.len)) in
    ends_of_rows g.C.Ord.cmp g.met.C.Ord.total exact vs l.rows.items c.from_rows.result.rows
    (λ k u s.
    let within = slice_get_within vs k u s in
    slice_get-get_or l.rows.items k (u.network, k + 1) (omega (arith, within, len))
    ∙ ap Some (at k u (u.network, k + 1) within ∙ ap (λ v. (v.network, k + 1)) (get_or_from_slice_get vs k u u s)))
    (λ k row s.
    let within = slice_get_within l.rows.items k row s in
    let lt : k < length vs = omega (arith, within, len) in
    let u = get_or vs k (any vs k lt) in (
      u,
      slice_get-get_or vs k (any vs k lt) lt,
      sym (get_or_from_slice_get l.rows.items k row row s) ∙ at k (any vs k lt) row lt,
    ))
    c.from_rows.ensures.rows
