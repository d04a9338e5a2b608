-- An IPv4 text is four octets joined by dots, and each way out of the reader finds one missing.
use Rattle.std.proofs.Common.{refl, [], ◌∷◌}
use Rattle.cidr.proofs.OctetReading.{four_joined, ipv4_spelled}
use Rattle.cidr.proofs.addr.read_v4.read_ipv4.Goals as goal

pub returns-in_err-a : goal.returns-in_err-a
returns-in_err-a c = rw c.from_residual.ensures (λ a h.
    let (i, j, k, l, all) = four_joined _ a h in
    c.in_err-a.ensures i j (k ∷ l ∷ []) all)

pub returns-in_err-b : goal.returns-in_err-b
returns-in_err-b c = rw c.from_residual-in_err-b.ensures (λ a h.
    let (i, j, k, l, all) = four_joined _ a h in
    let three = ((c.in_ok-a.ensures i j (k ∷ l ∷ [])).0 all).1 in
    c.in_err-b.ensures j k (l ∷ []) three)

pub returns-in_err-c : goal.returns-in_err-c
returns-in_err-c c = rw c.from_residual-in_err-c.ensures (λ a h.
    let (i, j, k, l, all) = four_joined _ a h in
    let three = ((c.in_ok-a.ensures i j (k ∷ l ∷ [])).0 all).1 in
    let two = ((c.in_ok-b.ensures j k (l ∷ [])).0 three).1 in
    c.in_err-c.ensures k l [] two)

pub returns-in_err-d : goal.returns-in_err-d
returns-in_err-d c = rw c.from_residual-in_err-d.ensures (λ a h.
    let (i, j, k, l, all) = four_joined _ a h in
    let three = ((c.in_ok-a.ensures i j (k ∷ l ∷ [])).0 all).1 in
    let two = ((c.in_ok-b.ensures j k (l ∷ [])).0 three).1 in
    let one = ((c.in_ok-c.ensures k l []).0 two).1 in
    c.in_err-d.ensures l one)

pub returns : goal.returns
returns c =
    let two = (c.in_ok-c.ensures c.in_ok-c.c c.in_ok-d.d []).1 (refl, c.in_ok-d.ensures) in
    let three = (c.in_ok-b.ensures c.in_ok-b.b c.in_ok-c.c (c.in_ok-d.d ∷ [])).1 (refl, two) in
    ipv4_spelled _ _ _ _ _ ((c.in_ok-a.ensures c.in_ok-a.a c.in_ok-b.b (c.in_ok-c.c ∷ c.in_ok-d.d ∷ [])).1 (refl, three))
