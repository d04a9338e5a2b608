use Rattle.std.proofs.Common.{refl, ◌+◌, ◌*◌, [], ◌∷◌, List, ℕ}
use Rattle.cidr_files.proofs.Parts.{behind_first, first_part}
use Rattle.cidr_files.proofs.opening.part_of.Goals as goal

pub returns-clause-parts : goal.returns-clause-parts
returns-clause-parts c =
    let n = c.args.size in
    let k = c.args.counts.now in
    let s5 : List ℕ = k.values ∷ [] in
    let s4 : List ℕ = 4 * (k.rows + 1) ∷ s5 in
    let s3 : List ℕ = k.rows ∷ s4 in
    let s2 : List ℕ = n * k.rows ∷ s3 in
    let s1 : List ℕ = 4 * k.words ∷ s2 in
    let p0 = c.in_ok-first in
    let p1 = c.in_ok-words in
    let p2 = c.in_ok-addresses in
    let p3 = c.in_ok-lengths in
    let p4 = c.in_ok-offsets in
    let p5 = c.in_ok-values in
    first_part (4 * k.entries) s1 c.args.bytes.now p0.first.now p0.rest.now _ p0.ensures.part p0.ensures.rest
    (first_part (4 * k.words) s2 p0.rest.now p1.words.now p1.rest.now _ p1.ensures.part p1.ensures.rest
    (first_part (n * k.rows) s3 p1.rest.now p2.addresses.now p2.rest.now _ p2.ensures.part p2.ensures.rest
    (first_part k.rows s4 p2.rest.now p3.lengths.now p3.rest.now _ p3.ensures.part p3.ensures.rest
    (first_part (4 * (k.rows + 1)) s5 p3.rest.now p4.offsets.now p4.rest.now _ p4.ensures.part p4.ensures.rest
    (first_part k.values [] p4.rest.now p5.values.now p5.rest.now [] p5.ensures.part p5.ensures.rest refl)))))

pub returns-clause-rest : goal.returns-clause-rest
returns-clause-rest c =
    let n = c.args.size in
    let k = c.args.counts.now in
    let s5 : List ℕ = k.values ∷ [] in
    let s4 : List ℕ = 4 * (k.rows + 1) ∷ s5 in
    let s3 : List ℕ = k.rows ∷ s4 in
    let s2 : List ℕ = n * k.rows ∷ s3 in
    let s1 : List ℕ = 4 * k.words ∷ s2 in
    let p0 = c.in_ok-first in
    let p1 = c.in_ok-words in
    let p2 = c.in_ok-addresses in
    let p3 = c.in_ok-lengths in
    let p4 = c.in_ok-offsets in
    let p5 = c.in_ok-values in
    let last = p5.rest.now in
    behind_first (4 * k.entries) s1 c.args.bytes.now p0.rest.now last p0.ensures.rest
    (behind_first (4 * k.words) s2 p0.rest.now p1.rest.now last p1.ensures.rest
    (behind_first (n * k.rows) s3 p1.rest.now p2.rest.now last p2.ensures.rest
    (behind_first k.rows s4 p2.rest.now p3.rest.now last p3.ensures.rest
    (behind_first (4 * (k.rows + 1)) s5 p3.rest.now p4.rest.now last p4.ensures.rest
    (behind_first k.values [] p4.rest.now p5.rest.now last p5.ensures.rest refl)))))
