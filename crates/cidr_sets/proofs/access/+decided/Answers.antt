use Rattle.std.proofs.Common.{length, map, ◌/◌, subst, []}
use Rattle.cidr_table.specs.model.Cover.{Covers}
use Rattle.cidr_sets.specs.model.Sets.{IsSetOf}
use Rattle.cidr_sets.specs.model.FirstRules.{IsPermitted}
use Rattle.cidr_sets.proofs.FirstRules.{matched_by_both, permitted_by_both}
use Rattle.cidr_sets.proofs.access.+decided.Goals as goal

pub returns-clause-permitted : goal.returns-clause-permitted
returns-clause-permitted g t c =
    let f = g.C.BitString.bits in
    let xs = c.args.rules.now in
    let earlier = c.in_ok-earlier.earlier in
    let later = c.in_ok-later.later in
    let matched = subst (λ ys. IsSetOf 129 (Covers (map (λ r. f r.network) ys)) (map f earlier.matched)) c.split_at.ensures.front c.in_ok-earlier.ensures.matched in
    let first = subst (λ ys. IsSetOf 129 (IsPermitted (map (λ r. f r.network) ys) (map (λ r. r.action) ys)) (map f earlier.permitted)) c.split_at.ensures.front
    c.in_ok-earlier.ensures.permitted in
    let second = subst (λ ys. IsSetOf 129 (IsPermitted (map (λ r. f r.network) ys) (map (λ r. r.action) ys)) (map f later.permitted)) c.split_at.ensures.back
    c.in_ok-later.ensures.permitted in
    permitted_by_both (λ r. f r.network) (λ r. r.action) xs (length xs / 2) (map f earlier.permitted) (map f later.permitted) (map f earlier.matched) []
    matched (map f c.in_ok-left.left) (map f c.in_ok-permitted-2.permitted) first second c.in_ok-left.ensures.set c.in_ok-permitted-2.ensures.set

pub returns-clause-matched : goal.returns-clause-matched
returns-clause-matched g t c =
    let f = g.C.BitString.bits in
    let xs = c.args.rules.now in
    let earlier = c.in_ok-earlier.earlier in
    let later = c.in_ok-later.later in
    let first = subst (λ ys. IsSetOf 129 (Covers (map (λ r. f r.network) ys)) (map f earlier.matched)) c.split_at.ensures.front c.in_ok-earlier.ensures.matched in
    let second = subst (λ ys. IsSetOf 129 (Covers (map (λ r. f r.network) ys)) (map f later.matched)) c.split_at.ensures.back c.in_ok-later.ensures.matched in
    matched_by_both (λ r. f r.network) (λ r. r.action) xs (length xs / 2) [] [] (map f earlier.matched) (map f later.matched) first
    (map f c.in_ok-matched-2.matched) second c.in_ok-matched-2.ensures.set
