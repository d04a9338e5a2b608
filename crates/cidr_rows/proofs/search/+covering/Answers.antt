use Rattle.std.proofs.Common.{arith}
use Rattle.cidr_rows.proofs.Around.{more_found, none_found, one_found}
use Rattle.cidr_rows.proofs.KnownLengths.{none_told}
use Rattle.cidr_rows.proofs.search.+covering.Goals as goal

pub returns-in_default : goal.returns-in_default
returns-in_default g t c =
    none_found g.C.Ord.cmp g.C.BitString.bits g.met.C.NetworkBits.ordered (g.K.Keys.keys c.args.rows.now)
    (g.C.BitString.bits c.args.asked.now) c.args.out.now (λ s. c.in_default.ensures.longest s (none_told g.C.BitString.bits (g.K.Keys.keys c.args.rows.now)))

pub returns-then-len-eq0 : goal.returns-then-len-eq0
returns-then-len-eq0 g t c =
    one_found g.C.Ord.cmp g.C.BitString.bits g.met.C.NetworkBits.ordered (g.K.Keys.keys c.args.rows.now)
    (g.C.BitString.bits c.args.asked.now) c.in-Some.index c.in-Some.ensures.within (λ s. c.in-Some.ensures.longest s (none_told g.C.BitString.bits (g.K.Keys.keys c.args.rows.now))) c.key.result c.key.ensures
    c.min-len.result (omega (arith, c.min-len.ensures, c.len.ensures.value, c.len-2.ensures.value))
    c.args.out.now c.put.new.out c.put.result c.if-len-eq0.true c.put.ensures.put c.put.ensures.next

pub returns : goal.returns
returns g t c =
    more_found g.C.Ord.cmp g.C.BitString.bits g.met.C.NetworkBits.ordered (g.K.Keys.keys c.args.rows.now)
    (g.C.BitString.bits c.args.asked.now) c.in-Some.index c.in-Some.ensures.within (λ s. c.in-Some.ensures.longest s (none_told g.C.BitString.bits (g.K.Keys.keys c.args.rows.now))) c.key.result c.key.ensures
    c.min-len.result (omega (arith, c.min-len.ensures, c.len.ensures.value, c.len-2.ensures.value))
    (g.C.BitString.bits c.clip.new.self) (omega (arith, c.if-len-eq0.false)) c.clip.ensures.bits
    c.args.out.now c.covering-count.new.out c.put-2.new.out c.covering-count.result c.put-2.result c.covering-count.ensures
    c.put-2.ensures.put c.put-2.ensures.next
