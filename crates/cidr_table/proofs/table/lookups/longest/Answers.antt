use Rattle.std.proofs.Common.{◌≡◌, ◌-◌, sym, ◌∙◌, ap, arith, length, get_or}
use Rattle.std.proofs.lemmas.Bool.{true≢false}
use Rattle.std.specs.Map.{keys_of}
use Rattle.cidr_table.proofs.Insides.{key_at}
use Rattle.cidr_table.proofs.Reached.{reached_shorter, longest_row, no_row}
use Rattle.cidr_table.proofs.table.lookups.longest.Goals as goal

pub offset_bounds-rows-end : goal.offset_bounds-rows-end
offset_bounds-rows-end g c = omega (arith, (c.loop-end.invariant c.args.asked.now).within)

pub bounds-rows-end : goal.bounds-rows-end
bounds-rows-end g c = omega (arith, (c.loop-end.invariant c.args.asked.now).within)

pub upto_back-end-requires-clause-end : goal.upto_back-end-requires-clause-end
upto_back-end-requires-clause-end g c = omega (arith, (c.loop-end.invariant c.args.asked.now).within)

-- the key doesn't begin the asked bits: on to the keys up to those that it shares with them
pub loop-end-preserved : goal.loop-end-preserved
loop-end-preserved g c = λ any.
    let rows = c.args.rows.now in
    let a = g.C.BitString.bits c.args.asked.now in
    let index = c.loop-end.end - 1 in
    let row = c.index-rows-end.result in
    let key : get_or (keys_of rows) index any ≡ row.0 = key_at rows index any row (omega (arith, (c.loop-end.invariant any).within)) ∙ ap (λ x. x.0) (sym c.index-rows-end.is) in
    reached_shorter g.C.BitString.bits (keys_of rows) any a (length rows) c.loop-end.end c.upto_back-end.result
    c.shared_prefix_len-shared.result (omega arith) (c.loop-end.invariant any)
    (λ b. true≢false (sym (c.is_inside.ensures.1 (rw key at b)) ∙ c.if-is_inside.false))
    (rw key c.shared_prefix_len-shared.ensures)
    (rw c.clipped.ensures at (c.upto_back-end.ensures.reached any))

pub returns-then-is_inside : goal.returns-then-is_inside
returns-then-is_inside g c =
    let rows = c.args.rows.now in
    let a = g.C.BitString.bits c.args.asked.now in
    let row = c.index-rows-end.result in
    let h = c.loop-end.invariant row.0 in
    let key : get_or (keys_of rows) (c.loop-end.end - 1) row.0 ≡ row.0 = key_at rows (c.loop-end.end - 1) row.0 row (omega (arith, h.within)) ∙ ap (λ x. x.0) (sym c.index-rows-end.is) in
    (longest_row g.C.BitString.bits rows a c.loop-end.end row (omega arith) h (sym c.index-rows-end.is)
    (rw key (c.is_inside.ensures.0 c.if-is_inside.true)))

pub returns : goal.returns
returns g c =
    let rows = c.args.rows.now in
    let none : c.loop-end.end ≡ 0 = omega arith in
    (no_row g.C.BitString.bits rows (g.C.BitString.bits c.args.asked.now) c.args.asked.now
    (rw none at (c.loop-end.invariant c.args.asked.now)))
