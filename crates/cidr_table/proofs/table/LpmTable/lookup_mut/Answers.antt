use Rattle.std.proofs.Common.{refl, None}
use Rattle.cidr_table.proofs.Writes.{longest_value, longest_written}
use Rattle.cidr_table.proofs.table.LpmTable.lookup_mut.Goals as goal

pub returns-in_err-key : goal.returns-in_err-key
returns-in_err-key g c =
    let none = rw c.in_err-key.was at c.lookup.ensures.row in
    rw c.from_residual.ensures (
      (refl, λ w. tt, refl),
      record { writes_back = tt; value = (None, none, refl) },
    )

pub returns : goal.returns
returns g c =
    let bits = g.C.BitString.bits in
    let row = c.in_ok-key.field-0.now in
    let longest = rw c.in_ok-key.was at c.lookup.ensures.row in (
      (
        refl,
        λ w. longest_written bits (bits c.args.asked.now) c.args.self.now (c.get_mut.follows.lender w) row w (λ lent. lent.now) c.get_mut.result longest c.get_mut.ensures.value
            (c.get_mut.follows.holds w),
        c.get_mut.follows.holds-at-none,
      ),
      record { writes_back = tt; value = longest_value bits (bits c.args.asked.now) c.args.self.now.rows row _ longest c.get_mut.ensures.value },
    )
