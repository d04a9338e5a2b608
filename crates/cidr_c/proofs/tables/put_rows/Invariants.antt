use Rattle.std.proofs.Common.{◌≡◌, ℕ, ◌<◌, drop, get_or, length, map}
use Rattle.cidr_c.specs.model.Tables.{IsRowFound}
use Rattle.cidr_c.proofs.tables.put_rows.Given as goal

-- the first are answered, and what is behind them stays
abbrev pub invariant-loop-i : goal.invariant-loop-i
invariant-loop-i g l = record {
  fits : length l.out ≡ length l.fn.out;
  found : (k : ℕ) → k < l.i → IsRowFound g.A.Address.width g.A.Address.padding l.steps l.rows l.first l.words
      (get_or (map g.A.FromValue.pair l.asked) k (0, 0)) (get_or l.out k 0);
  behind : drop (length l.asked) l.out ≡ drop (length l.asked) l.fn.out;
}
