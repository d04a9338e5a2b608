use Rattle.std.proofs.Common.{◌∙◌, ◌<◌, length, refl, sym, subst, inl, arith, drop, ◌≡◌, ℕ}
use Rattle.std.proofs.lemmas.List.{drop-set-lt, length-map, length-set}
use Rattle.cidr_c.specs.model.Tables.{IsRowFound}
use Rattle.cidr_c.proofs.TableRows.{rows_more}
use Rattle.cidr_c.proofs.tables.put_rows.Goals as goal

pub loop-i-preserved : goal.loop-i-preserved
loop-i-preserved g c =
    let l = c.loop-i in
    let fits : l.i < length l.out = omega (arith, l.invariant.fits) in
    record {
      fits = length-set l.out l.i c.row_in.result ∙ l.invariant.fits;
      found = rows_more
          (IsRowFound g.A.Address.width g.A.Address.padding c.args.steps c.args.rows c.args.first.now c.args.words.now)
          g.A.FromValue.pair c.args.asked.now l.out l.i (record { high = 0; low = 0; tag = 0; zero_17 = 0; zero_18 = 0; zero_20 = 0 }) c.row_in.result (omega arith) fits c.row_in.ensures l.invariant.found;
      behind = drop-set-lt (length c.args.asked.now) l.out l.i c.row_in.result (omega arith) ∙ l.invariant.behind;
    }

pub returns : goal.returns
returns g c =
    let l = c.loop-i in
    let size = length-map c.args.asked.now g.A.FromValue.pair in
    record {
      rows_of = λ _ i lt. l.invariant.found i (omega (arith, size, lt));
      behind = subst (λ (n : ℕ). drop n l.out ≡ drop n c.args.out.now) (sym size) l.invariant.behind;
      room = λ z. absurd (omega (arith, z));
      fits = λ _. omega (arith, size, l.invariant.fits);
      codes = inl refl;
    }
