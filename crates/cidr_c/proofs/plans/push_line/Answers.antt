use Rattle.std.proofs.Common.{ℕ, ◌∷◌, [], ap, inl, inr, length, refl, sym}
use Rattle.std.proofs.lemmas.List.{append-nil}
use Rattle.cidr_c.proofs.PlanLines.{no_rows}
use Rattle.cidr_c.proofs.plans.push_line.Goals as goal

pub returns-in_ok-push_content-in-Ok : goal.returns-in_ok-push_content-in-Ok
returns-in_ok-push_content-in-Ok c =
    let (networks, are, adds) = c.in_ok-push_content-in-Ok.ensures in
    record {
      own = adds.own;
      bad = [];
      all = adds.all;
      wrong = sym (append-nil c.args.faults.now.items);
      are = adds.are;
      tells = inl (c.in-Ok.content, c.in-Ok.name.0, c.in-Ok.name.1, networks, c.in-Ok.ensures.row, are, adds.rows, refl);
    }

pub returns-in_ok-push-in-Err : goal.returns-in_ok-push-in-Err
returns-in_ok-push-in-Err c = record {
  own = [];
  bad = record { line = c.args.number; text = c.args.at; text_len = length c.args.line.now; code = c.line_code.result; zero = 0 } ∷ [];
  all = sym (append-nil c.args.rows.now.items);
  wrong = c.in_ok-push-in-Err.ensures.items;
  are = no_rows;
  tells = inr (
    c.in-Err.e,
    c.in-Err.ensures.row,
    refl,
    ap (λ (code : ℕ). record { line = c.args.number; text = c.args.at; text_len = length c.args.line.now; code = code; zero = 0 } ∷ []) c.line_code.ensures,
  );
}
