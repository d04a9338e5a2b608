use Rattle.std.proofs.Common.{◌≡◌, ap, arith, length, refl, sym, ◌∙◌}
use Rattle.cidr_c.proofs.PrintedBoth.{both_printed}
use Rattle.cidr_c.proofs.masks.print_both.Goals as goal

pub returns-then-end-out : goal.returns-then-end-out
returns-then-end-out c =
    let first : c.copy_from_slice.new.self ≡ c.args.front.now = c.copy_from_slice.ensures.after ∙ c.as_bytes.ensures.value in
    let second : c.copy_from_slice-then-end-out.new.self ≡ c.args.back.now =
    c.copy_from_slice-then-end-out.ensures.after ∙ c.as_bytes-then-end-out.ensures.value in
    both_printed c.copy_from_slice.new.self c.copy_from_slice-then-end-out.new.self c.args.out.now (length c.args.front.now) (length c.args.back.now)
    (ap length (sym first)) (ap length (sym second)) (omega arith) c.args.front.now c.args.back.now _ _ first second refl refl
