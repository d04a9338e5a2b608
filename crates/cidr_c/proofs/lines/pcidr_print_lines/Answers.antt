use Rattle.std.proofs.Common.{◌≡◌, ◌∙◌, ap, arith, inr, length, refl}
use Rattle.cidr.specs.either.IpText.{any_network_text}
use Rattle.cidr.specs.texts.Printed.{plain_text}
use Rattle.cidr.specs.declared.cidr.any.AnyIpCidr.{AnyIpCidr}
use Rattle.cidr_c.specs.declared.values.CValue.{CValue}
use Rattle.cidr_c.proofs.LineSteps.{line_over, line_printed, lines_fit, same_behind}
use Rattle.cidr_c.proofs.lines.pcidr_print_lines.Goals as goal

pub loop-value-preserved : goal.loop-value-preserved
loop-value-preserved c =
    let told = c.in-Some.ensures in
    let so_far = c.loop-value.invariant in
    let more = line_printed c.args.networks.now c.loop-value.value-index (record { high = 0; low = 0; tag = 0; zero_17 = 0; zero_18 = 0; zero_20 = 0 }) c.as_str.result.now c.loop-value.out
    c.print_line.new.out c.loop-value.end c.in-Some-print_line.next c.loop-value-test.true so_far.1 so_far.2 told.0
    (c.as_str.ensures.value ∙ (c.to_text.ensures.text ∙ ap (λ (n : AnyIpCidr). any_network_text plain_text n) told.1)) c.in-Some-print_line.ensures.line in (
      more.0,
      more.1,
      more.2,
      omega (arith, c.in-Some-print_line.ensures.room, c.to_text.ensures.len, ap length c.as_str.ensures.value, so_far.3),
      c.print_line.ensures.size ∙ so_far.4,
      same_behind c.loop-value.end c.in-Some-print_line.next c.args.out.now c.loop-value.out c.print_line.new.out
          (omega (arith, c.in-Some-print_line.ensures.room)) so_far.5 c.in-Some-print_line.ensures.behind,
    )

pub returns-in-None : goal.returns-in-None
returns-in-None c =
    let told = c.in-Some.ensures in
    let l = c.loop-value in
    let first : CValue = record { high = 0; low = 0; tag = 0; zero_17 = 0; zero_18 = 0; zero_20 = 0 } in
    let same : c.print_line.new.out ≡ l.out = c.in-None.ensures.line in
    let fits = lines_fit c.args.networks.now l.value-index l.end l.out l.invariant.0 l.invariant.2 in
    let over = line_over c.args.networks.now l.value-index l.end l.out l.invariant.0 l.invariant.2 first c.as_str.result.now c.loop-value-test.true
    l.invariant.1 told.0
    (c.as_str.ensures.value ∙ (c.to_text.ensures.text ∙ ap (λ (n : AnyIpCidr). any_network_text plain_text n) told.1)) c.in-None.ensures.room in
    record {
      networks = λ z. absurd (omega (arith, z));
      text = λ z. absurd (omega (arith, z));
      behind = λ z. absurd (omega (arith, z));
      value = λ z. absurd (omega (arith, z));
      room = λ enough _. omega (arith, enough, c.in-None.ensures.room, c.to_text.ensures.len, ap length c.as_str.ensures.value, l.invariant.3, ap length same, c.loop-value-test.true);
      codes = inr (inr refl);
      stays = λ _. refl;
      first_value = λ z. absurd (omega (arith, z));
      first_line = λ _. (l.value-index, (l.invariant.1, omega (arith, fits, ap length same)), over.0, omega (arith, over.1, ap length same));
    }
