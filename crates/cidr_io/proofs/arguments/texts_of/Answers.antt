use Rattle.std.specs.String.{string_bytes}
use Rattle.std.proofs.Common.{◌≡◌, ◌+◌, Some, length, rules, ap, sym, subst, ◌∙◌}
use Rattle.cidr_io.specs.Arguments.{IsArgument}
use Rattle.cidr_io.specs.Shown.{byte_excerpt}
use Rattle.cidr_io.proofs.Reading.{not_text, one_more}
use Rattle.cidr_io.proofs.arguments.texts_of.Goals as goal

pub returns-in-Err : goal.returns-in-Err
returns-in-Err g c =
    let told = g.A.Arguments.told c.args.arguments.now in
    let texts = c.loop-texts.texts in
    let bytes = c.in-Some.bytes.items in
    let given = subst (λ index. IsArgument told index (Some bytes)) c.len.ensures (rw c.in-Some.is at c.in_ok-bytes.ensures.argument) in
    let same = ap byte_excerpt (c.as_bytes.ensures ∙ ap (λ v. v.items) c.in-Err.ensures.err) in
    not_text told texts.len texts.items bytes c.byte_excerpt.result.bytes c.loop-texts.invariant given (search rules) (c.byte_excerpt.ensures.text ∙ same)

pub loop-texts-preserved : goal.loop-texts-preserved
loop-texts-preserved g c =
    let told = g.A.Arguments.told c.args.arguments.now in
    let texts = c.loop-texts.texts in
    let bytes = c.in-Some.bytes.items in
    let given = subst (λ index. IsArgument told index (Some bytes)) c.len.ensures (rw c.in-Some.is at c.in_ok-bytes.ensures.argument) in
    let spelled = ap (λ v. v.items) c.in-Ok.ensures.ok in
    let longer : c.push.new.self.len ≡ texts.len + 1 =
    c.in-Ok-push.ensures.len ∙ ap (λ n. n + 1) (c.reserve.new.items.ok.0 ∙ ap length c.reserve.ensures.items ∙ sym texts.ok.0) in
    rw (longer, c.in-Ok-push.ensures.items, c.reserve.ensures.items) (one_more string_bytes told texts.len texts.items c.in-Ok.text bytes c.loop-texts.invariant given spelled)
