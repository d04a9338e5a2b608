use Rattle.std.proofs.Common.{◌≡◌, ℕ, List, length, ap, sym, ◌∙◌, subst, take, get_or, Ok, Err, arith}
use Rattle.std.specs.List.{flat_map}
use Rattle.std.specs.Str.{chars}
use Rattle.std.proofs.lemmas.Iterator.{YieldsList-from_chars}
use Rattle.std.proofs.lemmas.Iterator.Consumers.{YieldsList-end, YieldsList-turn}
use Rattle.std.proofs.lemmas.List.{length_push}
use Rattle.std.proofs.lemmas.Result.{err_from_is_err_and}
use Rattle.cidr_io.specs.Collecting.{Collects}
use Rattle.cidr_io.specs.Shown.{shown_char}
use Rattle.cidr_io.proofs.Collected.{all_collected, none_collected, part_collected, part_lost}
use Rattle.cidr_io.proofs.block.Block.push_shown.Goals as goal

pub loop-c-init : goal.loop-c-init
loop-c-init g c = none_collected (g.S.Sink.state c.args.out.now) c.args.self.now

pub returns-in_err-push : goal.returns-in_err-push
returns-in_err-push g c =
    let t = YieldsList-turn (YieldsList-from_chars c.args.text.now c.utf8.text cc) c.loop-c.yielded _ c.loop-c.yielded_by _ _ c.in-Some.c c.in-Some.is c.next.ensures.steps in
    let (y, is, same) = err_from_is_err_and c.from_residual.result c.from_residual.ensures.1 in
    let shows : c.as_bytes.result.now ≡ shown_char (get_or (chars c.args.text.now) (length c.loop-c.yielded) c.in-Some.c) =
    c.as_bytes.ensures.value ∙ (c.as_str.ensures.value ∙ (c.shown_char.ensures ∙ ap shown_char t.1)) in
    part_lost shown_char (g.S.Sink.state c.args.out.now) (g.S.Sink.state c.loop-c.out) (g.S.Sink.state c.push.new.out)
    c.args.self.now c.loop-c.self c.push.new.self (chars c.args.text.now) (length c.loop-c.yielded) c.in-Some.c c.from_residual.result y is
    t.0 c.loop-c.invariant (subst (λ (b : List ℕ). Collects (g.S.Sink.state c.loop-c.out) (g.S.Sink.state c.push.new.out) c.loop-c.self c.push.new.self b (Err y)) shows c.in_err-push.ensures)

pub loop-c-preserved : goal.loop-c-preserved
loop-c-preserved g c =
    let t = YieldsList-turn (YieldsList-from_chars c.args.text.now c.utf8.text cc) c.loop-c.yielded _ c.loop-c.yielded_by _ _ c.in-Some.c c.in-Some.is c.next.ensures.steps in
    let shows : c.as_bytes.result.now ≡ shown_char (get_or (chars c.args.text.now) (length c.loop-c.yielded) c.in-Some.c) =
    c.as_bytes.ensures.value ∙ (c.as_str.ensures.value ∙ (c.shown_char.ensures ∙ ap shown_char t.1)) in
    subst (λ (n : ℕ). Collects (g.S.Sink.state c.args.out.now) (g.S.Sink.state c.push.new.out) c.args.self.now c.push.new.self (flat_map shown_char (take n (chars c.args.text.now))) (Ok tt))
    (sym (length_push c.loop-c.yielded c.in-Some.c))
    (part_collected shown_char (g.S.Sink.state c.args.out.now) (g.S.Sink.state c.loop-c.out) (g.S.Sink.state c.push.new.out)
    c.args.self.now c.loop-c.self c.push.new.self (chars c.args.text.now) (length c.loop-c.yielded) c.in-Some.c
    t.0 c.loop-c.invariant (subst (λ (b : List ℕ). Collects (g.S.Sink.state c.loop-c.out) (g.S.Sink.state c.push.new.out) c.loop-c.self c.push.new.self b (Ok tt)) shows c.in_ok-push.ensures))

pub returns : goal.returns
returns g c =
    let t = YieldsList-end (YieldsList-from_chars c.args.text.now c.utf8.text cc) c.loop-c.yielded _ c.loop-c.yielded_by _ _ c.in-None.is c.next.ensures.steps in
    all_collected shown_char (g.S.Sink.state c.args.out.now) (g.S.Sink.state c.loop-c.out)
    c.args.self.now c.loop-c.self (chars c.args.text.now) (length c.loop-c.yielded) (omega (arith, t.1)) c.loop-c.invariant
