use Rattle.std.proofs.Common.{ap, sym, ◌∙◌, ℕ, length, arith}
use Rattle.std.specs.Str.{chars}
use Rattle.std.proofs.lemmas.Iterator.{YieldsList-from_chars}
use Rattle.std.proofs.lemmas.Iterator.Consumers.{YieldsList-end, YieldsList-turn}
use Rattle.std.proofs.lemmas.List.{length_push}
use Rattle.cidr_io.specs.Shown.{shown_char}
use Rattle.cidr_io.proofs.Cutting.{cut_behind, cut_here, cut_more, cut_none}
use Rattle.cidr_io.proofs.shown.cut_text.Goals as goal

pub returns-then-not-append_within : goal.returns-then-not-append_within
returns-then-not-append_within c =
    let t = YieldsList-turn (YieldsList-from_chars c.args.text.now c.utf8.text cc) c.loop-c.yielded _ c.loop-c.yielded_by _ _ c.in-Some.c c.in-Some.is c.next.ensures.steps in
    cut_here shown_char c.loop-c.short.bytes c.append_within.new.text.bytes (chars c.args.text.now) (length c.loop-c.yielded) c.in-Some.c c.as_str.result.now
    c.append_within.result t.0 t.1 c.append_within.ensures.appends c.if-not-append_within.true (c.as_str.ensures.value ∙ c.shown_char.ensures)
    ∙ c.loop-c.invariant.cut

pub loop-c-preserved : goal.loop-c-preserved
loop-c-preserved c =
    let t = YieldsList-turn (YieldsList-from_chars c.args.text.now c.utf8.text cc) c.loop-c.yielded _ c.loop-c.yielded_by _ _ c.in-Some.c c.in-Some.is c.next.ensures.steps in
    record {
      within = c.append_within.ensures.within c.if-not-append_within.false;
      cut = ap (λ (n : ℕ). cut_behind shown_char c.append_within.new.text.bytes n (chars c.args.text.now)) (length_push c.loop-c.yielded c.in-Some.c)
          ∙ (cut_more shown_char c.loop-c.short.bytes c.append_within.new.text.bytes (chars c.args.text.now) (length c.loop-c.yielded) c.in-Some.c c.as_str.result.now
          c.append_within.result t.0 t.1 c.append_within.ensures.appends c.if-not-append_within.false (c.as_str.ensures.value ∙ c.shown_char.ensures)
          ∙ c.loop-c.invariant.cut);
    }

pub returns : goal.returns
returns c =
    let t = YieldsList-end (YieldsList-from_chars c.args.text.now c.utf8.text cc) c.loop-c.yielded _ c.loop-c.yielded_by _ _ c.in-None.is c.next.ensures.steps in
    sym (cut_none shown_char c.loop-c.short.bytes (chars c.args.text.now) (length c.loop-c.yielded) (omega (arith, t.1))) ∙ c.loop-c.invariant.cut
