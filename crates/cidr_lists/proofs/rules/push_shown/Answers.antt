use Rattle.std.proofs.Common.{ℕ, arith, length, subst, sym}
use Rattle.std.specs.Str.{chars}
use Rattle.std.proofs.lemmas.Iterator.{YieldsList-from_chars}
use Rattle.std.proofs.lemmas.Iterator.Consumers.{YieldsList-end, YieldsList-turn}
use Rattle.std.proofs.lemmas.List.{length_push}
use Rattle.cidr_io.specs.Shown.{shown_char}
use Rattle.cidr_lists.proofs.PrintedTexts.{AreAppended, all_appended, none_appended, one_appended}
use Rattle.cidr_lists.proofs.rules.push_shown.Goals as goal

pub loop-c-init : goal.loop-c-init
loop-c-init c = none_appended shown_char c.args.text.now.items (chars c.args.string.now)

pub loop-c-preserved : goal.loop-c-preserved
loop-c-preserved c =
    let t = YieldsList-turn (YieldsList-from_chars c.args.string.now c.utf8.string cc) c.loop-c.yielded _ c.loop-c.yielded_by _ _ c.in-Some.c c.in-Some.is c.next.ensures.steps in
    subst (λ (n : ℕ). AreAppended shown_char c.args.text.now.items (chars c.args.string.now) n c.extend_from_slice.new.self.items)
    (sym (length_push c.loop-c.yielded c.in-Some.c))
    (one_appended shown_char c.args.text.now.items (chars c.args.string.now) (length c.loop-c.yielded) c.in-Some.c c.loop-c.text.items c.extend_from_slice.new.self.items
    t.0 t.1 c.loop-c.invariant (rw (c.as_bytes.ensures.value, c.as_str.ensures.value, c.shown_char.ensures) at c.in_ok-extend_from_slice.ensures.items))

pub returns : goal.returns
returns c =
    let t = YieldsList-end (YieldsList-from_chars c.args.string.now c.utf8.string cc) c.loop-c.yielded _ c.loop-c.yielded_by _ _ c.in-None.is c.next.ensures.steps in
    all_appended shown_char c.args.text.now.items (chars c.args.string.now) (length c.loop-c.yielded) c.loop-c.text.items (omega (arith, t.1)) c.loop-c.invariant
