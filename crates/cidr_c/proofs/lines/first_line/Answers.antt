use Rattle.std.proofs.Common.{◌≡◌, ◌+◌, ◌-◌, List, ℕ, length, take, drop, length-drop, arith, subst, sym, true, []}
use Rattle.std.proofs.lemmas.List.{take_all}
use Rattle.cidr_c.specs.calls.Lines.{IsFirstLine}
use Rattle.cidr_c.proofs.LineSteps.{cut, uncut}
use Rattle.cidr_c.proofs.lines.first_line.Goals as goal

pub returns-in-Some : goal.returns-in-Some
returns-in-Some c =
    let text = c.args.text.now in
    let place = c.in-Some.place in
    let feed = c.in-Some.ensures in
    let all : take (length text - (place + 1)) (drop (place + 1) text) ≡ drop (place + 1) text =
    take_all (length text - (place + 1)) (drop (place + 1) text) (omega (arith, length-drop (place + 1) text)) in
    subst (λ (b : List ℕ). IsFirstLine text (take place text) b true) (sym all) (cut text place feed.before feed.within feed.here)

pub returns-in-None : goal.returns-in-None
returns-in-None c = uncut c.args.text.now (length c.args.text.now) c.in-None.ensures (omega arith) []
