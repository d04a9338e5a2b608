use Rattle.std.proofs.Common.{◌≡◌, sym, ◌∙◌, arith, Some, None, true, false}
use Rattle.cidr_mmdb.specs.Fields.{name_at}
use Rattle.cidr_mmdb.specs.Metadata.{end_at, is_named}
use Rattle.cidr_mmdb.proofs.Pairs.{pair_endless, pair_found, pair_nameless, pair_passed, pairs_done}
use Rattle.cidr_mmdb.proofs.metadata.value_of.Goals as goal

pub returns-in_err-string : goal.returns-in_err-string
returns-in_err-string c =
    let h : name_at c.args.section.now c.loop-left.place ≡ None = sym c.in_err-string.ensures.value in
    let r : c.from_residual.result ≡ None = cc in
    r ∙ sym (pair_nameless c.args.section.now c.args.name.now c.loop-left.left c.loop-left.place (omega arith) h) ∙ c.loop-left.invariant

pub returns-then-is_named : goal.returns-then-is_named
returns-then-is_named c =
    let h : name_at c.args.section.now c.loop-left.place ≡ Some (c.in_ok-string.string, c.in_ok-string.value) = sym c.in_ok-string.ensures.value in
    let is : is_named c.args.section.now c.in_ok-string.string c.args.name.now ≡ true = cc in
    sym (pair_found c.args.section.now c.args.name.now c.loop-left.left c.loop-left.place c.in_ok-string.string c.in_ok-string.value (omega arith) h is) ∙ c.loop-left.invariant

pub returns-in_err-place : goal.returns-in_err-place
returns-in_err-place c =
    let h : name_at c.args.section.now c.loop-left.place ≡ Some (c.in_ok-string.string, c.in_ok-string.value) = sym c.in_ok-string.ensures.value in
    let is : is_named c.args.section.now c.in_ok-string.string c.args.name.now ≡ false = cc in
    let e : end_at c.args.section.now 512 c.in_ok-string.value ≡ None = sym c.in_err-place.ensures in
    let r : c.from_residual-in_err-place.result ≡ None = cc in
    r ∙ sym (pair_endless c.args.section.now c.args.name.now c.loop-left.left c.loop-left.place c.in_ok-string.string c.in_ok-string.value (omega arith) h is e) ∙ c.loop-left.invariant

pub loop-left-preserved : goal.loop-left-preserved
loop-left-preserved c =
    let h : name_at c.args.section.now c.loop-left.place ≡ Some (c.in_ok-string.string, c.in_ok-string.value) = sym c.in_ok-string.ensures.value in
    let is : is_named c.args.section.now c.in_ok-string.string c.args.name.now ≡ false = cc in
    let e : end_at c.args.section.now 512 c.in_ok-string.value ≡ Some c.in_ok-place.place = sym c.in_ok-place.ensures in
    sym (pair_passed c.args.section.now c.args.name.now c.loop-left.left c.loop-left.place c.in_ok-string.string c.in_ok-string.value c.in_ok-place.place (omega arith) h is e) ∙ c.loop-left.invariant

pub returns : goal.returns
returns c = sym (pairs_done c.args.section.now c.args.name.now c.loop-left.left c.loop-left.place (omega arith)) ∙ c.loop-left.invariant
