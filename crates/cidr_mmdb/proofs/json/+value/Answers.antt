use Rattle.std.proofs.Common.{sym, ◌∙◌, ap, subst, arith, ◌<◌, Err, ◌≡◌}
use Rattle.cidr_mmdb.specs.Fields.{name_at}
use Rattle.cidr_mmdb.specs.Json.{behind, item_at, json_at}
use Rattle.cidr_mmdb.specs.Writing.{Ends}
use Rattle.cidr_mmdb.proofs.Texts.{json_of, listed_err, listed_more, listed_none, member_is, named_at}
use Rattle.cidr_mmdb.proofs.json.+value.Goals as goal

pub items-loop-left-preserved : goal.items-loop-left-preserved
items-loop-left-preserved t c =
    let one = item_at c.args.section.now (json_at c.args.section.now c.args.depth) c.args.named in
    let some : 0 < c.loop-left.left = omega arith in
    record {
      most = λ h. c.in-Ok.ensures.most (c.loop-left.invariant.most h);
      read = listed_more one c.loop-left.out.items c.item.new.out.items c.loop-left.first c.loop-left.left c.loop-left.end c.in-Ok.next some c.in-Ok.ensures.read
          ∙ c.loop-left.invariant.read;
    }

pub items-returns-in-Err-clause-read : goal.items-returns-in-Err-clause-read
items-returns-in-Err-clause-read t c =
    let one = item_at c.args.section.now (json_at c.args.section.now c.args.depth) c.args.named in
    let some : 0 < c.loop-left.left = omega arith in
    subst (Ends (Err c.in-Err.e) c.args.limit c.item.new.out.items) c.loop-left.invariant.read
    (listed_err c.in-Err.e c.args.limit c.item.new.out.items c.item.new.out.items c.loop-left.out.items one c.loop-left.first c.loop-left.left c.loop-left.end some c.in-Err.ensures.read)

pub items-returns-clause-read : goal.items-returns-clause-read
items-returns-clause-read t c =
    let one = item_at c.args.section.now (json_at c.args.section.now c.args.depth) c.args.named in
    sym c.loop-left.invariant.read ∙ listed_none one c.loop-left.out.items c.loop-left.first c.loop-left.left c.loop-left.end (omega arith)

pub value-returns-clause-read : goal.value-returns-clause-read
value-returns-clause-read t c =
    let some : 0 < c.args.depth = omega arith in
    let level = json_of c.args.section.now c.args.depth c.args.at c.in-Some.field some (sym c.field.ensures ∙ c.in-Some.is) in
    subst (Ends c.text_with.result c.args.limit c.text_with.new.out.items) (ap (behind c.args.out.now.items) (sym level)) c.text_with.ensures.read

pub member-returns-clause-read : goal.member-returns-clause-read
member-returns-clause-read t c =
    let name : name_at c.args.section.now c.args.at ≡ named_at c.in-Some.string c.in-Some.place = sym c.name.ensures.value ∙ c.in-Some.is in
    let written = member_is c.args.section.now c.args.depth c.args.at c.in-Some.string c.in-Some.place c.args.out.now.items c.push_string.new.out.items name c.in_ok-push_string.ensures in
    subst (Ends c.value.result c.args.limit c.value.new.out.items) (ap (λ x. behind x (json_at c.args.section.now c.args.depth c.in-Some.place)) c.in_ok-add.ensures.added ∙ written)
    c.value.ensures.read
