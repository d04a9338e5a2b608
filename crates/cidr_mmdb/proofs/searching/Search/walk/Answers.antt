use Rattle.std.proofs.Common.{◌≡◌, ◌<◌, ◌^◌, ◌+◌, ◌-◌, sym, ◌∙◌, ap, subst, arith}
use Rattle.cidr_mmdb.specs.Trees.{record_at, walk}
use Rattle.cidr_mmdb.proofs.Starting.{meets}
use Rattle.cidr_mmdb.proofs.searching.Search.walk.Goals as goal

pub returns-then-width-eq32-clause-record : goal.returns-then-width-eq32-clause-record
returns-then-width-eq32-clause-record c = λ begins.
    let search = c.args.self.now in
    let step = record_at search.tree.record_size search.tree.bytes.now in
    let wide : search.width - 32 + 32 ≡ search.width = omega arith in
    let is : c.args.width ≡ 32 = omega arith in
    let small : c.args.address < 2 ^ 32 = subst (λ n. c.args.address < 2 ^ n) is c.requires.fits in
    c.walk.ensures.record ∙ ap (λ s. (walk step search.tree.node_count c.args.address s 32).0) begins
    ∙ sym (meets step search.tree.node_count c.args.address 32 0 (search.width - 32) small).record_is
    ∙ ap (λ n. (walk step search.tree.node_count c.args.address 0 n).0) wide

pub returns-then-width-eq32-clause-left : goal.returns-then-width-eq32-clause-left
returns-then-width-eq32-clause-left c = λ begins.
    let search = c.args.self.now in
    let step = record_at search.tree.record_size search.tree.bytes.now in
    let wide : search.width - 32 + 32 ≡ search.width = omega arith in
    let is : c.args.width ≡ 32 = omega arith in
    let small : c.args.address < 2 ^ 32 = subst (λ n. c.args.address < 2 ^ n) is c.requires.fits in
    let told = ap (λ l. 32 - l) c.walk.ensures.left ∙ ap (λ s. 32 - (walk step search.tree.node_count c.args.address s 32).1) begins
    ∙ sym (meets step search.tree.node_count c.args.address 32 0 (search.width - 32) small).left_is
    ∙ ap (λ n. 32 - (walk step search.tree.node_count c.args.address 0 n).1) wide in
    subst (λ w. w - c.walk.result.left ≡ w - (walk step search.tree.node_count c.args.address 0 search.width).1) (sym is) told
