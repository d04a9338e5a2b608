use Rattle.std.proofs.Common.{◌≡◌, ◌≤◌, ◌<◌, ◌^◌, ◌∙◌, sym, ap, arith}
use Rattle.cidr_mmdb.specs.Databases.{said_by}
use Rattle.cidr_mmdb.specs.Rows.{begin_behind, number_behind}
use Rattle.cidr_mmdb.specs.Trees.{record_at, walk}
use Rattle.cidr_mmdb.proofs.Passing.{behind_above, passed_more}
use Rattle.cidr_mmdb.proofs.searching.Search.next_row.Goals as goal

pub loop-left-preserved : goal.loop-left-preserved
loop-left-preserved c =
    let search = c.args.self.now in
    let n = c.loop-left.from in
    let left = c.walk-walk.result.left in
    let next : c.in-Some.next ≡ number_behind n left = c.in-Some.ensures.0 in
    let below : c.in-Some.next < 2 ^ search.width = c.in-Some.ensures.1 in
    let above : n < number_behind n left = behind_above n left in
    let ends : number_behind n left ≡ number_behind n (walk (record_at search.tree.record_size search.tree.bytes.now) search.tree.node_count n 0 search.width).1 =
    ap (number_behind n) c.walk-walk.ensures.left in
    let record_is = ap (said_by search.tree.node_count search.size) c.walk-walk.ensures.record in
    let nothing = sym record_is ∙ sym c.in-Nothing.ensures in
    record {
      few = omega arith;
      inside = below;
      far = omega (arith, c.loop-left.invariant.far);
      passed = passed_more search.tree.record_size search.tree.bytes.now search.tree.node_count search.width search.size (begin_behind c.args.after) n c.in-Some.next
          c.loop-left.invariant.passed nothing (omega (arith, next, ends));
    }

pub returns-in_default-number_behind : goal.returns-in_default-number_behind
returns-in_default-number_behind c =
    let search = c.args.self.now in
    let n = c.loop-left.from in
    let left = c.walk-walk.result.left in
    let most : 2 ^ search.width ≤ number_behind n left = c.in_default-number_behind.ensures in
    let ends : number_behind n left ≡ number_behind n (walk (record_at search.tree.record_size search.tree.bytes.now) search.tree.node_count n 0 search.width).1 =
    ap (number_behind n) c.walk-walk.ensures.left in
    let record_is = ap (said_by search.tree.node_count search.size) c.walk-walk.ensures.record in
    let nothing = sym record_is ∙ sym c.in-Nothing.ensures in
    passed_more search.tree.record_size search.tree.bytes.now search.tree.node_count search.width search.size (begin_behind c.args.after) n (2 ^ search.width)
    c.loop-left.invariant.passed nothing (omega (arith, most, ends))
