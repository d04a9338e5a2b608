use Rattle.std.proofs.Common.{◌∙◌, ◌≡◌, Some}
use Rattle.cidr_uses.proofs.Routes.{row_of_key, contains_key, contains_at}
use Rattle.cidr_uses.proofs.routing_table.route.Goals as goal

pub returns : goal.returns
returns g c =
    let routes = c.args.routes.now.rows in
    let index = c.in_ok-index.index in
    let found = rw c.probe.ensures.rows at c.in_ok-index.ensures.index in
    let row = row_of_key routes index found.key found.here in
    let shown : c.copied.result ≡ Some (found.key, row.0) = c.copied.ensures ∙ (c.row.ensures.row ∙ row.1) in
    rw shown (record {
      there = contains_at routes index (found.key, row.0) row.1;
      begins = found.begins;
      longest = λ other there begins. found.longest other.0 (contains_key routes other there) begins;
    })
