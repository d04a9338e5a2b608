use Rattle.cidr.specs.model.Network.{HasWidth}
use Rattle.cidr_table.specs.model.CoverAddresses.{IsIpAddressBits}
use Rattle.cidr_forwarding.proofs.Calls.{holed_rows_same}
use Rattle.cidr_forwarding.proofs.tables.LpmTableSmallestTable.smallest_with_holes.Goals as goal

pub returns : goal.returns
returns g c =
    let e = c.in_ok-rows.ensures in
    let f = g.C.BitString.bits in
    let old = c.rows_of.result.now in
    let new = c.in_ok-rows.rows.items in
    rw (← c.rows_of.ensures.rows, c.table_of.ensures) (record {
      width = e.width;
      ip = e.ip;
      lookups = λ w l h. holed_rows_same f (HasWidth w) old new ((e.width w l h).same);
      ip_lookups = λ h. holed_rows_same f IsIpAddressBits old new ((e.ip h).same);
      kept = e.kept;
      kept_ip = e.kept_ip;
      fits = e.fits;
    })
