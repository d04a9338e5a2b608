-- The last of the rows of each prefix has its last place.
use Rattle.cidr_table.proofs.LastPlaces.{last_places}
use Rattle.cidr_table.proofs.table.load.LpmTable+C+usize.load.Goals as goal

pub returns-clause-loaded : goal.returns-clause-loaded
returns-clause-loaded g c =
    let (keys, listed, rows) = c.in_ok-rows.ensures in
    (keys, listed, last_places keys c.in_ok-rows.rows.items c.of_last_places.result.rows rows c.of_last_places.ensures.last)
