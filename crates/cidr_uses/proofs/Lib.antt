-- The parts of the headline, what is read back, what a pool gives, which lines are refused, what bytes begin with, the rows
-- of a table, which network lies in a list made shorter, what is left of a pool, which rules decide, sets of ranges, and
-- the names of networks.
pub mod AccessLists
pub mod Aggregates
pub mod FreeNetworkSets
pub mod Headlines
pub mod ReadBack
pub mod Readings
pub mod RangeSets
pub mod Pools
pub mod ConfigLines
pub mod Agreements
pub mod Fronts
pub mod LanNames
pub mod PrefixFronts
pub mod Routes
pub mod RouteHits
pub mod StrictParsers
pub mod WalkCalls
pub mod Differences
pub mod SubnetParts
