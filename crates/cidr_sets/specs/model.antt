-- What a set is: the networks that have its addresses, ranges and counts of these, pools and access lists.
pub mod Sets
pub mod Searches
pub mod Ranges
pub mod Counts
pub mod Pools
pub mod FirstRules
