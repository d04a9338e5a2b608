-- Access lists over packets, by the numbers of their fields. Regions, Parts and Searches are what private functions promise
-- each other.
pub mod Packets
pub mod Lists
pub mod Entries
pub mod Messages
pub mod Regions
pub mod Parts
pub mod Searches
