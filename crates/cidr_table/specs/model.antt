-- What a table is: its rows as a map, what begins with what, what is loaded and the messages of its errors, which of
-- several rows counts, what a reference to a value and a closure leave, what is printed, and the least cover.
pub mod FiniteMap
pub mod Prefixes
pub mod LastRows
pub mod Lends
pub mod Loading
pub mod Messages
pub mod Cover
pub mod CoverAddresses
pub mod Writing
pub mod Printing
