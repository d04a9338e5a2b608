-- What calls return and leave: one value, many, look-ups, orders, rows, lines of text, lists, plans, and files that are written.
pub mod Calls
pub mod Batches
pub mod Lookups
pub mod Ordering
pub mod Rows
pub mod Lines
pub mod Lists
pub mod Plans
pub mod Writing
