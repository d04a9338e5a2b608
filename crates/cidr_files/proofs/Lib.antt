-- The lemmas: words, parts that lie one behind the other, and the rows of a table.
pub mod Words
pub mod Parts
pub mod KeyRows
pub mod Joined
pub mod Files
pub mod Refusals
pub mod Putting
